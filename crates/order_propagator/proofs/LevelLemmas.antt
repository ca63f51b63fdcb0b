-- Levels and their decisions, with other names of the reasons.
use Rattle.std.proofs.Common.{◌≡◌, ◌≢◌, ℕ, ◌-◌, ◌+◌, ◌<◌, ◌≤◌, Bool, Option, Some, None, IsSome, option_map, List, ◌∷◌, ◌++◌, length, get_or, map, ap, refl, ◌∙◌, subst, arith, All, AllPairs, add-one, length-append}
use Rattle.std.proofs.lemmas.List.{get_or_at, get_or-append-add, map-append}
use Rattle.std.proofs.lemmas.List.Elements.{All-cons, All-map, All-weaker}
use Rattle.list_base.proofs.Mapped.{mapped_pairs}
use Rattle.sat_trail.specs.declared.entry.Entry.{Entry}
use Rattle.sat_trail.specs.Entry.{up_to}
use Rattle.sat_trail.specs.Levels.{HasLevels, HasOneDecision}
use Rattle.sat_trail.specs.State.{State}
use Rattle.order_axioms.specs.declared.order.Order.{Order}
use Rattle.order_propagator.specs.declared.named_trail.NamedTrail.{NamedTrail}
use Rattle.order_propagator.specs.inner.Names.{name_of}
use Rattle.order_propagator.specs.inner.Whole.{renamed, whole_state}
use Rattle.order_propagator.proofs.EntryLemmas.{up_to-both}
use Rattle.order_propagator.proofs.MapLemmas.{mapped_split}

-- a reason has a name
pub reason-named : (names : List ℕ) (e : Entry) → IsSome e.reason → IsSome (renamed names e).reason
reason-named names e some = named e.reason some
  where
    named : (o : Option ℕ) → IsSome o → IsSome (option_map (name_of names) o)
    named None none = none
    named (Some n) given = refl

-- what has no name is no reason
reason-none : (names : List ℕ) (e : Entry) → (renamed names e).reason ≡ None → e.reason ≡ None
reason-none names e none = unnamed e.reason none
  where
    unnamed : (o : Option ℕ) → option_map (name_of names) o ≡ None → o ≡ None
    unnamed None is = refl
    unnamed (Some n) is = cc

-- the entries before a decision are of lower levels
decisions-renamed : (names : List ℕ) (t : State) (before after : List Entry) (e : Entry) → HasLevels t → map (renamed names) t.entries ≡ before ++ e ∷ after → e.reason ≡ None → All (λ d. d.level < e.level) before
decisions-renamed names t before after e levels whole none =
    let split = mapped_split (renamed names) t.entries before e after whole in
    let undecided : split.middle.reason ≡ None = reason-none names split.middle (ap (λ (d : Entry). d.reason) split.item_is ∙ none) in
    let lower : All (λ d. d.level < split.middle.level) split.first = levels.decisions_rise split.first split.last split.middle split.whole undecided in
    let same : split.middle.level ≡ e.level = ap (λ (d : Entry). d.level) split.item_is in
    subst (All (λ d. d.level < e.level)) split.before_is
    (All-map (λ (d : Entry). d.level < e.level) (renamed names) split.first (subst (λ n. All (λ (d : Entry). d.level < n) split.first) same lower))

-- a level has its decision
decision-renamed : (names : List ℕ) (entries : List Entry) (level : ℕ) → HasOneDecision entries level → HasOneDecision (map (renamed names) entries) level
decision-renamed names entries level one = record {
  before = map (renamed names) one.before;
  decision = renamed names one.decision;
  after = map (renamed names) one.after;
  whole = ap (map (renamed names)) one.whole ∙ map-append (renamed names) one.before (one.decision ∷ one.after);
  decided = ap (option_map (name_of names)) one.decided;
  at_level = one.at_level;
  first = All-map (λ (e : Entry). e.level < level) (renamed names) one.before one.first;
  only = All-map (λ (e : Entry). e.level ≡ level → IsSome e.reason) (renamed names) one.after
      (All-weaker (λ (e : Entry). e.level ≡ level → IsSome e.reason) (λ (e : Entry). e.level ≡ level → IsSome (renamed names e).reason) (λ e some same. reason-named names e (some same)) one.after one.only);
}

-- the levels of a trail are those of the whole formula
pub levels-renamed : (order : Order) (t : NamedTrail) (places : List ℕ) (ready : Bool) → HasLevels t.trail → HasLevels (whole_state order t places ready)
levels-renamed order t places ready levels = record {
  once = mapped_pairs (λ (d e : Entry). d.lit.var ≢ e.lit.var) (renamed t.names) t.trail.entries levels.once;
  rising = mapped_pairs (λ (d e : Entry). d.level ≤ e.level) (renamed t.names) t.trail.entries levels.rising;
  highest = All-map (λ (e : Entry). e.level ≤ t.trail.level) (renamed t.names) t.trail.entries levels.highest;
  no_decision = All-map (λ (e : Entry). e.level ≡ 0 → IsSome e.reason) (renamed t.names) t.trail.entries
      (All-weaker (λ (e : Entry). e.level ≡ 0 → IsSome e.reason) (λ (e : Entry). e.level ≡ 0 → IsSome (renamed t.names e).reason) (λ e some low. reason-named t.names e (some low)) t.trail.entries levels.no_decision);
  decisions_rise = λ before after e. decisions-renamed t.names t.trail before after e levels;
  one_decision = λ level above reached. decision-renamed t.names t.trail.entries level (levels.one_decision level above reached);
}

-- an entry of a list, and those after it, by their places
after-levels : (entries before after : List Entry) (e : Entry) → AllPairs (λ c d. c.level ≤ d.level) entries → entries ≡ before ++ e ∷ after → All (λ d. e.level ≤ d.level) after
after-levels entries before after e rising whole k d within =
    subst (λ n. n ≤ (get_or after k d).level) first (subst (λ n. (get_or (before ++ e ∷ after) (length before) d).level ≤ n) second
    (subst (AllPairs (λ (c d : Entry). c.level ≤ d.level)) whole rising (length before) (length before + (k + 1)) d (omega arith) inside))
  where
    first : (get_or (before ++ e ∷ after) (length before) d).level ≡ e.level
    first = ap (λ (c : Entry). c.level) (get_or_at before e after d (length before) refl)

    second : (get_or (before ++ e ∷ after) (length before + (k + 1)) d).level ≡ (get_or after k d).level
    second = ap (λ (c : Entry). c.level) (get_or-append-add before (e ∷ after) (k + 1) d ∙ ap (λ i. get_or (e ∷ after) i d) (add-one k))

    inside : length before + (k + 1) < length (before ++ e ∷ after)
    inside = omega (arith, within, length-append before (e ∷ after))

-- the entries before a decision are those of lower levels
pub before-decision : (t : State) (before after : List Entry) (e : Entry) → HasLevels t → t.entries ≡ before ++ e ∷ after → e.reason ≡ None → 0 < e.level → up_to (e.level - 1) t.entries ≡ before
before-decision t before after e levels whole none above =
    ap (up_to (e.level - 1)) whole ∙ up_to-both (e.level - 1) before (e ∷ after)
    (All-weaker (λ (d : Entry). d.level < e.level) (λ (d : Entry). d.level ≤ e.level - 1) (λ d lower. omega (arith, lower)) before (levels.decisions_rise before after e whole none))
    (All-cons (λ (d : Entry). e.level - 1 < d.level) e after (omega (arith, above))
    (All-weaker (λ (d : Entry). e.level ≤ d.level) (λ (d : Entry). e.level - 1 < d.level) (λ d higher. omega (arith, higher, above)) after (after-levels t.entries before after e levels.rising whole)))
