-- The first difference that the cells show is that of the history, and without one all values agree.
use Rattle.std.proofs.Common.{◌≡◌, ◌≢◌, ℕ, List, [], ◌∷◌, ◌++◌, Option, None, Some, refl, sym, ap, ◌∙◌}
use Rattle.std.specs.Prelude.{MatchOption}
use Rattle.std.specs.List.{All, Contains}
use Rattle.std.specs.Option.{option_or}
use Rattle.std.proofs.lemmas.Bool.{cond_both, true≢false}
use Rattle.std.proofs.lemmas.List.Elements.{All-cons, All-nil}
use Rattle.list_base.proofs.Members.{here, there}
use Rattle.bspl_types.specs.declared.event.Event.{Event}
use Rattle.bspl_types.specs.declared.event.Instance.{Instance}
use Rattle.bspl_types.specs.declared.expanded.Expanded.{Expanded}
use Rattle.bspl_types.specs.declared.protocol.Carried.{Carried}
use Rattle.bspl_types.specs.declared.value.Value.{Value}
use Rattle.bspl_types.specs.Instance.{pairs}
use Rattle.bspl_types.specs.Knowledge.{Knows}
use Rattle.bspl_types.specs.Value.{SameValuesAreOne, same_value}
use Rattle.stamped_history.specs.Local.{KnowsOneValue}
use Rattle.local_store.specs.declared.receipt.Receipt.{Receipt}
use Rattle.local_store.specs.declared.receipt.Receipt.TheVariants.{Fresh, Repeat, Differs}
use Rattle.local_store.specs.Reception.{Agrees, AllAgree}
use Rattle.local_store.specs.inner.Difference.{NamesDifference, difference, first_difference}
use Rattle.local_store.proofs.KnownLemmas.{Reads}

-- the first difference among some pairs
record FirstIn (x : Expanded) (history : List Event) (key : List Value) (all : List (Carried × Value)) (p : ℕ) (kept arrived : Value) : Type 0 where
  before : List (Carried × Value)
  differing : Carried × Value
  after : List (Carried × Value)
  split : all ≡ before ++ differing ∷ after
  agreed : All (Agrees x history key) before
  param_is : p ≡ differing.0.param
  arrived_is : arrived ≡ differing.1
  knows : Knows x history key p kept
  differs : kept ≢ arrived

abbrev NamesIn : Expanded → List Event → List Value → List (Carried × Value) → Receipt → Type 0
NamesIn x history key all Fresh = ⊥
NamesIn x history key all Repeat = ⊥
NamesIn x history key all (Differs p kept arrived) = FirstIn x history key all p kept arrived

module _ (law : SameValuesAreOne) (x : Expanded) (history : List Event) (key : List Value) (one : KnowsOneValue x history) where
  -- what one cell shows
  shows : (cell : Option Value) (pair : Carried × Value) (rest : List (Carried × Value)) → Reads x history key pair.0.param cell → MatchOption (difference cell pair) (Agrees x history key pair) (NamesIn x history key (pair ∷ rest))
  shows None pair rest reads = λ v known. absurd (reads (v, known))
  shows (Some kept) pair rest reads =
      cond_both (same_value kept pair.1) None (Some (Differs pair.0.param kept pair.1)) (λ o. MatchOption o (Agrees x history key pair) (NamesIn x history key (pair ∷ rest)))
      (λ same v known. one key pair.0.param v kept known reads ∙ (law kept pair.1).0 same)
      (λ other. record { before = []; differing = pair; after = rest; split = refl; agreed = All-nil (Agrees x history key); param_is = refl; arrived_is = refl; knows = reads; differs = λ is. true≢false (sym ((law kept pair.1).1 is) ∙ other) })

  later_names : (pair : Carried × Value) (rest : List (Carried × Value)) → Agrees x history key pair → (r : Receipt) → NamesIn x history key rest r → NamesIn x history key (pair ∷ rest) r
  later_names pair rest agrees Fresh names = names
  later_names pair rest agrees Repeat names = names
  later_names pair rest agrees (Differs p kept arrived) f = record { before = pair ∷ f.before; differing = f.differing; after = f.after; split = ap (λ ps. pair ∷ ps) f.split; agreed = All-cons (Agrees x history key) pair f.before agrees f.agreed; param_is = f.param_is; arrived_is = f.arrived_is; knows = f.knows; differs = f.differs }

  joined : (pair : Carried × Value) (rest : List (Carried × Value)) (found later : Option Receipt) → MatchOption found (Agrees x history key pair) (NamesIn x history key (pair ∷ rest)) → MatchOption later (All (Agrees x history key) rest) (NamesIn x history key rest) → MatchOption (option_or found later) (All (Agrees x history key) (pair ∷ rest)) (NamesIn x history key (pair ∷ rest))
  joined pair rest None None agrees all = All-cons (Agrees x history key) pair rest agrees all
  joined pair rest None (Some r) agrees names = later_names pair rest agrees r names
  joined pair rest (Some r) later names means = names

  shown : (cell : ℕ → Option Value) (all : List (Carried × Value)) → ((c : Carried) (v : Value) → Contains all (c, v) → Reads x history key c.param (cell c.param)) → MatchOption (first_difference cell all) (All (Agrees x history key) all) (NamesIn x history key all)
  shown cell [] reads = All-nil (Agrees x history key)
  shown cell (pair ∷ rest) reads = joined pair rest (difference (cell pair.0.param) pair) (first_difference cell rest)
      (shows (cell pair.0.param) pair rest (reads pair.0 pair.1 (here pair rest))) (shown cell rest (λ c v among. reads c v (there pair rest (c, v) among)))

named : (x : Expanded) (history : List Event) (i : Instance) (r : Receipt) → NamesIn x history i.key (pairs x i) r → NamesDifference x history i r
named x history i Fresh names = names
named x history i Repeat names = names
named x history i (Differs p kept arrived) f = record { before = f.before; differing = f.differing; after = f.after; split = f.split; agreed = f.agreed; param_is = f.param_is; arrived_is = f.arrived_is; knows = f.knows; differs = f.differs }

named_maybe : (x : Expanded) (history : List Event) (i : Instance) (o : Option Receipt) → MatchOption o (AllAgree x history i) (NamesIn x history i.key (pairs x i)) → MatchOption o (AllAgree x history i) (NamesDifference x history i)
named_maybe x history i None all = all
named_maybe x history i (Some r) names = named x history i r names

-- of an instance
pub differs_or_agrees : SameValuesAreOne → (x : Expanded) (history : List Event) (i : Instance) → KnowsOneValue x history → (cell : ℕ → Option Value) → ((c : Carried) (v : Value) → Contains (pairs x i) (c, v) → Reads x history i.key c.param (cell c.param)) → MatchOption (first_difference cell (pairs x i)) (AllAgree x history i) (NamesDifference x history i)
differs_or_agrees law x history i one cell reads = named_maybe x history i (first_difference cell (pairs x i)) (shown law x history i.key one cell (pairs x i) reads)
