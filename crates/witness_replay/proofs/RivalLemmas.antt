-- The rivals that an assignment selects: two messages that are sent and produce one parameter.
use Rattle.std.proofs.Common.{◌≡◌, ◌≢◌, ◌+◌, ℕ, ◌<◌, Bool, true, List, [], ◌∷◌, length, map, inl, inr, refl, sym, ap, ◌∙◌, subst, arith, Contains}
use Rattle.std.specs.Prelude.{◌==◌, ◌&&◌}
use Rattle.std.specs.List.{flat_map, range_with_len}
use Rattle.std.proofs.lemmas.Bool.{and_parts, eqb-true, true≢false}
use Rattle.std.proofs.lemmas.List.Elements.{All-contains, Contains-append_cases, Contains-append_left, Contains-append_right}
use Rattle.std.proofs.lemmas.List.Folds.{Any-from_list_any}
use Rattle.std.proofs.lemmas.List.FromFn.{get_or-range_with_len, length-range_with_len}
use Rattle.list_base.proofs.Filtered.{filtered_member}
use Rattle.list_base.proofs.Members.{here, here_same, nowhere, there}
use Rattle.list_base.proofs.Partners.{NoRepeat, no_repeat_filter, no_repeat_from_pairs}
use Rattle.bspl_types.specs.declared.expanded.Expanded.{Expanded}
use Rattle.bspl_types.specs.declared.protocol.Adornment.{Adornment}
use Rattle.bspl_types.specs.declared.protocol.Adornment.TheVariants.{In, Nil, Out}
use Rattle.bspl_types.specs.Choice.{is_out}
use Rattle.bspl_types.specs.Expansion.{Adorns, message_of}
use Rattle.clause_core.specs.Clause.{Satisfies, SatisfiesAll}
use Rattle.clause_core.specs.Literal.{MakesTrue, negated, positive}
use Rattle.clause_core.specs.Written.{Written}
use Rattle.clause_encoding.specs.declared.rivals.Rivals.{Rivals}
use Rattle.clause_encoding.specs.Rivals.{producers_of, produces, rival_clauses, rivals_among, rivals_of, selected_is_sent, selectors}
use Rattle.clause_encoding.specs.Variables.{kind_count, message_numbers, occurs, sent}
use Rattle.witness_replay.proofs.ListedLemmas.{joined_from, joined_member, mapped_from, numbered_item, range_bound}
use Rattle.witness_replay.proofs.LiteralLemmas.{satisfied_only, satisfied_rest}

-- two messages of the list, not one and the same, with the parameter
record AreTwoOf (p : ℕ) (list : List ℕ) (two : Rivals) : Type 0 where
  param : two.param ≡ p
  apart : two.first ≢ two.second
  first : Contains list two.first
  second : Contains list two.second

-- rivals among a list that repeats nothing are such messages
rivals_from : (p : ℕ) (list : List ℕ) (two : Rivals) → NoRepeat list → Contains (rivals_among p list) two → AreTwoOf p list two
rivals_from p [] two once among = absurd (nowhere two among)
rivals_from p (m ∷ others) two once among = elim (Contains-append_cases (map (λ n. record { param = p; first = m; second = n }) others) (rivals_among p others) two among) [
  | inl part ↦
      let (n, later, is) = mapped_from (λ n. record { param = p; first = m; second = n }) others two part in
      let is_first : m ≡ two.first = ap (λ r. r.first) is in
      let is_second : n ≡ two.second = ap (λ r. r.second) is in
      record {
        param = sym (ap (λ r. r.param) is);
        apart = λ same. once.0 (subst (Contains others) (is_second ∙ sym same ∙ sym is_first) later);
        first = here_same m others two.first is_first;
        second = there m others two.second (subst (Contains others) is_second later);
      }
  | inr rest ↦
      let both = rivals_from p others two once.1 rest in
      record { param = both.param; apart = both.apart; first = there m others two.first both.first; second = there m others two.second both.second }
]

-- the numbers of the messages repeat nothing
numbers_once : (count : ℕ) → NoRepeat (range_with_len 0 count)
numbers_once count =
    no_repeat_from_pairs (range_with_len 0 count)
    (λ i j d less within.
    let below : j < count = omega (arith, within, length-range_with_len 0 count) in
    let one = get_or-range_with_len 0 count i d (omega arith) in
    let other = get_or-range_with_len 0 count j d below in
    λ same. absurd (omega (arith, one, other, same)))

-- an adornment that passes the test is `out`
only_out : (a : Adornment) → is_out a ≡ true → a ≡ Out
only_out In passes = absurd (true≢false (sym passes))
only_out Out passes = refl
only_out Nil passes = absurd (true≢false (sym passes))

-- a message that passes the test adorns the parameter `out`
adorned_out : (x : Expanded) (m p : ℕ) → produces (message_of x m) p ≡ true → Adorns x m Out p
adorned_out x m p passes =
    let (k, c, within, is, found) = Any-from_list_any (λ d. is_out d.adornment && d.param == p) (message_of x m).carried passes in
    let (is_adorned, is_param) = and_parts (is_out c.adornment) (c.param == p) found in
    subst (λ (q : ℕ). Adorns x m Out q) (eqb-true c.param p is_param)
    (subst (λ (a : Adornment). Adorns x m a c.param) (only_out c.adornment is_adorned) (k, within, is))

-- two messages of the protocol that produce the parameter
pub record AreRivals (x : Expanded) (two : Rivals) : Type 0 where
  pub apart : two.first ≢ two.second
  pub first_known : two.first < length x.messages
  pub second_known : two.second < length x.messages
  pub first_produces : Adorns x two.first Out two.param
  pub second_produces : Adorns x two.second Out two.param

-- a producer of a parameter is one of the messages, and adorns it `out`
producer_from : (x : Expanded) (p m : ℕ) → Contains (producers_of x p) m → (m < length x.messages) × Adorns x m Out p
producer_from x p m among =
    let (number, passes) = filtered_member (λ n. produces (message_of x n) p) (message_numbers x) m among in
    (range_bound (length x.messages) m number, adorned_out x m p passes)

-- the rivals of the protocol are such messages
pub are_rivals : (x : Expanded) (two : Rivals) → Contains (rivals_of x) two → AreRivals x two
are_rivals x two among =
    let (p, param, part) = joined_from (λ q. rivals_among q (producers_of x q)) (range_with_len 0 (length x.params)) two among in
    let both = rivals_from p (producers_of x p) two (no_repeat_filter (λ n. produces (message_of x n) p) (message_numbers x) (numbers_once (length x.messages))) part in
    let (first_known, first_out) = producer_from x p two.first both.first in
    let (second_known, second_out) = producer_from x p two.second both.second in
    record {
      apart = both.apart;
      first_known = first_known;
      second_known = second_known;
      first_produces = subst (λ (q : ℕ). Adorns x two.first Out q) (sym both.param) first_out;
      second_produces = subst (λ (q : ℕ). Adorns x two.second Out q) (sym both.param) second_out;
    }

-- rivals whose messages the assignment makes sent
pub record AreSent (x : Expanded) (v : ℕ → Bool) : Type 0 where
  pub two : Rivals
  pub rivals : AreRivals x two
  pub first : v (sent two.first) ≡ true
  pub second : v (sent two.second) ≡ true

-- what satisfies the clauses of rival producers makes two rivals sent
pub some_sent : (x : Expanded) (v : ℕ → Bool) → SatisfiesAll v (rival_clauses x) → AreSent x v
some_sent x v satisfied =
    let selected = flat_map selected_is_sent (selectors x) in
    let some = map (λ (s : ℕ × Rivals). positive s.0) (selectors x) in
    let holds : Satisfies v some = All-contains (Satisfies v) (rival_clauses x) some satisfied (Contains-append_right selected (some ∷ []) some (here some [])) in
    let (k, l, within, is, makes) = holds in
    let (s, member, same) = mapped_from (λ (q : ℕ × Rivals). positive q.0) (selectors x) l (k, within, is) in
    let chosen : v s.0 ≡ true = subst (MakesTrue v) (sym same) makes in
    let one : Written = negated (positive s.0) ∷ occurs (sent s.1.first) ∷ [] in
    let other : Written = negated (positive s.0) ∷ occurs (sent s.1.second) ∷ [] in
    let clause : (c : Written) → Contains (selected_is_sent s) c → Satisfies v c = λ c among. All-contains (Satisfies v) (rival_clauses x) c satisfied (Contains-append_left selected (some ∷ []) c (joined_member selected_is_sent (selectors x) s c member among)) in
    record {
      two = s.1;
      rivals = are_rivals x s.1 (numbered_item (kind_count x + 1) (rivals_of x) s.0 s.1 member);
      first = satisfied_only v (occurs (sent s.1.first)) (satisfied_rest v s.0 (occurs (sent s.1.first) ∷ []) chosen (clause one (here one (other ∷ []))));
      second = satisfied_only v (occurs (sent s.1.second)) (satisfied_rest v s.0 (occurs (sent s.1.second) ∷ []) chosen (clause other (there one (other ∷ []) other (here other []))));
    }
