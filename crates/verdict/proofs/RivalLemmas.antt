-- With one producer of each parameter there are no rivals: the clause on their selectors is empty.
use Rattle.std.proofs.Common.{◌≡◌, ◌≢◌, inl, inr, ℕ, ◌+◌, ◌<◌, true, List, [], ◌∷◌, length, map, Contains, refl, sym, ap, ◌∙◌, subst, arith}
use Rattle.std.specs.Prelude.{◌==◌, ◌&&◌}
use Rattle.std.specs.List.{enumerate_from, flat_map, range_with_len}
use Rattle.std.proofs.lemmas.Bool.{and_parts, cases_order, eqb-true, true≢false}
use Rattle.std.proofs.lemmas.List.Elements.{Contains-append_right, Contains-push}
use Rattle.std.proofs.lemmas.List.Folds.{Any-from_list_any}
use Rattle.std.proofs.lemmas.List.FromFn.{get_or-range_with_len, length-range_with_len}
use Rattle.list_base.proofs.Filtered.{filtered_member}
use Rattle.list_base.proofs.Members.{here, there}
use Rattle.list_base.proofs.Partners.{NoRepeat, no_repeat_filter, no_repeat_from_pairs}
use Rattle.bspl_types.specs.declared.expanded.Expanded.{Expanded}
use Rattle.bspl_types.specs.declared.protocol.Adornment.{Adornment}
use Rattle.bspl_types.specs.declared.protocol.Adornment.TheVariants.{In, Nil, Out}
use Rattle.bspl_types.specs.declared.protocol.Message.{Message}
use Rattle.bspl_types.specs.Choice.{is_out}
use Rattle.bspl_types.specs.Expansion.{message_of, no_message, IsAdorned}
use Rattle.clause_core.specs.declared.formula.Formula.{Formula}
use Rattle.clause_core.specs.Literal.{positive}
use Rattle.clause_encoding.specs.declared.rivals.Rivals.{Rivals}
use Rattle.clause_encoding.specs.Families.{shared_clauses}
use Rattle.clause_encoding.specs.Formula.{IsSafetyFormula, safety_clauses, safety_variables}
use Rattle.clause_encoding.specs.Rivals.{producers_of, produces, rival_clauses, rivals_among, rivals_of, selected_is_sent, selectors}
use Rattle.clause_encoding.specs.Variables.{kind_count, message_numbers}
use Rattle.enactment_model.specs.Producers.{HasOneProducer}
use Rattle.verdict.proofs.FormulaLemmas.{has_empty}

-- an adornment that passes the test is `out`
only_out : (a : Adornment) → is_out a ≡ true → a ≡ Out
only_out In passes = absurd (true≢false (sym passes))
only_out Out passes = refl
only_out Nil passes = absurd (true≢false (sym passes))

-- a message that passes the test produces the parameter
adorned_out : (m : Message) (p : ℕ) → produces m p ≡ true → IsAdorned m Out p
adorned_out m p passes =
    let (k, c, within, is, found) = Any-from_list_any (λ d. is_out d.adornment && d.param == p) m.carried passes in
    let (is_adorned, is_param) = and_parts (is_out c.adornment) (c.param == p) found in
    subst (λ (q : ℕ). Contains m.carried (record { param = q; adornment = Out })) (eqb-true c.param p is_param)
    (subst (λ (a : Adornment). Contains m.carried (record { param = c.param; adornment = a })) (only_out c.adornment is_adorned) (k, within, is))

-- the numbers of the messages repeat nothing
numbers_once : (count : ℕ) → NoRepeat (range_with_len 0 count)
numbers_once count =
    no_repeat_from_pairs (range_with_len 0 count)
    (λ i j d less within.
    let below : j < count = omega (arith, within, length-range_with_len 0 count) in
    let one = get_or-range_with_len 0 count i d (omega arith) in
    let other = get_or-range_with_len 0 count j d below in
    λ same. absurd (omega (arith, one, other, same)))

-- each is below their number
number_below : (count n : ℕ) → Contains (range_with_len 0 count) n → n < count
number_below count n (k, within, is) =
    let below : k < count = omega (arith, within, length-range_with_len 0 count) in
    omega (arith, below, sym is ∙ get_or-range_with_len 0 count k n below)

-- a message of the protocol that produces the parameter
record IsProducer (x : Expanded) (p m : ℕ) : Type 0 where
  known : m < length x.messages
  produces_it : IsAdorned (message_of x m) Out p

-- each of the producers is one
producer_from : (x : Expanded) (p m : ℕ) → Contains (producers_of x p) m → IsProducer x p m
producer_from x p m among =
    let (number, passes) = filtered_member (λ n. produces (message_of x n) p) (message_numbers x) m among in
    record { known = number_below (length x.messages) m number; produces_it = adorned_out (message_of x m) p passes }

-- with one producer two of them are the same
not_two : (x : Expanded) (p m n : ℕ) → HasOneProducer x → IsProducer x p m → IsProducer x p n → m ≢ n → ⊥
not_two x p m n one first second apart = elim (cases_order m n) [
  | inl same ↦ absurd (apart same)
  | inr (inl less) ↦ one m n no_message less second.known (record { param = p; one = first.produces_it; other = second.produces_it })
  | inr (inr more) ↦ one n m no_message more first.known (record { param = p; one = second.produces_it; other = first.produces_it })
]

-- at most one producer has no rivals
no_rivals_among : (x : Expanded) (p : ℕ) (list : List ℕ) → HasOneProducer x → NoRepeat list → ((m : ℕ) → Contains list m → IsProducer x p m) → rivals_among p list ≡ []
no_rivals_among x p [] one once each = refl
no_rivals_among x p (m ∷ []) one once each = refl
no_rivals_among x p (m ∷ n ∷ others) one once each =
    absurd (not_two x p m n one (each m (here m (n ∷ others))) (each n (there m (n ∷ others) n (here n others)))
    (λ same. once.0 (subst (Contains (n ∷ others)) (sym same) (here n others))))

-- items that add nothing add nothing together
nothing_added : {X A : Type 0} (f : X → List A) (xs : List X) → ((x : X) → f x ≡ []) → flat_map f xs ≡ []
nothing_added f [] none = refl
nothing_added f (x ∷ xs) none = rw (none x) (nothing_added f xs none)

-- there are no rivals
no_rivals : (x : Expanded) → HasOneProducer x → rivals_of x ≡ []
no_rivals x one =
    nothing_added (λ p. rivals_among p (producers_of x p)) (range_with_len 0 (length x.params))
    (λ p. no_rivals_among x p (producers_of x p) one
    (no_repeat_filter (λ n. produces (message_of x n) p) (message_numbers x) (numbers_once (length x.messages)))
    (producer_from x p))

-- so an empty clause is written
empty_written : (x : Expanded) → HasOneProducer x → Contains (safety_clauses x) []
empty_written x one =
    let lits = λ (rivals : List Rivals). map (λ (s : ℕ × Rivals). positive s.0) (enumerate_from (kind_count x + 1) rivals) in
    let none : lits (rivals_of x) ≡ [] = ap lits (no_rivals x one) in
    Contains-append_right (shared_clauses x (safety_variables x)) (rival_clauses x) []
    (subst (Contains (rival_clauses x)) none (Contains-push (flat_map selected_is_sent (selectors x)) (lits (rivals_of x))))

-- and the formula has it
pub one_producer_empty : (x : Expanded) (f : Formula) → IsSafetyFormula x f → HasOneProducer x → Contains f.clauses []
one_producer_empty x f is one = has_empty (safety_clauses x) f.clauses is.clauses (empty_written x one)
