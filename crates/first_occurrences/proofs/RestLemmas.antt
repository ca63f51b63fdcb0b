-- A legal run that is quiet at a key and leaves a public parameter unbound there satisfies the clauses
-- that liveness adds.
use Rattle.std.proofs.Common.{◌≡◌, ℕ, ◌+◌, ◌<◌, Bool, false, List, [], ◌∷◌, ◌++◌, Option, Some, None, inl, inr, length, get_or, map, not, take, refl, ap, ◌∙◌, arith, Contains, length-take}
use Rattle.std.specs.Prelude.{slice_get, IsSomeAnd, IsTrue}
use Rattle.std.specs.List.{enumerate_from, filter}
use Rattle.std.proofs.lemmas.Bool.{cases_Bool}
use Rattle.std.proofs.lemmas.List.{get_or-take}
use Rattle.std.proofs.lemmas.List.Elements.{All-append, All-cons, All-nil}
use Rattle.std.proofs.lemmas.List.FromFn.{get_or-enumerate_from, length-enumerate_from}
use Rattle.std.proofs.lemmas.Option.{get_or_from_slice_get}
use Rattle.list_base.proofs.Filtered.{kept_member}
use Rattle.bspl_types.specs.declared.event.Event.{Event}
use Rattle.bspl_types.specs.declared.expanded.Expanded.{Expanded}
use Rattle.bspl_types.specs.declared.protocol.ParamInfo.{ParamInfo}
use Rattle.bspl_types.specs.declared.value.Value.{Value}
use Rattle.bspl_types.specs.Shape.{is_public_value}
use Rattle.bspl_types.specs.Value.{EqualValuesAreOne}
use Rattle.clause_core.specs.Clause.{Satisfies}
use Rattle.clause_core.specs.Literal.{MakesTrue, negated, positive}
use Rattle.clause_encoding.specs.Rest.{arrival_clauses, exhaustion_clause, exhaustion_clauses, public_values, unbound_clauses, unbound_variables, want_clauses}
use Rattle.clause_encoding.specs.Variables.{kind_count, message_numbers, occurs, received, sent}
use Rattle.enactment_model.specs.Laws.{HistoryIsRun, KnownExactlyIfSomeEventBinds}
use Rattle.enactment_model.specs.Legal.{IsLegalRun}
use Rattle.enactment_model.specs.Liveness.{Bound, HasPublicValue}
use Rattle.first_occurrences.specs.Lacking.{SaysWhatIsLacking, is_bound}
use Rattle.first_occurrences.specs.Laws.{BoundExactlyIfSent, RestHolds}
use Rattle.first_occurrences.proofs.AbsenceLemmas.{unbound_satisfied, wants_satisfied}
use Rattle.first_occurrences.proofs.ExhaustionLemmas.{arrives, exhausted}
use Rattle.first_occurrences.proofs.ListedLemmas.{each_mapped, mapped_member, numbered_member, some_member}

-- what the entry of a parameter has
record HasEntry (P : ParamInfo → Type 0) (entry : Option ParamInfo) : Type 0 where
  info : ParamInfo
  is : entry ≡ Some info
  has : P info

-- an entry that is there has it
entry_of : (P : ParamInfo → Type 0) (entry : Option ParamInfo) → IsSomeAnd entry P → HasEntry P entry
entry_of P None has = absurd has
entry_of P (Some info) has = record { info = info; is = refl; has = has }

-- a public parameter with a value is listed
value_listed : (x : Expanded) (p : ℕ) → HasPublicValue x p → Contains (public_values x) p
value_listed x p has =
    let entry = entry_of (λ info. IsTrue (is_public_value info.adornment)) (slice_get x.params p) has.adorned in
    let info = entry.info in
    let public = take x.public x.params in
    let test = λ (pair : ℕ × ParamInfo). is_public_value pair.1.adornment in
    let below = has.public in
    let within : p < length public = omega (arith, below, x.shape.declared.within, length-take x.public x.params) in
    let item = get_or-take x.public x.params p info below ∙ get_or_from_slice_get x.params p info info entry.is in
    let first : 0 + p ≡ p = omega arith in
    let is : get_or (enumerate_from 0 public) p (p, info) ≡ (p, info) = get_or-enumerate_from 0 public p (p, info) within ∙ (λ n. (first n, item n)) in
    mapped_member (λ (pair : ℕ × ParamInfo). pair.0) (filter test (enumerate_from 0 public)) (p, info)
    (kept_member test (enumerate_from 0 public) (p, info) entry.has (p, omega (arith, within, length-enumerate_from 0 public), is))

-- a parameter that is not bound is in no message that is sent
not_sent_with : BoundExactlyIfSent → (x : Expanded) (run : List Event) (key : List Value) (p : ℕ) → IsLegalRun x run → ¬ Bound x run key p → is_bound x run key p ≡ false
not_sent_with bound x run key p is_legal not_bound = elim (cases_Bool (is_bound x run key p)) [
  | inl sent ↦ absurd (not_bound ((bound x run key p is_legal).1 sent))
  | inr none ↦ none
]

-- so the last clause is satisfied
some_unbound : (x : Expanded) (run : List Event) (key : List Value) (p : ℕ) (v : ℕ → Bool) → HasPublicValue x p → is_bound x run key p ≡ false → SaysWhatIsLacking x run key v → Satisfies v (map (λ pair. positive pair.0) (unbound_variables x))
some_unbound x run key p v has none says =
    let (variable, among) = numbered_member (kind_count x + 1) (public_values x) p (value_listed x p has) in
    some_member (MakesTrue v) (map (λ pair. positive pair.0) (unbound_variables x)) (positive variable)
    (mapped_member (λ pair. positive pair.0) (unbound_variables x) (variable, p) among)
    (says.unbound variable p among ∙ ap not none)

-- and so are all clauses that liveness adds
pub rest_satisfied : EqualValuesAreOne → KnownExactlyIfSomeEventBinds → HistoryIsRun → BoundExactlyIfSent → RestHolds
rest_satisfied exact known histories bound x run key p v is_legal quiet has not_bound reports says =
    let numbers = message_numbers x in
    let last = map (λ pair. positive pair.0) (unbound_variables x) in
    let arrival = each_mapped (Satisfies v) (λ m. negated (occurs (sent m)) ∷ occurs (received m) ∷ []) numbers (arrives exact x run key v quiet reports) in
    let exhaustion = each_mapped (Satisfies v) (exhaustion_clause x) numbers (exhausted exact known histories x run key v is_legal.fits quiet reports says) in
    let two = All-append (Satisfies v) (arrival_clauses x) (exhaustion_clauses x) arrival exhaustion in
    let three = All-append (Satisfies v) (arrival_clauses x ++ exhaustion_clauses x) (want_clauses x) two (wants_satisfied x run key v reports says) in
    let four = All-append (Satisfies v) (arrival_clauses x ++ exhaustion_clauses x ++ want_clauses x) (unbound_clauses x) three (unbound_satisfied x run key v reports says) in
    let some = some_unbound x run key p v has (not_sent_with bound x run key p is_legal not_bound) says in
    All-append (Satisfies v) (arrival_clauses x ++ exhaustion_clauses x ++ want_clauses x ++ unbound_clauses x) (last ∷ []) four
    (All-cons (Satisfies v) last [] some (All-nil (Satisfies v)))
