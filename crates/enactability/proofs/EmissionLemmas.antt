-- Emissions of a message in the run of an assignment, and in the assignment.
use Rattle.std.proofs.Common.{◌≡◌, ℕ, ◌<◌, Bool, true, List, [], ◌∷◌, inl, inr, length, map, refl, sym, ap, subst, arith, Contains}
use Rattle.std.proofs.lemmas.List.Elements.{All-cons, All-contains, All-nil, Contains-append_right}
use Rattle.list_base.proofs.Members.{cons_cases, here, here_same, nowhere, only, there}
use Rattle.bspl_types.specs.declared.event.Event.{Event}
use Rattle.bspl_types.specs.declared.event.Event.TheVariants.{Emit, Receive}
use Rattle.bspl_types.specs.declared.event.Instance.{Instance}
use Rattle.bspl_types.specs.declared.expanded.Expanded.{Expanded}
use Rattle.clause_core.specs.Clause.{Satisfies, SatisfiesAll}
use Rattle.clause_core.specs.Literal.{MakesTrue}
use Rattle.clause_encoding.specs.Families.{shared_clauses}
use Rattle.clause_encoding.specs.Formula.{safety_variables}
use Rattle.clause_encoding.specs.Variables.{IsKind, occurs, sent}
use Rattle.first_occurrences.specs.Occurrence.{kind_of}
use Rattle.witness_replay.specs.Witness.{IsRunOfAssignment}
use Rattle.enactability.specs.EnactFormula.{enact_clauses, sent_clause}
use Rattle.enactability.specs.inner.Emission.{HasEmission}

-- the clause of a message is satisfied if its variable is true
pub sent_satisfied : (v : ℕ → Bool) (m : ℕ) → v (sent m) ≡ true → SatisfiesAll v (sent_clause m)
sent_satisfied v m holds = All-cons (Satisfies v) (occurs (sent m) ∷ []) [] (0, occurs (sent m), omega arith, refl, holds) (All-nil (Satisfies v))

-- and only then
pub is_sent : (x : Expanded) (v : ℕ → Bool) (m : ℕ) → SatisfiesAll v (enact_clauses x m) → v (sent m) ≡ true
is_sent x v m all =
    let clause = occurs (sent m) ∷ [] in
    let among = Contains-append_right (shared_clauses x (safety_variables x)) (sent_clause m) clause (here clause []) in
    let (k, l, within, is, holds) = All-contains (Satisfies v) (enact_clauses x m) clause all among in
    subst (MakesTrue v) (sym (only (occurs (sent m)) l (k, within, is))) holds

-- the kind of an emission
pub sent_kind : (x : Expanded) (m : ℕ) → m < length x.messages → IsKind (safety_variables x) (sent m)
sent_kind x m known = record { from_one = omega arith; up_to = omega (arith, known) }

-- the kind of an event is among the kinds
kind_among : (run : List Event) (e : Event) → Contains run e → Contains (map kind_of run) (kind_of e)
kind_among [] e among = absurd (nowhere e among)
kind_among (f ∷ run) e among = elim (cons_cases f run e among) [
  | inl is ↦ here_same (kind_of f) (map kind_of run) (kind_of e) (ap kind_of is)
  | inr later ↦ there (kind_of f) (map kind_of run) (kind_of e) (kind_among run e later)
]

-- and each kind has an event
event_of : (run : List Event) (kind : ℕ) → Contains (map kind_of run) kind → (e : Event) × Contains run e × (kind_of e ≡ kind)
event_of [] kind among = absurd (nowhere kind among)
event_of (f ∷ run) kind among = elim (cons_cases (kind_of f) (map kind_of run) kind among) [
  | inl is ↦ (f, here f run, is)
  | inr later ↦ let (e, member, is) = event_of run kind later in (e, there f run e member, is)
]

-- that of an emission's kind is one
emission_of : (run : List Event) (m : ℕ) (e : Event) → Contains run e → kind_of e ≡ sent m → HasEmission run m
emission_of run m (Emit i) among is = record { instance = i; emitted = among; message_is = omega (arith, is) }
emission_of run m (Receive i) among is = absurd (omega (arith, is))

module _ (x : Expanded) (v : ℕ → Bool) (run : List Event) (is_run : IsRunOfAssignment x (safety_variables x) v run) (m : ℕ) where
  -- what is sent is emitted in the run of the assignment
  pub sent_emitted : m < length x.messages → v (sent m) ≡ true → HasEmission run m
  sent_emitted known holds =
      let among = (is_run.ordered.occurring (sent m)).1 (sent_kind x m known, holds) in
      let (e, member, is) = event_of run (sent m) (subst (λ (kinds : List ℕ). Contains kinds (sent m)) (sym is_run.run_of.kinds_of) among) in
      emission_of run m e member is

  -- and what is emitted is sent
  pub emitted_sent : (i : Instance) → Contains run (Emit i) → i.message ≡ m → v (sent m) ≡ true
  emitted_sent i among message =
      let kind : kind_of (Emit i) ≡ sent m = ap sent message in
      let member = subst (λ (kinds : List ℕ). Contains kinds (sent m)) is_run.run_of.kinds_of (subst (Contains (map kind_of run)) kind (kind_among run (Emit i) among)) in
      ((is_run.ordered.occurring (sent m)).0 member).1
