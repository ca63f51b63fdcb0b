-- The entry at a position of the trail, and resolving on its literal.
use Rattle.std.proofs.Common.{◌≡◌, ◌≢◌, ℕ, ◌+◌, ◌<◌, false, Some, None, option_map, IsSome, List, [], ◌∷◌, ◌++◌, inl, inr, length, take, drop, get_or, slice_get, map, sym, ap, refl, ◌∙◌, subst, Contains}
use Rattle.std.specs.Prelude.{option_and_then}
use Rattle.std.proofs.lemmas.Bool.{eq-eqb}
use Rattle.std.proofs.lemmas.List.{take_more, take-append-drop, drop_more}
use Rattle.std.proofs.lemmas.Option.{slice_get-map, slice_get-get_or}
use Rattle.clause_core.specs.declared.literal.Lit.{Lit}
use Rattle.clause_core.specs.Literal.{negated}
use Rattle.clause_core.specs.Propagation.{MakesFalse, LeavesOnly}
use Rattle.clause_core.specs.Resolvent.{CanResolve}
use Rattle.sat_trail.specs.declared.entry.Entry.{Entry}
use Rattle.sat_trail.specs.Entry.{entry_of, values_of, reason_of}
use Rattle.sat_trail.specs.Growth.{IsForced, MayBeSet}
use Rattle.sat_trail.specs.State.{State, numbering_of}
use Rattle.sat_trail.specs.Trail.{IsTrail}
use Rattle.clause_core.specs.Numbering.{Numbering, HasNumber}
use Rattle.sat_solver.specs.inner.Analysis.{HasReason}
use Rattle.sat_solver.proofs.EntryLemmas.{entry_of-missing, values_of-none, fails-before}
use Rattle.sat_solver.proofs.LiteralLemmas.{same_literal, not-not}

-- two clauses of one number are one
pub number_one : (numbering : Numbering) (number : ℕ) (c d : List Lit) → HasNumber numbering number c → HasNumber numbering number d → c ≡ d
number_one numbering number c d first second =
    let same : Some c ≡ Some d = sym first.there ∙ second.there in cc

-- the entry of the literal at a position, and its cause
pub record IsAt (t : State) (position : ℕ) (l : Lit) : Type 0 where
  pub entry : Entry
  pub at_position : slice_get t.entries position ≡ Some entry
  pub literal : entry.lit ≡ l
  pub follows : MayBeSet (numbering_of t) (take position t.entries) entry
  pub front : take (position + 1) t.entries ≡ take position t.entries ++ entry ∷ []
  pub found : entry_of t.entries l.var ≡ Some entry
  pub whole : t.entries ≡ take position t.entries ++ entry ∷ drop (position + 1) t.entries

-- an entry at the head is found by its variable
head-found : (e : Entry) (rest : List Entry) → entry_of (e ∷ rest) e.lit.var ≡ Some e
head-found e rest = rw (eq-eqb e.lit.var e.lit.var refl) refl

-- the entry at a position within the trail
pub IsAt-trail : (t : State) (position : ℕ) (l : Lit) → IsTrail t → position < length t.entries → slice_get (map (λ e. e.lit) t.entries) position ≡ Some l → IsAt t position l
IsAt-trail t position l trail within read = record {
  entry = e;
  at_position = slice_get-get_or t.entries position blank within;
  literal = literal;
  follows = follows;
  front = take_more t.entries position blank within;
  whole = whole;
  found = ap (λ es. entry_of es l.var) whole
      ∙ entry_of-missing (take position t.entries) (e ∷ drop (position + 1) t.entries) l.var
      (subst (λ (m : Lit). entry_of (take position t.entries) m.var ≡ None) literal (values_of-none (take position t.entries) e.lit.var follows.no_value))
      ∙ subst (λ (m : Lit). entry_of (e ∷ drop (position + 1) t.entries) m.var ≡ Some e) literal (head-found e (drop (position + 1) t.entries));
}
  where
    blank : Entry
    blank = record { lit = record { var = 0; positive = false }; level = 0; reason = None }

    e : Entry
    e = get_or t.entries position blank

    whole : t.entries ≡ take position t.entries ++ e ∷ drop (position + 1) t.entries
    whole = sym (take-append-drop position t.entries) ∙ ap (λ es. take position t.entries ++ es) (drop_more t.entries position blank within)

    follows : MayBeSet (numbering_of t) (take position t.entries) e
    follows = trail.causes (take position t.entries) (drop (position + 1) t.entries) e whole

    literal : e.lit ≡ l
    literal =
        let same : Some e.lit ≡ Some l = sym (slice_get-map (λ (f : Entry). f.lit) t.entries position ∙ ap (option_map (λ (f : Entry). f.lit)) (slice_get-get_or t.entries position blank within)) ∙ read in cc

-- the reason of the literal at a position
pub reason-at : (t : State) (position : ℕ) (l : Lit) (at : IsAt t position l) → reason_of t.entries l.var ≡ at.entry.reason
reason-at t position l at = ap (option_and_then (λ (e : Entry). e.reason)) at.found

-- negation undoes itself
pub negated-negated : (l : Lit) → negated (negated l) ≡ l
negated-negated l = same_literal (negated (negated l)) l refl (not-not l.positive)

-- an entry with a reason was forced
pub forced-at : (t : State) (position number : ℕ) (l : Lit) (at : IsAt t position l) → at.entry.reason ≡ Some number → IsForced (numbering_of t) (take position t.entries) at.entry
forced-at t position number l at reason = elim at.follows.cause [
  | inl decision ↦ absurd (let clash : None ≡ Some number = sym decision.no_reason ∙ reason in cc)
  | inr forced ↦ forced
]

-- the clause that forced the literal at a position, by the number that was read
pub record IsReason (t : State) (position number : ℕ) (l : Lit) (clause : List Lit) : Type 0 where
  pub has_number : HasNumber (numbering_of t) number clause
  pub leaves : LeavesOnly (values_of (take position t.entries)) clause l

-- the clause of the reason
pub reason-clause : (t : State) (position number : ℕ) (l : Lit) → IsAt t position l → reason_of t.entries l.var ≡ Some number → (clause : List Lit) × IsReason t position number l clause
reason-clause t position number l at read =
    let reason : at.entry.reason ≡ Some number = sym (reason-at t position l at) ∙ read in
    let forced = forced-at t position number l at reason in
    let same : Some forced.number ≡ Some number = sym forced.reason ∙ reason in
    let one : forced.number ≡ number = cc in (
      forced.clause,
      record {
        has_number = subst (λ n. HasNumber (numbering_of t) n forced.clause) one forced.has_number;
        leaves = subst (λ (m : Lit). LeavesOnly (values_of (take position t.entries)) forced.clause m) at.literal forced.leaves;
      },
    )

-- the number of a reason is that of a clause
pub reason-some : (t : State) (position number : ℕ) (l : Lit) → IsAt t position l → reason_of t.entries l.var ≡ Some number → IsSome (numbering_of t number)
reason-some t position number l at read = subst IsSome (sym (reason-clause t position number l at read).1.has_number.there) refl

-- a clause with the negation resolves with the reason
pub CanResolve-at : (t : State) (position number : ℕ) (l : Lit) (c d : List Lit) → IsAt t position l → reason_of t.entries l.var ≡ Some number → HasNumber (numbering_of t) number d → Contains c (negated l) → CanResolve c (negated l) d
CanResolve-at t position number l c d at read has among =
    let reason = reason-clause t position number l at read in
    record {
      pivot_in = among;
      negation_in = subst (Contains d) (sym (negated-negated l)) (subst (λ x. Contains x l) (number_one (numbering_of t) number reason.0 d reason.1.has_number has) reason.1.leaves.among);
    }

-- a literal that is false up to a position, and is not the negation there, is false before it
pub fails-under : (t : State) (position : ℕ) (l m : Lit) (at : IsAt t position l) → m ≢ negated l → MakesFalse (values_of (take (position + 1) t.entries)) m → MakesFalse (values_of (take position t.entries)) m
fails-under t position l m at other fails =
    fails-before (take position t.entries) at.entry m (λ same. other (sym same ∙ ap negated at.literal))
    (subst (λ es. MakesFalse (values_of es) m) at.front fails)

-- a literal that is to be resolved has a reason
pub reason-clash : (t : State) (clause : List Lit) (position : ℕ) (l : Lit) → IsAt t position l → HasReason t clause position → Contains clause (negated l) → None ≡ reason_of t.entries l.var → ⊥
reason-clash t clause position l at has_reason among none =
    let some : IsSome at.entry.reason = has_reason at.entry at.at_position (subst (λ (m : Lit). Contains clause (negated m)) (sym at.literal) among) in
    let missing : at.entry.reason ≡ None = sym (reason-at t position l at) ∙ sym none in
    let clash : IsSome {T = ℕ} None = subst IsSome missing some in cc
