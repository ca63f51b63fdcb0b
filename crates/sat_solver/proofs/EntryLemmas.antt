-- Entries found by their variables, and the values that they give.
use Rattle.std.proofs.Common.{◌≡◌, ◌≢◌, ℕ, suc, Bool, not, Option, Some, None, List, [], ◌∷◌, ◌++◌, inl, inr, take, drop, sym, ap, refl, ◌∙◌, subst, arith, Contains, option_map}
use Rattle.std.proofs.lemmas.Bool.{cases_Bool, cases_eq, eqb-true, eq-eqb, ne_eqb}
use Rattle.std.specs.Prelude.{◌==◌}
use Rattle.std.proofs.lemmas.List.{take-append-drop}
use Rattle.std.proofs.lemmas.List.Folds.{find-append}
use Rattle.clause_core.specs.declared.literal.Lit.{Lit}
use Rattle.clause_core.specs.Literal.{negated}
use Rattle.clause_core.specs.Propagation.{MakesFalse}
use Rattle.sat_trail.specs.declared.entry.Entry.{Entry}
use Rattle.sat_trail.specs.Entry.{entry_of, values_of}
use Rattle.sat_solver.proofs.LiteralLemmas.{same_literal, not-not}

-- an entry that is found has the variable
pub entry_of-variable : (es : List Entry) (v : ℕ) (e : Entry) → entry_of es v ≡ Some e → e.lit.var ≡ v
entry_of-variable [] v e found = cc
entry_of-variable (d ∷ es) v e found =
    elim (cases_Bool (d.lit.var == v)) [
      | inl here ↦ let first : Some d ≡ Some e = rw here at found in ap (λ (o : Entry). o.lit.var) (let same : e ≡ d = cc in same) ∙ eqb-true _ _ here
      | inr elsewhere ↦ entry_of-variable es v e (rw elsewhere at found)
    ]

-- an entry that is found is one of the entries
pub entry_of-member : (es : List Entry) (v : ℕ) (e : Entry) → entry_of es v ≡ Some e → Contains es e
entry_of-member [] v e found = cc
entry_of-member (d ∷ es) v e found =
    elim (cases_Bool (d.lit.var == v)) [
      | inl here ↦ let first : Some d ≡ Some e = rw here at found in (0, omega arith, (let same : d ≡ e = cc in same))
      | inr elsewhere ↦ let rest = entry_of-member es v e (rw elsewhere at found) in (suc rest.0, omega (arith, rest.1), rest.2)
    ]

-- what was found stays found when more entries follow
pub entry_of-kept : (es more : List Entry) (v : ℕ) (e : Entry) → entry_of es v ≡ Some e → entry_of (es ++ more) v ≡ Some e
entry_of-kept es more v e found = rw (find-append (λ (d : Entry). d.lit.var == v) es more, found) refl

-- what was not found is found among the entries that follow
pub entry_of-missing : (es more : List Entry) (v : ℕ) → entry_of es v ≡ None → entry_of (es ++ more) v ≡ entry_of more v
entry_of-missing es more v missing = rw (find-append (λ (d : Entry). d.lit.var == v) es more, missing) refl

-- an entry for another variable changes nothing
pub entry_of-push_other : (es : List Entry) (e : Entry) (v : ℕ) → e.lit.var ≢ v → entry_of (es ++ e ∷ []) v ≡ entry_of es v
entry_of-push_other [] e v other = rw (ne_eqb e.lit.var v other) refl
entry_of-push_other (d ∷ es) e v other =
    elim (cases_Bool (d.lit.var == v)) [
      | inl here ↦ rw here refl
      | inr elsewhere ↦ rw elsewhere (entry_of-push_other es e v other)
    ]

-- the new entry is found where its variable had none
pub entry_of-push_same : (es : List Entry) (e : Entry) → entry_of es e.lit.var ≡ None → entry_of (es ++ e ∷ []) e.lit.var ≡ Some e
entry_of-push_same es e missing =
    entry_of-missing es (e ∷ []) e.lit.var missing ∙ rw (eq-eqb e.lit.var e.lit.var refl) refl

-- a variable without a value has no entry
pub values_of-none : (es : List Entry) (v : ℕ) → values_of es v ≡ None → entry_of es v ≡ None
values_of-none es v none = elim (entry_of es v) as (λ o. option_map (λ (e : Entry). e.lit.positive) o ≡ None → o ≡ None) [ None ↦ λ _. refl | Some e ↦ λ h. cc ] none

-- a value comes from an entry
pub value-entry : (o : Option Entry) (b : Bool) → option_map (λ (e : Entry). e.lit.positive) o ≡ Some b → (e : Entry) × (o ≡ Some e) × (e.lit.positive ≡ b)
value-entry None b given = cc
value-entry (Some e) b given = (e, refl, (let same : e.lit.positive ≡ b = cc in same))

-- more entries keep each value
pub values_of-kept : (es more : List Entry) (v : ℕ) (b : Bool) → values_of es v ≡ Some b → values_of (es ++ more) v ≡ Some b
values_of-kept es more v b given =
    let entry = value-entry (entry_of es v) b given in
    ap (option_map (λ (e : Entry). e.lit.positive)) (entry_of-kept es more v entry.0 entry.1) ∙ ap Some entry.2

-- a prefix of the entries gives no other values
pub values_of-prefix : (n : ℕ) (es : List Entry) (v : ℕ) (b : Bool) → values_of (take n es) v ≡ Some b → values_of es v ≡ Some b
values_of-prefix n es v b given =
    subst (λ xs. values_of xs v ≡ Some b) (take-append-drop n es) (values_of-kept (take n es) (drop n es) v b given)

-- the same where the entry is for the literal's variable, by the entry before it
fails-at : (es : List Entry) (e : Entry) (m : Lit) (o : Option Entry) → negated e.lit ≢ m → e.lit.var ≡ m.var → entry_of es m.var ≡ o → MakesFalse (values_of (es ++ e ∷ [])) m → MakesFalse (values_of es) m
fails-at es e m (Some d) other same is fails =
    let value : values_of es m.var ≡ Some d.lit.positive = ap (option_map (λ (f : Entry). f.lit.positive)) is in
    value ∙ sym (values_of-kept es (e ∷ []) m.var d.lit.positive value) ∙ fails
fails-at es e m None other same is fails =
    let missing : entry_of es e.lit.var ≡ None = ap (entry_of es) same ∙ is in
    let found : entry_of (es ++ e ∷ []) m.var ≡ Some e = ap (entry_of (es ++ e ∷ [])) (sym same) ∙ entry_of-push_same es e missing in
    let value : Some e.lit.positive ≡ Some (not m.positive) = sym (ap (option_map (λ (f : Entry). f.lit.positive)) found) ∙ fails in
    let sign : e.lit.positive ≡ not m.positive = cc in
    absurd (other (same_literal (negated e.lit) m same (ap not sign ∙ not-not m.positive)))

-- an entry for another literal than the negation makes no more literals false
pub fails-before : (es : List Entry) (e : Entry) (m : Lit) → negated e.lit ≢ m → MakesFalse (values_of (es ++ e ∷ [])) m → MakesFalse (values_of es) m
fails-before es e m other fails = elim (cases_eq e.lit.var m.var) [
  | inl same ↦ fails-at es e m (entry_of es m.var) other same refl fails
  | inr differs ↦ sym (ap (option_map (λ (d : Entry). d.lit.positive)) (entry_of-push_other es e m.var differs)) ∙ fails
]
