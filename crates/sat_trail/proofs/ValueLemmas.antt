-- Entries at their indices, and the values that they give.
use Rattle.std.proofs.Common.{◌≡◌, ◌≢◌, ℕ, suc, ◌<◌, Bool, not, Option, Some, None, option_map, List, [], ◌∷◌, ◌++◌, ◌⊎◌, inl, inr, length, slice_get, sym, ap, refl, ◌∙◌, subst, arith, AllPairs, Contains, length-append}
use Rattle.std.proofs.lemmas.Bool.{cases_lt, eq-eqb, ne_eqb}
use Rattle.std.proofs.lemmas.List.{get_or_append_left, get_or_push}
use Rattle.std.proofs.lemmas.List.Elements.{Contains-append_left}
use Rattle.std.proofs.lemmas.Option.{get_or_from_slice_get, slice_get_within, slice_get-get_or}
use Rattle.list_base.proofs.Members.{nowhere, cons_cases}
use Rattle.clause_core.specs.declared.literal.Lit.{Lit}
use Rattle.clause_core.specs.Literal.{negated}
use Rattle.clause_core.specs.Propagation.{MakesFalse, OthersFalse}
use Rattle.sat_trail.specs.declared.entry.Entry.{Entry}
use Rattle.sat_trail.specs.Entry.{entry_of, values_of}
use Rattle.sat_trail.specs.inner.Excuse.{IsTrueBy}
use Rattle.sat_trail.proofs.EntryLemmas.{entry_of-kept, entry_of-member, entry_of-variable}
use Rattle.sat_trail.proofs.LiteralLemmas.{same_literal, not-not}

-- an entry keeps its index when more follow
pub at-left : (es more : List Entry) (i : ℕ) (e : Entry) → slice_get es i ≡ Some e → slice_get (es ++ more) i ≡ Some e
at-left es more i e got =
    let within = slice_get_within es i e got in
    slice_get-get_or (es ++ more) i e (omega (arith, within, length-append es more))
    ∙ ap Some (get_or_append_left es more e i within ∙ get_or_from_slice_get es i e e got)

-- an index of the first entries
pub at-split : (es more : List Entry) (i : ℕ) (e : Entry) → i < length es → slice_get (es ++ more) i ≡ Some e → slice_get es i ≡ Some e
at-split es more i e within got =
    slice_get-get_or es i e within ∙ ap Some (sym (get_or_append_left es more e i within) ∙ get_or_from_slice_get (es ++ more) i e e got)

-- an entry was there before, or is the new one
pub at-push : (es : List Entry) (d : Entry) (i : ℕ) (e : Entry) → slice_get (es ++ d ∷ []) i ≡ Some e → (slice_get es i ≡ Some e) ⊎ ((i ≡ length es) × (d ≡ e))
at-push es d i e got = elim (cases_lt i (length es)) [
  | inl before ↦ inl (at-split es (d ∷ []) i e before got)
  | inr after ↦
      let last : length es ≡ i = omega (arith, after, slice_get_within (es ++ d ∷ []) i e got, length-append es (d ∷ [])) in
      inr (sym last, sym (get_or_push es d e i last) ∙ get_or_from_slice_get (es ++ d ∷ []) i e e got)
]

-- what stands at an index is an entry
pub at-among : (es : List Entry) (i : ℕ) (e : Entry) → slice_get es i ≡ Some e → Contains es e
at-among es i e got = (i, slice_get_within es i e got, get_or_from_slice_get es i e e got)

-- an entry stands at its index
pub among-at : (es : List Entry) (e : Entry) (among : Contains es e) → slice_get es among.0 ≡ Some e
among-at es e among = slice_get-get_or es among.0 e among.1 ∙ ap Some among.2

-- each variable is set once
abbrev pub IsOnce : List Entry → Type 0
IsOnce es = AllPairs (λ d e. d.lit.var ≢ e.lit.var) es

-- an entry is found by its variable
pub entry_of-among : (es : List Entry) (f : Entry) → IsOnce es → Contains es f → entry_of es f.lit.var ≡ Some f
entry_of-among [] f once among = absurd (nowhere f among)
entry_of-among (x ∷ xs) f once among = elim (cons_cases x xs f among) [
  | inl same ↦ rw (eq-eqb x.lit.var f.lit.var (ap (λ (o : Entry). o.lit.var) same)) (ap Some same)
  | inr later ↦ rw (ne_eqb x.lit.var f.lit.var (λ same. once 0 (suc later.0) f (omega arith) (omega (arith, later.1)) (same ∙ ap (λ (o : Entry). o.lit.var) (sym later.2))))
      (entry_of-among xs f (λ i j d less within. once (suc i) (suc j) d (omega (arith, less)) (omega (arith, within))) later)
]

-- an entry makes its literal true
pub value-true : (es : List Entry) (f : Entry) → IsOnce es → Contains es f → values_of es f.lit.var ≡ Some f.lit.positive
value-true es f once among = ap (option_map (λ (e : Entry). e.lit.positive)) (entry_of-among es f once among)

-- a literal that an entry makes true has that value
pub value-by : (es : List Entry) (level : ℕ) (l : Lit) → IsOnce es → IsTrueBy es level l → values_of es l.var ≡ Some l.positive
value-by es level l once t = subst (λ (k : Lit). values_of es k.var ≡ Some k.positive) t.sets (value-true es t.entry once t.among)

-- an entry makes the negation of its literal false
pub value-false : (es : List Entry) (i : ℕ) (e : Entry) (w : Lit) → IsOnce es → slice_get es i ≡ Some e → negated e.lit ≡ w → MakesFalse (values_of es) w
value-false es i e w once got fails =
    subst (MakesFalse (values_of es)) fails (value-true es e once (at-among es i e got) ∙ ap Some (sym (not-not e.lit.positive)))

-- a value comes from an entry
pub value-entry : (o : Option Entry) (b : Bool) → option_map (λ (e : Entry). e.lit.positive) o ≡ Some b → (e : Entry) × (o ≡ Some e) × (e.lit.positive ≡ b)
value-entry None b given = cc
value-entry (Some e) b given = (e, refl, (let same : e.lit.positive ≡ b = cc in same))

-- more entries keep each value
pub values_of-kept : (es more : List Entry) (v : ℕ) (b : Bool) → values_of es v ≡ Some b → values_of (es ++ more) v ≡ Some b
values_of-kept es more v b given =
    let entry = value-entry (entry_of es v) b given in
    ap (option_map (λ (e : Entry). e.lit.positive)) (entry_of-kept es more v entry.0 entry.1) ∙ ap Some entry.2

-- a true literal was set by an entry
pub true-entry : (es : List Entry) (l : Lit) → values_of es l.var ≡ Some l.positive → (e : Entry) × Contains es e × (e.lit ≡ l)
true-entry es l holds =
    let entry = value-entry (entry_of es l.var) l.positive holds in
    (entry.0, entry_of-member es l.var entry.0 entry.1, same_literal entry.0.lit l (entry_of-variable es l.var entry.0 entry.1) entry.2)

-- a false literal was made false by an entry
pub false-entry : (es : List Entry) (w : Lit) → MakesFalse (values_of es) w → (e : Entry) × Contains es e × (negated e.lit ≡ w)
false-entry es w fails =
    let entry = value-entry (entry_of es w.var) (not w.positive) fails in
    (entry.0, entry_of-member es w.var entry.0 entry.1, same_literal (negated entry.0.lit) w (entry_of-variable es w.var entry.0 entry.1) (ap not entry.2 ∙ not-not w.positive))

-- what is true stays true
pub IsTrueBy-more : (es more : List Entry) (level : ℕ) (l : Lit) → IsTrueBy es level l → IsTrueBy (es ++ more) level l
IsTrueBy-more es more level l t = record { entry = t.entry; among = Contains-append_left es more t.entry t.among; sets = t.sets; low = t.low }

-- what is false stays false
pub OthersFalse-more : (es more : List Entry) (clause : List Lit) (l : Lit) → OthersFalse (values_of es) clause l → OthersFalse (values_of (es ++ more)) clause l
OthersFalse-more es more clause l others m among other = values_of-kept es more m.var (not m.positive) (others m among other)
