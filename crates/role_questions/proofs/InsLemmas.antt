-- The parameters of the known values that a form lists.
use Rattle.std.proofs.Common.{◌≡◌, ◌∙◌, ℕ, List, [], ◌∷◌, ◌++◌, inl, inr, map, ap, subst}
use Rattle.std.proofs.lemmas.List.{map-append}
use Rattle.bspl_types.specs.declared.event.Event.{Event}
use Rattle.bspl_types.specs.declared.expanded.Expanded.{Expanded}
use Rattle.bspl_types.specs.declared.protocol.Adornment.{Adornment}
use Rattle.bspl_types.specs.declared.protocol.Adornment.TheVariants.{In}
use Rattle.bspl_types.specs.declared.protocol.Carried.{Carried}
use Rattle.bspl_types.specs.declared.value.Value.{Value}
use Rattle.bspl_types.specs.Knowledge.{IsKnown}
use Rattle.role_knowledge.specs.Blocked.{IsPermitted, Permits}
use Rattle.role_questions.specs.declared.form.KnownValue.{KnownValue}
use Rattle.role_questions.specs.inner.Added.{AddsKnown}
use Rattle.role_questions.proofs.KnownLemmas.{known_value}

-- the parameters of known values
abbrev pub params_of : List KnownValue → List ℕ
params_of list = map (λ (k : KnownValue). k.param) list

module _ (x : Expanded) (history : List Event) (key : List Value) where
  -- an `in` parameter that is permitted is known
  pub known_if_permitted : (c : Carried) → IsPermitted x history key c → c.adornment ≡ In → IsKnown x history key c.param
  known_if_permitted c permitted is = subst (λ (a : Adornment). Permits a (IsKnown x history key c.param)) is permitted

  -- a parameter that is known comes last
  pub known_comes_last : (p : ℕ) (old new : List KnownValue) → IsKnown x history key p → AddsKnown x history key p old new → params_of new ≡ params_of old ++ p ∷ []
  known_comes_last p old new known adds = elim adds as (λ _. params_of new ≡ params_of old ++ p ∷ []) [
    | inl none ↦ absurd (none.0 known)
    | inr some ↦ ap params_of some.2 ∙ map-append (λ (k : KnownValue). k.param) old (known_value p some.0 ∷ [])
  ]
