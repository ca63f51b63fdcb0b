-- Fates that are known, one more at a time.
use Rattle.std.proofs.Common.{◌≡◌, ◌≢◌, ℕ, List, Option, None, Some, inl, inr, sym, ◌∙◌, ap, subst, arith}
use Rattle.std.specs.Prelude.{slice_get, slice_set}
use Rattle.std.proofs.lemmas.Bool.{cases_eq}
use Rattle.std.proofs.lemmas.List.{get_or-set_other, get_or-set_same, length-set}
use Rattle.std.proofs.lemmas.Option.{get_or_from_slice_get, same_Some, slice_get-get_or, slice_get_within}
use Rattle.bspl_types.specs.declared.expanded.Expanded.{Expanded}
use Rattle.message_fates.specs.declared.fate.Fate.{Fate}
use Rattle.message_fates.specs.inner.Known.{AreKnown, IsKnownFate}

-- the fate that was put there
put_here : (known : List (Option Fate)) (i : ℕ) (put fate : Fate) → slice_get (slice_set known i (Some put)) i ≡ Some (Some fate) → put ≡ fate
put_here known i put fate at =
    let within = slice_get_within (slice_set known i (Some put)) i (Some fate) at in
    same_Some put fate (sym (get_or-set_same known i (Some put) None (omega (arith, within, length-set known i (Some put)))) ∙ get_or_from_slice_get (slice_set known i (Some put)) i (Some fate) None at)

-- those at other places stay
kept_there : (known : List (Option Fate)) (i m : ℕ) (put fate : Fate) → m ≢ i → slice_get (slice_set known i (Some put)) m ≡ Some (Some fate) → slice_get known m ≡ Some (Some fate)
kept_there known i m put fate other at =
    let within = slice_get_within (slice_set known i (Some put)) m (Some fate) at in
    slice_get-get_or known m None (omega (arith, within, length-set known i (Some put)))
    ∙ ap Some (sym (get_or-set_other known i m (Some put) None other) ∙ get_or_from_slice_get (slice_set known i (Some put)) m (Some fate) None at)

-- a fate that is right is put to those that are
pub known_more : (x : Expanded) (known : List (Option Fate)) (i : ℕ) (put : Fate) → IsKnownFate x i put → AreKnown x known → AreKnown x (slice_set known i (Some put))
known_more x known i put right are m fate at = elim (cases_eq m i) [
  | inl same ↦ subst (λ n. IsKnownFate x n fate) (sym same) (subst (IsKnownFate x i) (put_here known i put fate (subst (λ n. slice_get (slice_set known i (Some put)) n ≡ Some (Some fate)) same at)) right)
  | inr other ↦ are m fate (kept_there known i m put fate other at)
]
