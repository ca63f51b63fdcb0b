-- The fates of messages, one after another.
use Rattle.std.proofs.Common.{◌≤◌, ◌≡◌, ℕ, ◌+◌, ◌<◌, List, Option, None, Some, IfSome, length, map, get_or, inl, inr, sym, ap, ◌∙◌, subst, arith}
use Rattle.std.specs.Prelude.{slice_get, slice_set, slice_index_or, option_map}
use Rattle.std.proofs.lemmas.Bool.{cases_eq}
use Rattle.std.proofs.lemmas.List.{get_or-set_other, get_or-set_same, length-map, length-set}
use Rattle.std.proofs.lemmas.List.FromFn.{get_or-enumerate_from, length-enumerate_from}
use Rattle.std.proofs.lemmas.Option.{get_or_from_slice_get, slice_get-get_or, slice_get-map, slice_get_within}
use Rattle.bspl_types.specs.declared.expanded.Expanded.{Expanded}
use Rattle.enactability.specs.declared.outcome.Enact.{Enact}
use Rattle.enactability.specs.declared.outcome.Enact.TheVariants.{Undecided}
use Rattle.enactability.specs.Answer.{IsRightEnact}
use Rattle.message_fates.specs.declared.fate.Fate.{Fate}
use Rattle.message_fates.specs.declared.fate.Fate.TheVariants as fates
use Rattle.refutation_log.specs.declared.refutation.Log.{Log}
use Rattle.message_fates.specs.Fates.{AreFates, HasFate, IsUndecidedMessage}
use Rattle.message_fates.specs.inner.Known.{AreKnown, IsKnownFate}

-- the messages from this one on have these fates
abbrev pub HaveFatesFrom : Expanded → ℕ → ℕ → List Fate → Type 0
HaveFatesFrom x budget first fates = (m : ℕ) (fate : Fate) → first ≤ m → slice_get fates m ≡ Some fate → HasFate x budget (m, fate)

-- a fate that is known is right
pub known_is_right : (x : Expanded) (budget m : ℕ) (fate : Fate) → IsKnownFate x m fate → HasFate x budget (m, fate)
known_is_right x budget m fates.Sent known = known
known_is_right x budget m fates.Dead known = known
known_is_right x budget m fates.Undecided known = absurd known

-- and one of the list is known
pub known_at : (x : Expanded) (known : List (Option Fate)) (m : ℕ) (d : Option Fate) → m < length known → AreKnown x known → IfSome (get_or known m d) (IsKnownFate x m)
known_at x known m d within are = go (get_or known m d) (slice_get-get_or known m d within)
  where
    go : (fate : Option Fate) → slice_get known m ≡ Some fate → IfSome fate (IsKnownFate x m)
    go (Some fate) at = are m fate at
    go None at = tt

-- one message more has its fate
pub found_more : (x : Expanded) (budget m : ℕ) (fates : List Fate) (fate : Fate) → HasFate x budget (m, fate) → HaveFatesFrom x budget (m + 1) fates → HaveFatesFrom x budget m (slice_set fates m fate)
found_more x budget m fates fate right later n put from at = elim (cases_eq n m) [
  | inl same ↦
      let here = subst (λ k. slice_get (slice_set fates m fate) k ≡ Some put) same at in
      let within = slice_get_within (slice_set fates m fate) m put here in
      let is : fate ≡ put = sym (get_or-set_same fates m fate put (omega (arith, within, length-set fates m fate))) ∙ get_or_from_slice_get (slice_set fates m fate) m put put here in
      subst (λ k. HasFate x budget (k, put)) (sym same) (subst (λ f. HasFate x budget (m, f)) is right)
  | inr other ↦
      let within = slice_get_within (slice_set fates m fate) n put at in
      let kept = slice_get-get_or fates n put (omega (arith, within, length-set fates m fate))
      ∙ ap Some (sym (get_or-set_other fates m n fate put other) ∙ get_or_from_slice_get (slice_set fates m fate) n put put at) in
      later n put (omega (arith, from, other)) kept
]

-- all have
pub all_found : (x : Expanded) (budget : ℕ) (fates : List Fate) → length fates ≡ length x.messages → HaveFatesFrom x budget 0 fates → AreFates x budget fates
all_found x budget fates one_each found =
    record {
      one_each = one_each;
      right = λ k d within.
          let inside : k < length fates = omega (arith, within, length-enumerate_from 0 fates) in
          let number : k ≡ 0 + k = omega arith in
          let item = ap {B = ℕ × Fate} (λ n. (n, slice_index_or fates k d.1)) number ∙ sym (get_or-enumerate_from 0 fates k d inside) in
          subst (HasFate x budget) item (found k (slice_index_or fates k d.1) (omega arith) (slice_get-get_or fates k d.1 inside));
    }

-- so are the fates if all are known
pub known_found : (x : Expanded) (budget : ℕ) (known : List (Option Fate)) (fates : List Fate) → length known ≡ length x.messages → known ≡ map Some fates → AreKnown x known → AreFates x budget fates
known_found x budget known fates one_each all are =
    all_found x budget fates (sym (length-map fates Some) ∙ ap length (sym all) ∙ one_each)
    (λ m fate _ at. known_is_right x budget m fate (are m fate (ap (λ list. slice_get list m) all ∙ slice_get-map Some fates m ∙ ap (option_map Some) at)))

-- and the answer of a search that spent its budget
pub spent_search : (x : Expanded) (budget m : ℕ) (answer : Enact) (log : Log) → IsRightEnact x m budget answer → answer ≡ Undecided log → IsUndecidedMessage x budget m
spent_search x budget m answer log right is = record { log = log; spent = subst (IsRightEnact x m budget) is right }
