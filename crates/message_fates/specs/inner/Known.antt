-- Fates that are known without a search.
use Rattle.std.specs.Prelude.{◌≡◌, ℕ, List, Option, Some, slice_get}
use Rattle.bspl_types.specs.declared.expanded.Expanded.{Expanded}
use Rattle.enactability.specs.Enactable.{Enactable}
use Rattle.message_fates.specs.declared.fate.Fate.{Fate}
use Rattle.message_fates.specs.declared.fate.Fate.TheVariants.{Dead, Sent, Undecided}

-- the fate is that the message is sent, and some legal run emits it; or that it is dead, and none does
abbrev pub IsKnownFate : Expanded → ℕ → Fate → Type 0
IsKnownFate x m Sent = Enactable x m
IsKnownFate x m Dead = ¬ Enactable x m
IsKnownFate x m Undecided = ⊥

-- so it is with each message that has a fate; others are open
abbrev pub AreKnown : Expanded → List (Option Fate) → Type 0
AreKnown x known =
    (m : ℕ) (fate : Fate) → slice_get known m ≡ Some (Some fate) → IsKnownFate x m fate
