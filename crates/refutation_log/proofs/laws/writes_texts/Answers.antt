-- Version 1 is written where nothing is removed.
use Rattle.std.proofs.Common.{◌≡◌, List, [], ◌∷◌, refl}
use Rattle.refutation_log.specs.declared.refutation.Removal.{Removal}
use Rattle.refutation_log.specs.declared.refutation.Version.TheVariants.{One}
use Rattle.refutation_log.specs.LogText.{least_version}
use Rattle.refutation_log.proofs.laws.writes_texts.Goals as goal

least_allowed : (removals : List Removal) → least_version removals ≡ One → removals ≡ []
least_allowed [] is = refl
least_allowed (removal ∷ removals) is = absurd (cc)

pub returns : goal.returns
returns c = λ kind log numbers. record { numbers = numbers; version = least_version log.removals; allowed = least_allowed log.removals; text = refl }
