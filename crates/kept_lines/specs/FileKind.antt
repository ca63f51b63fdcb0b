-- What a file is to a journal that begins with a head.
use Rattle.std.specs.Prelude.{◌≡◌, List, ℕ, length, take}
use Rattle.kept_lines.specs.CrashImage.{IsHalfWritten}
use Rattle.kept_lines.specs.Text.{image_text}
use Rattle.kept_lines.specs.declared.file_image.FileKind.{FileKind}
use Rattle.kept_lines.specs.declared.file_image.FileKind.TheVariants.{Journal, Unmade, Other}

-- the text of the file begins with the head
abbrev pub HasHead : List ℕ → List ℕ → Type 0
HasHead head image = head ≡ take (length head) (image_text image)

-- a journal has the head; one that is unmade may be left by a crash while the head is written
abbrev pub IsOfKind : List ℕ → List ℕ → FileKind → Type 0
IsOfKind head image Journal = HasHead head image
IsOfKind head image Unmade = (HasHead head image → ⊥) × IsHalfWritten head image
IsOfKind head image Other = (HasHead head image → ⊥) × (IsHalfWritten head image → ⊥)
