-- What a crash may leave of a file in which lines are written over zeros, and the text of that.
use Rattle.std.specs.Prelude.{◌≡◌, ◌⊎◌, ℕ, List, ◌++◌, All, length, take}
use Rattle.std.specs.List.{AllZip}
use Rattle.kept_lines.specs.Text.{AreTextLines, image_text, whole_lines}

-- each byte is as it was written, or 0, or past the end
abbrev pub IsHalfWritten : List ℕ → List ℕ → Type 0
IsHalfWritten written left =
    AllZip (λ byte other. (other ≡ byte) ⊎ (other ≡ 0)) (take (length left) written) left

-- the image has the lines that were kept, behind them what is left of others that were begun, and
-- then zeros
pub record IsCrashImage (kept begun image : List ℕ) : Type 0 where
  pub left : List ℕ
  pub zeros : List ℕ
  pub half : IsHalfWritten begun left
  pub room : All (λ byte. byte ≡ 0) zeros
  pub whole : image ≡ kept ++ (left ++ zeros)

-- the text that is left is all that was kept, and the first of the begun lines that are whole
abbrev pub CrashLeavesLines : Type 0
CrashLeavesLines = (kept begun image : List ℕ) → AreTextLines kept →
    IsCrashImage kept begun image →
    (count : ℕ) × (image_text image ≡ kept ++ whole_lines (take count begun))
