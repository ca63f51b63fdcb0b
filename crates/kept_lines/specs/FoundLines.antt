-- What a journal's file held when it was opened, and what was asked of the file.
use Rattle.std.specs.Prelude.{◌≡◌, ◌⊎◌, ℕ, ◌+◌, true, false, List, [], ◌++◌, length, Option}
use Rattle.kept_lines.specs.FileCalls.{Cut, FailsToStore, FileCall, noted, stored}
use Rattle.kept_lines.specs.Text.{image_text}

-- the head, the lines behind it, and the calls on the file
pub record FoundLines : Type 0 where
  pub head : List ℕ
  pub lines : List ℕ
  pub calls : Option (List FileCall)

-- how many bytes the head and the lines have
abbrev pub found_len : FoundLines → ℕ
found_len found = length found.head + length found.lines

-- the text of the image is this head and these lines, and these are the calls
pub record HasFoundLines (head image : List ℕ) (calls : Option (List FileCall)) (found : FoundLines)
    : Type 0 where
  pub head_is : found.head ≡ head
  pub text : image_text image ≡ head ++ found.lines
  pub calls_are : found.calls ≡ calls

-- the head was written in place of all that was in the file, and synced
abbrev pub with_head : Option (List FileCall) → List ℕ → Option (List FileCall)
with_head calls head = stored (noted calls (Cut 0 true)) true 0 head

-- nothing was asked of the file, or a call to write the head failed, and was the last one
abbrev pub FailsToMake : Option (List FileCall) → Option (List FileCall) → List ℕ → Type 0
FailsToMake calls after head = (after ≡ calls) ⊎ (after ≡ noted calls (Cut 0 false)) ⊎
    FailsToStore (noted calls (Cut 0 true)) after 0 head

-- the file holds the head alone, after the calls that wrote it
abbrev pub made_lines : List ℕ → Option (List FileCall) → FoundLines
made_lines head calls = record { head = head; lines = []; calls = with_head calls head }
