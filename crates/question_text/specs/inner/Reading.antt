-- What a reading stands for, and its next one.
use Rattle.std.specs.Prelude.{◌≡◌, ℕ, false, List, Option, Some, None, IsTrue, Result, Ok, Err}
use Rattle.bspl_types.specs.Name.{is_name}
use Rattle.question_text.specs.declared.reading.Misstep.{Misstep}
use Rattle.question_text.specs.declared.reading.Misstep.TheVariants.{Misplaced, NoMemory}
use Rattle.question_text.specs.declared.reading.Reading.{Reading}
use Rattle.question_text.specs.inner.Pending.{awaiting_of, awaiting_outside}
use Rattle.question_text.specs.inner.Piece.{piece_of}
use Rattle.question_text.specs.inner.Progress.{Progress}

-- what has been read, wherever its trees lie in memory
abbrev pub progress_of : Reading → Progress
progress_of r = record {
  piece = piece_of r.part;
  inside = awaiting_of r.inside;
  outside = awaiting_outside r.outside;
}

-- what was returned is the next reading, if there is one, unless memory ran out
abbrev pub IsStep : Option Progress → Result Reading Misstep → Type 0
IsStep next (Ok r) = next ≡ Some (progress_of r)
IsStep next (Err Misplaced) = next ≡ None
IsStep next (Err NoMemory) = Unit {0}

-- the name is the word
pub record IsNameOf (word name : List ℕ) : Type 0 where
  pub same : name ≡ word
  pub named : IsTrue (is_name word)

-- the word is no name, unless memory ran out
abbrev pub IsNoName : List ℕ → Misstep → Type 0
IsNoName word Misplaced = is_name word ≡ false
IsNoName word NoMemory = Unit {0}
