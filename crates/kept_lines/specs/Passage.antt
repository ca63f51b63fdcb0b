-- The order in which lines are kept and replies are written.
use Rattle.std.specs.Prelude.{◌≡◌, ◌⊎◌, ℕ, List, Option, Result, Ok, Err}
use Rattle.std.specs.Io.KnownBytes.{Appends, Keeps}
use Rattle.bspl_io.specs.Sink.{AppendsPrefix}
use Rattle.kept_lines.specs.declared.answer.AnswerRefusal.{AnswerRefusal}
use Rattle.kept_lines.specs.declared.answer.AnswerRefusal.TheVariants.{JournalFault, WriteFault, NoMemory}

-- the lines that are kept and the bytes that were written, before a call and after it
pub record Passage : Type 0 where
  pub kept : Option (List ℕ)
  pub kept_after : Option (List ℕ)
  pub contents : Option (List ℕ)
  pub contents_after : Option (List ℕ)

-- no line was kept, and nothing was written
abbrev pub PassesNothing : Passage → Type 0
PassesNothing p = Keeps p.kept p.kept_after × (p.contents_after ≡ p.contents)

-- the lines are kept, and a prefix of the replies was written
abbrev pub PassesPrefix : Passage → List ℕ → List ℕ → Type 0
PassesPrefix p lines replies =
    Appends p.kept p.kept_after lines × AppendsPrefix p.contents p.contents_after replies

-- nothing is written before the lines are kept
abbrev pub KeepsFirst : Passage → List ℕ → List ℕ → Result (Unit {0}) AnswerRefusal → Type 0
KeepsFirst p lines replies (Ok _) =
    Appends p.kept p.kept_after lines × Appends p.contents p.contents_after replies
KeepsFirst p lines replies (Err JournalFault) = PassesNothing p
KeepsFirst p lines replies (Err WriteFault) = PassesPrefix p lines replies
KeepsFirst p lines replies (Err NoMemory) = PassesNothing p ⊎ PassesPrefix p lines replies
