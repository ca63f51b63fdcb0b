-- What users see of a source and a sink in memory that may fail.
use Rattle.std.specs.Prelude.{◌≡◌, ℕ, List, Result, IfOk, IsErr, IsErrOf, IsTrue, ◌↔◌, min, length}
use Rattle.bspl_io.specs.declared.source.Failed.{Failed}
use Rattle.bspl_io.specs.declared.sink.Trouble.{Trouble}
use Rattle.bspl_io.specs.declared.sink.Trouble.TheVariants.{Failed as DidFail}
use Rattle.bspl_io.specs.declared.schedule.Schedule.{Schedule}
use Rattle.bspl_io.specs.Schedule.{is_due, after_call}

-- the bytes that are remaining, and the calls that fail
pub record Supply : Type 0 where
  pub remaining : List ℕ
  pub schedule : Schedule

-- the bytes that were written, and the calls that fail
pub record Intake : Type 0 where
  pub contents : List ℕ
  pub schedule : Schedule

-- the call fails exactly where it is listed, and gives a piece, or what fits, or what is remaining
pub record GivesPiece (old new : Supply) (room : ℕ) (result : Result ℕ Failed) : Type 0 where
  pub counted : new.schedule ≡ after_call old.schedule
  pub listed : IsErr result ↔ IsTrue (is_due old.schedule)
  pub full : IfOk result (λ n. n ≡ min old.schedule.piece (min room (length old.remaining)))

-- the call fails exactly where it is listed, and takes a piece, or all of a shorter text
pub record TakesPiece (old new : Intake) (size : ℕ) (result : Result ℕ Trouble) : Type 0 where
  pub counted : new.schedule ≡ after_call old.schedule
  pub listed : IsErrOf result DidFail ↔ IsTrue (is_due old.schedule)
  pub full : IfOk result (λ n. n ≡ min old.schedule.piece size)
