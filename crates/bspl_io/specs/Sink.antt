-- What a call appends to a sink whose contents may be known.
use Rattle.std.specs.Prelude.{◌≡◌, ◌≢◌, ℕ, List, [], Option, Result, Ok, Err, take, ⊤}
use Rattle.std.specs.Io.KnownBytes.{Appends}
use Rattle.bspl_io.specs.declared.sink.Trouble.{Trouble}
use Rattle.bspl_io.specs.declared.sink.Trouble.TheVariants.{Failed, NoMemory}

-- the write failed, or it took nothing of a piece that is not empty
abbrev pub IsFault : Result ℕ Trouble → List ℕ → Type 0
IsFault (Ok n) piece = (n ≡ 0) × (piece ≢ [])
IsFault (Err Failed) piece = ⊤
IsFault (Err NoMemory) piece = ⊥

-- the first of the bytes were appended, maybe none and maybe all
abbrev pub AppendsPrefix : Option (List ℕ) → Option (List ℕ) → List ℕ → Type 0
AppendsPrefix old new bytes = (n : ℕ) × Appends old new (take n bytes)
