-- A call that succeeds was not stopped.
use Rattle.std.proofs.Common.{◌≡◌, Bool, true, false, not, refl}
use Rattle.std.specs.Prelude.{◌↔◌, IsTrue}
use Rattle.std.proofs.lemmas.Bool.{false≢true}

pub succeeds : (fails : Bool) → (false ≡ true) ↔ IsTrue fails → not fails ≡ true
succeeds true told = absurd (false≢true (told.1 refl))
succeeds false told = refl
