-- What a list is once an item of it was lent.
use Rattle.std.specs.Prelude.{ℕ, List, slice_set}
use Rattle.std.specs.Borrow.{Lends, MutBor, Fml, RattleType}
use Rattle.list_base.specs.contracts.seq.Seq.{the_row}

-- the list ends with the last value behind the reference at that index
abbrev pub LendsItem : (T : RattleType) → MutBor (List T.Denot) → ℕ → MutBor T.Denot → Fml
LendsItem T list i lent = Lends (the_row T) T list lent (slice_set list.now i)
