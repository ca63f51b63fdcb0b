-- What a lookup by an index lends.
use Rattle.std.proofs.Common.{◌≡◌, ℕ, List, length, Option, Some, None, refl, sym}
use Rattle.std.specs.Prelude.{option_copied}
use Rattle.std.specs.List.{slice_get}
use Rattle.std.specs.Slice.{IsItemAt}
use Rattle.std.proofs.lemmas.Option.{slice_get_past, slice_get_read}
use denote.Ref.{Bor}

-- what `get` lends is the item at the index
pub item_at : {X : Type 0} (xs : List X) (i : ℕ) (found : Option (Bor X)) → IsItemAt xs i found → option_copied found ≡ slice_get xs i
item_at xs i None got = sym (slice_get_past xs i got.3)
item_at xs i (Some x) got = sym (slice_get_read xs (length xs) i x.now refl got.3.0 got.1)
