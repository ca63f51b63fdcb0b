-- Bytes at an offset of an image, and a write that a crash cuts short.
use Rattle.std.specs.Prelude.{◌≡◌, ℕ, ◌+◌, ◌<◌, ◌≤◌, List, length, slice_index}

-- the image has these bytes from the offset on
abbrev pub HasBytes : List ℕ → ℕ → List ℕ → Type 0
HasBytes image at bytes =
    (k : ℕ) → k < length bytes → slice_index image (at + k) ≡ slice_index bytes k

-- a write of so many bytes from the offset on was torn: these may be any bytes, all others stay
pub record IsTorn (at count : ℕ) (old new : List ℕ) : Type 0 where
  pub size : length new ≡ length old
  pub below : (i : ℕ) → i < at → slice_index new i ≡ slice_index old i
  pub above : (i : ℕ) → at + count ≤ i → slice_index new i ≡ slice_index old i
