-- Which texts are numbers in a range.
use Rattle.std.specs.Prelude.{◌≡◌, ◌≤◌, ℕ, List}
use Rattle.list_base.specs.Numeral.{numeral}

-- the text is the number in decimal, without a leading zero, and it is in the range
pub record IsNumberIn (least most : ℕ) (text : List ℕ) (n : ℕ) : Type 0 where
  pub written : text ≡ numeral n
  pub low : least ≤ n
  pub high : n ≤ most
