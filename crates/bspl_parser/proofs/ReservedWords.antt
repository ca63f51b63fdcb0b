-- A text is a long reserved word or a short one, as its length has it.
use Rattle.std.proofs.Common.{◌≡◌, ◌≢◌, ◌<◌, ◌≤◌, ℕ, true, false, List, length, refl, ap, arith}
use Rattle.std.specs.Str.{bytes_eq}
use Rattle.std.specs.Cmp.Lexicographic.{bytes_decides}
use Rattle.bspl_parser.specs.declared.symbol.Symbol.TheVariants.{Roles, Role, Parameters, Parameter, Private, In, Out, Nil, Any, Opt, Key}
use Rattle.bspl_parser.specs.Symbol.{spelling}
use Rattle.bspl_parser.specs.inner.SymbolTable.{long_words, short_words}
use Rattle.bspl_parser.specs.inner.Scanner.{word_among, word_symbol}

-- texts of two lengths are not equal
other_length : (text word : List ℕ) (n : ℕ) → length word ≡ n → length text ≢ n → bytes_eq text word ≡ false
other_length text word n len other =
    (elim (bytes_eq text word) as (λ b. bytes_eq text word ≡ b → b ≡ false) [
      | true ↦ λ same. absurd (let both = ap length ((bytes_decides text word).0 same) in other (omega (arith, both, len)))
      | false ↦ λ differ. refl
    ]) refl

-- a text of fewer than four bytes is no long word
pub short_is_word : (text : List ℕ) → length text < 4 → word_among short_words text ≡ word_symbol text
short_is_word text few =
    rw (
      other_length text (spelling Roles) 5 refl (λ is. omega (arith, few, is)),
      other_length text (spelling Role) 4 refl (λ is. omega (arith, few, is)),
      other_length text (spelling Parameters) 10 refl (λ is. omega (arith, few, is)),
      other_length text (spelling Parameter) 9 refl (λ is. omega (arith, few, is)),
      other_length text (spelling Private) 7 refl (λ is. omega (arith, few, is)),
    ) refl

-- and one of four and more is no short one
pub long_is_word : (text : List ℕ) → 4 ≤ length text → word_among long_words text ≡ word_symbol text
long_is_word text many =
    rw (
      other_length text (spelling In) 2 refl (λ is. omega (arith, many, is)),
      other_length text (spelling Out) 3 refl (λ is. omega (arith, many, is)),
      other_length text (spelling Nil) 3 refl (λ is. omega (arith, many, is)),
      other_length text (spelling Any) 3 refl (λ is. omega (arith, many, is)),
      other_length text (spelling Opt) 3 refl (λ is. omega (arith, many, is)),
      other_length text (spelling Key) 3 refl (λ is. omega (arith, many, is)),
    ) refl
