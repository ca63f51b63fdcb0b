-- The last line that excludes another one, line by line.
use Rattle.std.proofs.Common.{◌≡◌, ◌∙◌, ℕ, zero, suc, ◌+◌, ◌-◌, ◌<◌, ◌≤◌, List, ◌∷◌, ◌++◌, length, take, Option, None, Some, refl, sym, ap, arith}
use Rattle.std.specs.Option.{option_or}
use Rattle.std.proofs.lemmas.List.{length-append}
use Rattle.answer_words.specs.Exclusion.{excluding_spot, last_excluding}
use Rattle.answer_words.specs.Place.{Spot}

-- the first of three answers, however they are taken together
or_or : (a b c : Option Spot) → option_or (option_or a b) c ≡ option_or a (option_or b c)
or_or None b c = refl
or_or (Some spot) b c = refl

-- one line more
pub one_line : (other shown : List ℕ) (number left : ℕ) (all more : List (List ℕ)) (found newer total : Option Spot) → all ≡ shown ∷ more → 0 < left → newer ≡ option_or (excluding_spot other number shown) found → option_or (last_excluding other number (take left all)) found ≡ total → option_or (last_excluding other (number + 1) (take (left - 1) more)) newer ≡ total
one_line other shown number zero all more found newer total is some later so_far = absurd (omega (arith, some))
one_line other shown number (suc left) all more found newer total is some later so_far =
    let less : suc left - 1 ≡ left = omega arith in
    let rest = last_excluding other (number + 1) (take left more) in
    ap (λ (k : ℕ). option_or (last_excluding other (number + 1) (take k more)) newer) less
    ∙ ap (option_or rest) later
    ∙ sym (or_or rest (excluding_spot other number shown) found)
    ∙ ap (λ (texts : List (List ℕ)). option_or (last_excluding other number (take (suc left) texts)) found) (sym is)
    ∙ so_far

-- the rest of the text is shorter by the line
pub shorter_rest : (rest shown more : List ℕ) (number bound : ℕ) → rest ≡ shown ++ 10 ∷ more → number + length rest ≤ bound → number + 1 + length more ≤ bound
shorter_rest rest shown more number bound is within =
    let long : length rest ≡ length shown + suc (length more) = ap length is ∙ length-append shown (10 ∷ more) in
    omega (arith, long, within)
