-- No message is declined at the multiples of 0.
use Rattle.std.proofs.Common.{◌≡◌, ◌≢◌, ℕ, List, [], ◌∷◌, Option, Some, None, ap, ◌∙◌, arith}
use Rattle.std.specs.Fmt.{decimal}
use Rattle.agent_scripts.specs.Table.{IsEvery, every_fields}
use Rattle.script_text.proofs.NumberLemmas.{one_number}
use Rattle.script_text.proofs.decline_line.every_of.Goals as goal

not_zero : (word : List ℕ) (fields : List (List ℕ)) (n : ℕ) → n ≡ 0 → fields ≡ word ∷ decimal n ∷ [] → (every : Option ℕ) → IsEvery every → fields ≢ every_fields every
not_zero word fields n zero whole None is same = absurd (cc)
not_zero word fields n zero whole (Some m) is same =
    let both : decimal n ≡ decimal m = cc in
    let one : n ≡ m = one_number n m (omega arith) is.1 both in
    absurd (omega (arith, is.0))

pub returns-then-number-eq0 : goal.returns-then-number-eq0
returns-then-number-eq0 c = not_zero c.in-Some.word.now _ c.in_ok-number.number c.if-number-eq0.true (c.in-Some.ensures ∙ ap (λ (fs : List (List ℕ)). c.in-Some.word.now ∷ fs) c.in_ok-number.ensures)
