-- Digits are a numeral if they are one alone, or do not begin with 0.
use Rattle.std.proofs.Common.{◌≡◌, get_or, arith, sym, ◌∙◌}
use Rattle.std.proofs.lemmas.Bool.{eqb-false, ne_eqb, not-true, not_from_false}
use Rattle.list_base.proofs.Numerals.{numeral_plain, is_spelled, tests_digits}
use Rattle.text_lines.proofs.decimal.is_numeral.Goals as goal

pub returns-then-not-are_digits : goal.returns-then-not-are_digits
returns-then-not-are_digits c = (λ wrong. absurd (cc), λ spelled. absurd (let tested = tests_digits _ spelled in cc))

pub returns-in-0 : goal.returns-in-0
returns-in-0 c = (λ wrong. absurd (cc), λ spelled. absurd (omega (arith, (numeral_plain _ spelled.0 spelled.1).some)))

pub returns-in-1 : goal.returns-in-1
returns-in-1 c =
    let tested = sym c.are_digits.ensures ∙ c.if-not-are_digits.false in
    (λ _. is_spelled c.args.bytes.now tested (omega arith) (λ _. omega arith), λ _. cc)

pub returns-in_default : goal.returns-in_default
returns-in_default c =
    let bytes = c.args.bytes.now in
    let tested = sym c.are_digits.ensures ∙ c.if-not-are_digits.false in (
      λ t. is_spelled bytes tested (omega arith) (λ e. absurd (eqb-false _ _ (not-true _ t) e)),
      λ spelled. not_from_false _ (ne_eqb _ _ (λ (zero_first : get_or bytes 0 0 ≡ 48). absurd (omega (arith, (numeral_plain bytes spelled.0 spelled.1).first zero_first)))),
    )
