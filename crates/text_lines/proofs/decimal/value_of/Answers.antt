-- The next digit's value is added to ten times the value so far.
use Rattle.std.proofs.Common.{◌≡◌, ◌+◌, ◌*◌, ◌-◌, min, take, get_or, sym, ap, ◌∙◌, arith}
use Rattle.std.specs.Str.Parse.{digits_value}
use Rattle.std.proofs.lemmas.Int.Digits.{digits_value_more}
use Rattle.std.proofs.lemmas.Str.{digit_value_digit}
use Rattle.std.proofs.lemmas.Str.Parse.{digit_at}
use Rattle.list_base.proofs.Numerals.{digits, value_stops}
use Rattle.text_lines.proofs.decimal.value_of.Goals as goal

pub loop-digit-preserved : goal.loop-digit-preserved
loop-digit-preserved c =
    let ds = c.args.digits.now in
    let i = c.loop-digit.digit-index in
    let d = get_or ds i 0 in
    let most = c.args.most + 1 in
    let so_far = digits_value 10 (take i ds) in
    let worth = digit_value_digit d (digit_at ds i (digits.to ds c.requires) c.loop-digit-test.true) in
    let more : digits_value 10 (take (i + 1) ds) ≡ so_far * 10 + (d - 48) = omega (arith, digits_value_more 10 ds i c.loop-digit-test.true) in
    c.min-value.ensures
    ∙ ap (λ x. min (c.loop-digit.value * 10 + x) (c.from-above.result + 1)) c.from.ensures
    ∙ ap (λ x. min (c.loop-digit.value * 10 + (d - 48)) (x + 1)) c.from-above.ensures
    ∙ value_stops c.loop-digit.value so_far (d - 48) most c.loop-digit.invariant
    ∙ ap (λ x. min x most) (sym more)
