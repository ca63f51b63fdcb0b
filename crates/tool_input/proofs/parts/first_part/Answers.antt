-- Each line begins the first part, or is passed over.
use Rattle.std.proofs.Common.{◌≡◌, ◌∷◌, ◌++◌, length, length-append, ap, arith, sym, ◌∙◌}
use Rattle.tool_input.proofs.FirstPart.{begun_before, begun_last, none_begun, passed_over}
use Rattle.tool_input.proofs.parts.first_part.Goals as goal

pub returns-in-Some-after-clause-exact : goal.returns-in-Some-after-clause-exact
returns-in-Some-after-clause-exact c =
    c.loop-part.invariant.0 ∙ begun_before c.loop-part.rest.now c.split_once.result.0.now c.in-Some-after.bytes.now c.in-Some.part (rw c.in-Some-after.is at c.split_once.ensures.parts) (sym c.part_begun.ensures ∙ c.in-Some.is)

pub returns-in-None-clause-exact : goal.returns-in-None-clause-exact
returns-in-None-clause-exact c =
    c.loop-part.invariant.0 ∙ begun_last c.loop-part.rest.now c.split_once.result.0.now c.in-Some.part (rw c.in-None.is at c.split_once.ensures.parts) (sym c.part_begun.ensures ∙ c.in-Some.is)

pub returns-in_default-after-clause-exact : goal.returns-in_default-after-clause-exact
returns-in_default-after-clause-exact c =
    c.loop-part.invariant.0 ∙ none_begun c.loop-part.rest.now c.split_once.result.0.now (rw c.in_default-after.is at c.split_once.ensures.parts) (sym c.part_begun.ensures ∙ c.in_default.is)

pub loop-part-preserved : goal.loop-part-preserved
loop-part-preserved c =
    let line = c.split_once.result.0.now in
    let bytes = c.in-Some-after-2.bytes.now in
    let whole : c.loop-part.rest.now ≡ line ++ 10 ∷ bytes = rw c.in-Some-after-2.is at c.split_once.ensures.whole in (
      c.loop-part.invariant.0 ∙ passed_over c.loop-part.rest.now line bytes (rw c.in-Some-after-2.is at c.split_once.ensures.parts) (sym c.part_begun.ensures ∙ c.in_default.is),
      omega (arith, c.loop-part.invariant.1, ap length whole, length-append line (10 ∷ bytes)),
    )
