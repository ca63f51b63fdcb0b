-- The loop passes over the lines of the input before its first part line.
use Rattle.std.proofs.Common.{rules, arith, length, sym, ◌∙◌, eqb, of_calls}
use Rattle.std.proofs.lemmas.Iterator.Consumers.{YieldsList-turn, YieldsList-end}
use Rattle.std.proofs.lemmas.Iterator.Splits.{YieldsList-from_slice_split}
use Rattle.std.proofs.lemmas.List.{length-take, length_push}
use Rattle.tool_input.proofs.PartLines.{IsNext, before_part_line, line_passed, line_within, no_part_line, nothing_passed}
use Rattle.tool_input.proofs.parts.protocol_text.Goals as goal

-- where a part line was yielded, it is the next one
next_then : (c : goal.Then-is_part_line) → IsNext c.args.input.now (length c.loop-line.yielded) c.in-Some.line.now
next_then c =
    let turn = YieldsList-turn (YieldsList-from_slice_split _ (λ b. eqb b 10) c.args.input.now (cc) (cc) c.split-line-items.ensures.closure (λ x b q k. search rules)) c.loop-line.yielded _ c.loop-line.yielded_by _ _ c.in-Some.line c.in-Some.is c.next.ensures.steps in
    record { within = turn.0; there = turn.1 }

-- and so is another line
next_else : (c : goal.Else-is_part_line) → IsNext c.args.input.now (length c.loop-line.yielded) c.in-Some.line.now
next_else c =
    let turn = YieldsList-turn (YieldsList-from_slice_split _ (λ b. eqb b 10) c.args.input.now (cc) (cc) c.split-line-items.ensures.closure (λ x b q k. search rules)) c.loop-line.yielded _ c.loop-line.yielded_by _ _ c.in-Some.line c.in-Some.is c.next.ensures.steps in
    record { within = turn.0; there = turn.1 }

pub loop-line-init : goal.loop-line-init
loop-line-init c = (search of_calls, tt, nothing_passed c.args.input.now)

pub slice_bounds-result-end : goal.slice_bounds-result-end
slice_bounds-result-end c = omega (arith, line_within _ _ _ (next_then c), length-take c.loop-line.start c.args.input.now)

pub returns-then-is_part_line : goal.returns-then-is_part_line
returns-then-is_part_line c = before_part_line _ _ _ _ c.loop-line.invariant.2 (next_then c) (sym c.is_part_line.ensures ∙ c.if-is_part_line.true)

pub overflow_add-start-in-loop-line : goal.overflow_add-start-in-loop-line
overflow_add-start-in-loop-line c = omega (arith, line_within _ _ _ (next_else c))

pub loop-line-preserved : goal.loop-line-preserved
loop-line-preserved c = (search of_calls, tt, rw (length_push c.loop-line.yielded c.in-Some.line) (line_passed _ _ _ _ c.loop-line.invariant.2 (next_else c) (sym c.is_part_line.ensures ∙ c.if-is_part_line.false)))

pub returns : goal.returns
returns c =
    let end = YieldsList-end (YieldsList-from_slice_split _ (λ b. eqb b 10) c.args.input.now (cc) (cc) c.split-line-items.ensures.closure (λ x b q k. search rules)) c.loop-line.yielded _ c.loop-line.yielded_by _ _ c.in-None.is c.next.ensures.steps in
    no_part_line _ _ _ c.loop-line.invariant.2 end.1
