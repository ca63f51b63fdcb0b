-- The next line has a rule, one that is refused, or none.
use Rattle.std.specs.Option.{option_copied}
use Rattle.std.proofs.Common.{◌∙◌, sym}
use Rattle.std.proofs.lemmas.Result.{err_from_is_err_and}
use Rattle.list_base.specs.Lines.{parts_in}
use Rattle.protocol_rules.specs.RuleLine.{rule_bodies}
use Rattle.protocol_rules.proofs.ReadingLemmas.{body_found, body_outside, body_unmarked, fault_refused, line_passed, line_read, line_refused, placed_next}
use Rattle.protocol_rules.proofs.rules.rules_in.Goals as goal
use Rattle.protocol_rules.proofs.rules.rules_in.Goals.{then-is_in_braces+in-Some-body_start+in_ok-rule+in_ok-push, then-is_in_braces+in_default-body_start, else-is_in_braces}

pub returns-in_err-rule-clause-refused : goal.returns-in_err-rule-clause-refused
returns-in_err-rule-clause-refused c =
    let p = err_from_is_err_and c.from_residual.result c.from_residual.ensures.1 in
    let line = c.split_once.result.0.now in
    let lines = parts_in 10 (option_copied c.split_once.result.1) in
    let read = rw (c.in-Some.is, c.split_once.ensures.parts) at c.loop-left.invariant.0 in
    let found = body_found c.args.braces.now c.loop-left.offset line c.in-Some-body_start.start (sym c.is_in_braces.ensures ∙ c.if-is_in_braces.true) (sym c.in-Some-body_start.is ∙ c.body_start.ensures.start) in
    rw (p.1, p.2) (fault_refused (rule_bodies c.args.braces.now c.args.text.now) c.in_err-rule.field-0.0 (line_refused c.args.braces.now c.args.text.now c.loop-left.offset line lines c.loop-left.rules _ c.in_err-rule.field-0.0 found c.in_err-rule.ensures.fault read))

pub loop-left-preserved : goal.loop-left-preserved
loop-left-preserved c =
    let braces = c.args.braces.now in
    let text = c.args.text.now in
    let offset = c.loop-left.offset in
    let line = c.split_once.result.0.now in
    let lines = parts_in 10 (option_copied c.split_once.result.1) in
    let read = rw (c.in-Some.is, c.split_once.ensures.parts) at c.loop-left.invariant.0 in
    let placed = rw c.in-Some.is at c.loop-left.invariant.1 in (
      elim c.if-is_in_braces.branch [
        | then-is_in_braces+in-Some-body_start+in_ok-rule+in_ok-push w ↦
            let found = body_found braces offset line w.in-Some-body_start.start (sym c.is_in_braces.ensures ∙ w.if-is_in_braces.true) (sym w.in-Some-body_start.is ∙ w.body_start.ensures.start) in
            rw (w.rules-is, w.in_ok-push.ensures.ok) (line_read braces text offset line lines c.loop-left.rules _ w.in_ok-rule.rule found w.in_ok-rule.ensures.rule read)
        | then-is_in_braces+in_default-body_start w ↦
            rw w.rules-is (line_passed braces text offset line lines c.loop-left.rules (body_unmarked braces offset line (sym c.is_in_braces.ensures ∙ w.if-is_in_braces.true) (sym w.in_default-body_start.is ∙ w.body_start.ensures.start)) read)
        | else-is_in_braces w ↦
            rw w.rules-is (line_passed braces text offset line lines c.loop-left.rules (body_outside braces offset line (sym c.is_in_braces.ensures ∙ w.if-is_in_braces.false)) read)
      ],
      placed_next text offset c.in-Some.bytes.now line c.split_once.result.1 placed c.split_once.ensures.whole,
    )
