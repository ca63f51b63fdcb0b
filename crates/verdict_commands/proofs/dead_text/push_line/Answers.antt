-- The line is written piece by piece.
use Rattle.std.proofs.Common.{◌≡◌, ◌++◌, length, sym, subst}
use Rattle.std.specs.Fmt.{decimal}
use Rattle.std.specs.Prelude.{OnOk}
use Rattle.enactability.specs.declared.outcome.Enact.{Enact}
use Rattle.tool_input.specs.Lines.{line}
use Rattle.verdict_commands.specs.declared.wording.TheConstants.{UNDECIDED}
use Rattle.verdict_commands.specs.DeadAnswer.{enact_line}
use Rattle.verdict_commands.proofs.MessageAnswers.{undecided_written}
use Rattle.verdict_commands.proofs.dead_text.push_line.Goals as goal

pub returns-in-Undecided : goal.returns-in-Undecided
returns-in-Undecided c =
    let old = c.args.text.now in
    let name = c.args.name.now in
    let text = c.append-2.new.self ++ line (UNDECIDED.now ++ decimal c.len.result) in
    let written = undecided_written old c.append.new.self c.append-2.new.self name (length c.in-Undecided.log.steps) c.len.result c.in_ok-append.ensures.ok c.in_ok-append-2.ensures.ok c.len.ensures in
    let whole : text ≡ old ++ line (enact_line name c.args.answer.now) = subst (λ (answer : Enact). text ≡ old ++ line (enact_line name answer)) (sym c.in-Undecided.is) written in
    subst (λ t. OnOk c.push_steps.result (c.push_steps.new.text ≡ t)) whole c.push_steps.ensures
