-- The run follows what names the parameter that stays open.
use Rattle.std.proofs.lemmas.Result.{on_ok_weaker}
use Rattle.run_chart.specs.declared.finding.Finding.TheVariants.{Open}
use Rattle.page_sections.specs.VerdictSections.{run_shown, not_live_sentence}
use Rattle.page_sections.proofs.GroupLemmas.{then_written}
use Rattle.page_sections.proofs.verdicts.push_liveness.Goals as goal

pub returns-in_ok-push_not_live-in-NotLive : goal.returns-in_ok-push_not_live-in-NotLive
returns-in_ok-push_not_live-in-NotLive c =
    let x = c.args.a.now in
    let found = c.in-NotLive in
    let words = not_live_sentence x found.param in
    let shown = run_shown x found.run' (Open found.param) in
    let one = rw c.expanded-x.ensures.same at c.in_ok-push_not_live-in-NotLive.ensures in
    rw found.is (
    on_ok_weaker c.push_evidence.result (then_written c.args.text.now _ c.push_evidence.new.text words shown one)
    (rw c.as_slice-events.ensures at c.push_evidence.ensures)
    )
