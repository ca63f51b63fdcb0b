-- The run follows what names its events.
use Rattle.std.proofs.lemmas.Result.{on_ok_weaker}
use Rattle.run_chart.specs.declared.finding.Finding.TheVariants.{Clash}
use Rattle.page_sections.specs.VerdictSections.{run_shown, unsafe_sentence}
use Rattle.page_sections.proofs.GroupLemmas.{then_written}
use Rattle.page_sections.proofs.verdicts.push_safety.Goals as goal

pub returns-in_ok-push_unsafe-in-Unsafe : goal.returns-in_ok-push_unsafe-in-Unsafe
returns-in_ok-push_unsafe-in-Unsafe c =
    let x = c.args.a.now in
    let found = c.in-Unsafe in
    let words = unsafe_sentence x found.param found.first found.second in
    let shown = run_shown x found.run' (Clash found.param found.first found.second) in
    let one = rw c.expanded-x.ensures.same at c.in_ok-push_unsafe-in-Unsafe.ensures in
    rw found.is (
    on_ok_weaker c.push_evidence.result (then_written c.args.text.now _ c.push_evidence.new.text words shown one)
    (rw c.as_slice-events.ensures at c.push_evidence.ensures)
    )
