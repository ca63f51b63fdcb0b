-- The mark follows what leads to it.
use Rattle.std.proofs.Common.{◌≡◌, List, ℕ, OnOk, subst}
use Rattle.bspl_types.specs.History.{role_of}
use Rattle.run_chart.proofs.WritingLemmas.{written_more}
use Rattle.run_chart.specs.Drawing.{drawn}
use Rattle.run_chart.specs.Strokes.{Mark, line_at}
use Rattle.run_chart.proofs.strokes.push_strokes_at.Goals as goal

pub returns : goal.returns
returns c =
    let s = c.args.s.now in
    let x = s.x.now in
    let event = s.event.now in
    subst (λ (text : List ℕ). OnOk c.push_circle.result (c.push_circle.new.text ≡ text))
    (written_more drawn c.args.text.now _ (line_at x s.run.now s.index event) (Mark s.index (role_of x event) event) c.in_ok-push_line.ensures)
    (rw c.role.ensures at c.push_circle.ensures)
