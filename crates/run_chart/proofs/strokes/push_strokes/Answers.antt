-- The strokes of one event more.
use Rattle.std.proofs.Common.{◌++◌, List, ℕ, ap, take, ◌∙◌}
use Rattle.std.specs.List.{enumerate_from, flat_map}
use Rattle.bspl_types.specs.declared.event.Event.{Event}
use Rattle.html.specs.Fragment.{Fragment, as_html}
use Rattle.run_chart.proofs.IndexLemmas.{enumerate_all, enumerate_more}
use Rattle.run_chart.proofs.StrokeLemmas.{drawn_at, drawn_each}
use Rattle.run_chart.proofs.strokes.push_strokes.Goals as goal

pub loop-index-preserved : goal.loop-index-preserved
loop-index-preserved c =
    let x = c.args.s.now.x.now in
    let run = c.args.s.now.run.now in
    let i = c.loop-index.index in
    let d = c.index-run-index.result in
    c.in_ok-push_strokes_at.ensures
    ∙ ap (λ (ys : List ℕ). ys ++ as_html (drawn_at x run (i, d))) c.loop-index.invariant
    ∙ ap (λ (e : Event). (c.args.text.now ++ as_html (flat_map (drawn_at x run) (take i (enumerate_from 0 run)))) ++ as_html (drawn_at x run (i, e))) c.index-run-index.is
    ∙ enumerate_more (drawn_at x run) c.args.text.now run i d c.loop-index-test.true

pub returns : goal.returns
returns c =
    let x = c.args.s.now.x.now in
    let run = c.args.s.now.run.now in
    c.loop-index.invariant
    ∙ enumerate_all (drawn_at x run) c.args.text.now run c.loop-index.index c.loop-index-test.false
    ∙ ap (λ (parts : List Fragment). c.args.text.now ++ as_html parts) (drawn_each x run (enumerate_from 0 run))
