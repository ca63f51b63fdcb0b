-- The words and the row of one event more.
use Rattle.std.proofs.Common.{◌≡◌, ◌+◌, ◌++◌, List, ℕ, ap, take, ◌∙◌}
use Rattle.std.specs.List.{enumerate_from, flat_map}
use Rattle.bspl_types.specs.declared.event.Event.{Event}
use Rattle.html.specs.Fragment.{Fragment, as_html}
use Rattle.run_chart.proofs.IndexLemmas.{enumerate_all, enumerate_more}
use Rattle.run_chart.specs.EventTable.{event_row}
use Rattle.run_chart.specs.Labels.{words_at}
use Rattle.run_chart.proofs.events.push_events.Goals as goal

pub loop-index-preserved : goal.loop-index-preserved
loop-index-preserved c =
    let s = c.args.s.now in
    let run = s.run.now in
    let i = c.loop-index.index in
    let d = c.index-run-index.result in
    let next : (f : ℕ × Event → List Fragment) (old text new : List ℕ) → text ≡ old ++ as_html (flat_map f (take i (enumerate_from 0 run))) → new ≡ text ++ as_html (f (i, d)) → new ≡ old ++ as_html (flat_map f (take (i + 1) (enumerate_from 0 run))) = λ f old text new before is.
    is ∙ ap (λ (ys : List ℕ). ys ++ as_html (f (i, d))) before
    ∙ ap (λ (e : Event). (old ++ as_html (flat_map f (take i (enumerate_from 0 run)))) ++ as_html (f (i, e))) c.index-run-index.is
    ∙ enumerate_more f old run i d c.loop-index-test.true in
    (next (words_at s.x.now run s.finding) c.args.text.now _ _ c.loop-index.invariant.0 c.in_ok-push_event.ensures.words, next (event_row s.x.now run s.finding) c.args.table.now _ _ c.loop-index.invariant.1 c.in_ok-push_event.ensures.row)

pub returns-clause-words : goal.returns-clause-words
returns-clause-words c =
    let s = c.args.s.now in
    c.loop-index.invariant.0 ∙ enumerate_all (words_at s.x.now s.run.now s.finding) c.args.text.now s.run.now c.loop-index.index c.loop-index-test.false

pub returns-clause-rows : goal.returns-clause-rows
returns-clause-rows c =
    let s = c.args.s.now in
    c.loop-index.invariant.1 ∙ enumerate_all (event_row s.x.now s.run.now s.finding) c.args.table.now s.run.now c.loop-index.index c.loop-index-test.false
