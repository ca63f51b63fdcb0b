-- The merge, from its lemmas.
use Rattle.std.proofs.Common.{subst, map}
use Rattle.stamped_history.specs.inner.Cursors.{HasNoNext, IsLowest}
use Rattle.stamped_history.proofs.CursorLemmas.{merged_at_end, merging_start, step_keeps, step_less, step_within}
use Rattle.stamped_history.proofs.merge.merge_histories.Goals as goal

pub loop-first-init : goal.loop-first-init
loop-first-init g c = merging_start g.H.History.entries c.args.histories.now c.in_ok-cursors.cursors c.new-run.result c.in_ok-cursors.ensures c.new-run.ensures

pub advance-cursor-requires : goal.advance-cursor-requires
advance-cursor-requires g c =
    let lowest : IsLowest c.loop-first.cursors c.in-Some.first = subst (λ cs. IsLowest cs c.in-Some.first) c.as_slice.ensures c.in-Some.ensures in
    step_within g.H.History.entries c.args.histories.now c.loop-first.cursors c.loop-first.run c.loop-first.invariant c.in-Some.first lowest c.index-histories-first.result c.at.result.now c.index-histories-first.is c.at.ensures

pub loop-first-smaller : goal.loop-first-smaller
loop-first-smaller g c =
    let lowest : IsLowest c.loop-first.cursors c.in-Some.first = subst (λ cs. IsLowest cs c.in-Some.first) c.as_slice.ensures c.in-Some.ensures in
    step_less g.H.History.entries c.args.histories.now c.loop-first.cursors c.loop-first.run c.loop-first.invariant c.in-Some.first lowest c.index-histories-first.result c.at.result.now c.index-histories-first.is c.at.ensures
    c.advance-cursor.result c.replace.new.self c.push.new.self c.advance-cursor.ensures c.replace.ensures.list c.in_ok-push.ensures.ok

pub loop-first-preserved : goal.loop-first-preserved
loop-first-preserved g c =
    let lowest : IsLowest c.loop-first.cursors c.in-Some.first = subst (λ cs. IsLowest cs c.in-Some.first) c.as_slice.ensures c.in-Some.ensures in
    step_keeps g.H.History.entries c.args.histories.now c.loop-first.cursors c.loop-first.run c.loop-first.invariant c.in-Some.first lowest c.index-histories-first.result c.at.result.now c.index-histories-first.is c.at.ensures
    c.advance-cursor.result c.replace.new.self c.push.new.self c.advance-cursor.ensures c.replace.ensures.list c.in_ok-push.ensures.ok c.requires

pub returns : goal.returns
returns g c = merged_at_end (map g.H.History.entries c.args.histories.now) c.loop-first.cursors c.loop-first.run c.loop-first.invariant (subst HasNoNext c.as_slice.ensures (λ e next. c.in_default.ensures e next))
