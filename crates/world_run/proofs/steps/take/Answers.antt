-- What a taking leaves, from its lemmas.
use Rattle.std.proofs.Common.{ℕ, List, slice_set, refl, sym, ◌∙◌, subst}
use Rattle.adapter.specs.Desk.{DeskState}
use Rattle.adapter.specs.Kept.{IsKept}
use Rattle.agent_scripts.specs.Job.{Job}
use Rattle.world_run.specs.inner.Steps.{IsProgress}
use Rattle.world_run.proofs.TakeLemmas.{Taken, taken}
use Rattle.world_run.proofs.steps.take.Goals as goal

pub returns-clause-extend : goal.returns-clause-extend
returns-clause-extend c =
    let job : Job = c.args.job.now in
    let desks : List DeskState = c.args.desks.now in
    let role : ℕ = c.args.role in
    let old : DeskState = c.at_mut.result.now in
    let new : DeskState = c.desk_take.new.desk in
    let kept : IsKept job role new = subst (λ r. IsKept job r new) (c.requires.all.sound.kept.each role old c.at_mut.ensures.item).role_is c.desk_take.ensures.kept in
    let left : Taken job desks role c.desk_take.result (slice_set desks role new) = taken c.extended_stay_explained.ensures.receipt job desks role old new c.requires.all.safe c.requires.all.sound c.requires.all.whole c.at_mut.ensures.item kept c.args.rng.now c.desk_take.result c.desk_take.ensures.taken in
    left.extend

pub returns-clause-step : goal.returns-clause-step
returns-clause-step c =
    let job : Job = c.args.job.now in
    let desks : List DeskState = c.args.desks.now in
    let role : ℕ = c.args.role in
    let old : DeskState = c.at_mut.result.now in
    let new : DeskState = c.desk_take.new.desk in
    let kept : IsKept job role new = subst (λ r. IsKept job r new) (c.requires.all.sound.kept.each role old c.at_mut.ensures.item).role_is c.desk_take.ensures.kept in
    let left : Taken job desks role c.desk_take.result (slice_set desks role new) = taken c.extended_stay_explained.ensures.receipt job desks role old new c.requires.all.safe c.requires.all.sound c.requires.all.whole c.at_mut.ensures.item kept c.args.rng.now c.desk_take.result c.desk_take.ensures.taken in
    record {
      progress = subst (λ b. IsProgress job desks b (slice_set desks role new)) (sym c.is_some.ensures) left.progress;
      idle = λ rested d d_at. left.empty (sym c.is_some.ensures ∙ rested) d d_at;
      course = record {
        desk = c.at_mut.result.now;
        at = c.at_mut.ensures.item;
        receipt = c.desk_take.result;
        after = c.desk_take.new.desk;
        taking = c.desk_take.ensures.taken;
        desks = refl;
        word = c.desk_take.ensures.word;
      };
    }
