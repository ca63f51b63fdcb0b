-- What an emission leaves, from its lemmas.
use Rattle.std.proofs.Common.{rules, ◌≡◌, ℕ, None, Some, false, List, slice_get, slice_set, refl, sym, ap, ◌∙◌, subst}
use Rattle.std.proofs.lemmas.Option.{get_or_from_slice_get}
use Rattle.adapter.specs.Desk.{DeskState}
use Rattle.adapter.specs.Kept.{IsFor, IsKept}
use Rattle.adapter.specs.Next.{IsNext}
use Rattle.agent_scripts.specs.Job.{Job}
use Rattle.bspl_types.specs.declared.envelope.Envelope.{Envelope}
use Rattle.world_run.specs.inner.Steps.{IsProgress}
use Rattle.world_run.specs.inner.InProgress.{Extend}
use Rattle.world_run.proofs.EmitLemmas.{Emitted, emitted, none_emitted, put_done, put_failed}
use Rattle.world_run.proofs.RoundLemmas.{extend_none, progress_none}
use Rattle.world_run.proofs.SetLemmas.{set_same}
use Rattle.world_run.proofs.steps.emit.Goals as goal

pub returns-in_default : goal.returns-in_default
returns-in_default c =
    let job : Job = c.args.job.now in
    let desks : List DeskState = c.args.desks.now in
    let role : ℕ = c.args.role in
    let old : DeskState = c.at_mut.result.now in
    let new : DeskState = c.desk_emit.new.desk in
    let same : slice_set desks role new ≡ desks = set_same desks role new (c.at_mut.ensures.item ∙ ap Some (sym c.in_default.ensures.changed)) in
    record {
      extend = subst (Extend job desks) (sym same) (extend_none job desks c.requires.at_play.all.sound);
      made = record {
        progress = subst (IsProgress job desks false) (sym same) (progress_none job desks c.requires.at_play.all.whole);
        idle = λ rested d d_at.
            let d_is : old ≡ d = sym (get_or_from_slice_get desks role old old c.at_mut.ensures.item) ∙ get_or_from_slice_get desks role d old (subst (λ (ds : List DeskState). slice_get ds role ≡ Some d) same d_at) in
            subst (λ (f : DeskState). IsNext job f.store c.args.n None) d_is (none_emitted job desks role c.args.n old c.requires.at_play.all.sound c.at_mut.ensures.item c.in_default.ensures.plan);
        course = record {
          desk = c.at_mut.result.now;
          at = c.at_mut.ensures.item;
          envelope = None;
          next = c.in_default.ensures.plan;
          after = c.desk_emit.new.desk;
          emitted = c.in_default.ensures.changed;
          posted = refl;
        };
      };
    }

pub deliver-requires-clause-kept : goal.deliver-requires-clause-kept
deliver-requires-clause-kept c =
    let job : Job = c.args.job.now in
    let desks : List DeskState = c.args.desks.now in
    let role : ℕ = c.args.role in
    let old : DeskState = c.at_mut.result.now in
    let new : DeskState = c.desk_emit.new.desk in
    let e : Envelope = c.in-Some.envelope in
    let kept : IsKept job role new = subst (λ r. IsKept job r new) (c.requires.at_play.all.sound.kept.each role old c.at_mut.ensures.item).role_is c.desk_emit.ensures.kept in
    let done : Emitted job desks c.args.n e (slice_set desks role new) = emitted c.extended_stay_explained.ensures.emission job desks role c.args.n old new e c.requires.at_play.all.sound c.requires.at_play.all.whole c.requires.number.some c.requires.number.within c.at_mut.ensures.item kept c.in-Some.ensures.plan c.in-Some.ensures.changed in
    let target : DeskState = c.at_mut-2.result.now in
    let is : IsKept job e.to target = done.sound.kept.each e.to target c.at_mut-2.ensures.item in
    subst (λ r. IsKept job r target) (sym is.role_is) is

pub deliver-requires-clause-own : goal.deliver-requires-clause-own
deliver-requires-clause-own c = λ some.
    let job : Job = c.args.job.now in
    let desks : List DeskState = c.args.desks.now in
    let role : ℕ = c.args.role in
    let old : DeskState = c.at_mut.result.now in
    let new : DeskState = c.desk_emit.new.desk in
    let e : Envelope = c.in-Some.envelope in
    let kept : IsKept job role new = subst (λ r. IsKept job r new) (c.requires.at_play.all.sound.kept.each role old c.at_mut.ensures.item).role_is c.desk_emit.ensures.kept in
    let done : Emitted job desks c.args.n e (slice_set desks role new) = emitted c.extended_stay_explained.ensures.emission job desks role c.args.n old new e c.requires.at_play.all.sound c.requires.at_play.all.whole c.requires.number.some c.requires.number.within c.at_mut.ensures.item kept c.in-Some.ensures.plan c.in-Some.ensures.changed in
    let target : DeskState = c.at_mut-2.result.now in
    let is : IsKept job e.to target = done.sound.kept.each e.to target c.at_mut-2.ensures.item in
    subst (λ r. IsFor job r e) (sym is.role_is) (c.in-Some.ensures.posted some)

pub returns-in_err-deliver : goal.returns-in_err-deliver
returns-in_err-deliver c =
    let job : Job = c.args.job.now in
    let desks : List DeskState = c.args.desks.now in
    let role : ℕ = c.args.role in
    let old : DeskState = c.at_mut.result.now in
    let new : DeskState = c.desk_emit.new.desk in
    let e : Envelope = c.in-Some.envelope in
    let kept : IsKept job role new = subst (λ r. IsKept job r new) (c.requires.at_play.all.sound.kept.each role old c.at_mut.ensures.item).role_is c.desk_emit.ensures.kept in
    let done : Emitted job desks c.args.n e (slice_set desks role new) = emitted c.extended_stay_explained.ensures.emission job desks role c.args.n old new e c.requires.at_play.all.sound c.requires.at_play.all.whole c.requires.number.some c.requires.number.within c.at_mut.ensures.item kept c.in-Some.ensures.plan c.in-Some.ensures.changed in
    let target : DeskState = c.at_mut-2.result.now in
    let is : IsKept job e.to target = done.sound.kept.each e.to target c.at_mut-2.ensures.item in
    record {
      extend = put_failed job desks (slice_set desks role new) c.args.n e target c.deliver.new.desk done c.at_mut-2.ensures.item c.in_err-deliver.ensures.err;
      made = search rules;
    }

pub returns : goal.returns
returns c =
    let job : Job = c.args.job.now in
    let desks : List DeskState = c.args.desks.now in
    let role : ℕ = c.args.role in
    let old : DeskState = c.at_mut.result.now in
    let new : DeskState = c.desk_emit.new.desk in
    let e : Envelope = c.in-Some.envelope in
    let kept : IsKept job role new = subst (λ r. IsKept job r new) (c.requires.at_play.all.sound.kept.each role old c.at_mut.ensures.item).role_is c.desk_emit.ensures.kept in
    let done : Emitted job desks c.args.n e (slice_set desks role new) = emitted c.extended_stay_explained.ensures.emission job desks role c.args.n old new e c.requires.at_play.all.sound c.requires.at_play.all.whole c.requires.number.some c.requires.number.within c.at_mut.ensures.item kept c.in-Some.ensures.plan c.in-Some.ensures.changed in
    let target : DeskState = c.at_mut-2.result.now in
    let is : IsKept job e.to target = done.sound.kept.each e.to target c.at_mut-2.ensures.item in
    let kept_after : IsKept job e.to c.deliver.new.desk = subst (λ r. IsKept job r c.deliver.new.desk) is.role_is c.deliver.ensures.kept in
    let both = put_done job desks (slice_set desks role new) c.args.n e target c.deliver.new.desk done c.at_mut-2.ensures.item kept_after c.in_ok-deliver.ensures.ok.store c.in_ok-deliver.ensures.ok.envelopes in
    record {
      extend = both.0;
      made = record {
        progress = both.1;
        idle = λ rested. absurd (cc);
        course = record {
          desk = c.at_mut.result.now;
          at = c.at_mut.ensures.item;
          envelope = Some c.in-Some.envelope;
          next = c.in-Some.ensures.plan;
          after = c.desk_emit.new.desk;
          emitted = c.in-Some.ensures.changed;
          posted = record {
            receiver = c.at_mut-2.result.now;
            at = c.at_mut-2.ensures.item;
            after = c.deliver.new.desk;
            accepted = c.in_ok-deliver.ensures.ok;
            desks = refl;
          };
        };
      };
    }
