-- What posting one envelope leaves.
use Rattle.std.proofs.Common.{None, Some, refl, subst, sym}
use Rattle.adapter.specs.Kept.{IsFor, IsKept}
use Rattle.stamped_history.specs.Explained.{history_at}
use Rattle.world_run.specs.World.{histories_of}
use Rattle.world_run.proofs.UndeliveredLemmas.{item_there, undelivered_arrives, posted_failed, posted_none, posted_one}
use Rattle.world_run.proofs.inboxes.post.Goals as goal

pub returns-in_default-clause-posted : goal.returns-in_default-clause-posted
returns-in_default-clause-posted c = posted_none c.args.job.now c.args.desks.now c.requires.sound

pub at_mut-requires : goal.at_mut-requires
at_mut-requires c =
    let entry = item_there (history_at (histories_of c.args.desks.now) c.args.role) c.args.index c.requires.index in
    (c.in-Some.ensures entry.0 entry.1).within

pub deliver-requires-clause-kept : goal.deliver-requires-clause-kept
deliver-requires-clause-kept c =
    let is : IsKept c.args.job.now c.in-Some.envelope.to c.at_mut.result.now = c.requires.sound.kept.each c.in-Some.envelope.to c.at_mut.result.now c.at_mut.ensures.item in
    subst (λ r. IsKept c.args.job.now r c.at_mut.result.now) (sym is.role_is) is

pub deliver-requires-clause-own : goal.deliver-requires-clause-own
deliver-requires-clause-own c = λ some.
    let is : IsKept c.args.job.now c.in-Some.envelope.to c.at_mut.result.now = c.requires.sound.kept.each c.in-Some.envelope.to c.at_mut.result.now c.at_mut.ensures.item in
    let entry = item_there (history_at (histories_of c.args.desks.now) c.args.role) c.args.index c.requires.index in
    subst (λ r. IsFor c.args.job.now r c.in-Some.envelope) (sym is.role_is) (c.in-Some.ensures entry.0 entry.1).is_for

pub returns-in_err-deliver-clause-posted : goal.returns-in_err-deliver-clause-posted
returns-in_err-deliver-clause-posted c =
    posted_failed c.args.job.now c.args.desks.now c.in-Some.envelope c.at_mut.result.now c.deliver.new.desk c.requires.sound c.at_mut.ensures.item c.in_err-deliver.ensures.err

pub returns-clause-posted : goal.returns-clause-posted
returns-clause-posted c =
    let is : IsKept c.args.job.now c.in-Some.envelope.to c.at_mut.result.now = c.requires.sound.kept.each c.in-Some.envelope.to c.at_mut.result.now c.at_mut.ensures.item in
    let entry = item_there (history_at (histories_of c.args.desks.now) c.args.role) c.args.index c.requires.index in
    posted_one c.args.job.now c.args.desks.now c.in-Some.envelope c.at_mut.result.now c.deliver.new.desk c.requires.sound c.at_mut.ensures.item
    (subst (λ r. IsKept c.args.job.now r c.deliver.new.desk) is.role_is c.deliver.ensures.kept) c.in_ok-deliver.ensures.ok.store (c.in-Some.ensures entry.0 entry.1).sent c.in_ok-deliver.ensures.ok.envelopes

pub returns-clause-arrive : goal.returns-clause-arrive
returns-clause-arrive c = λ entry at.
    undelivered_arrives c.args.job.now c.args.desks.now entry c.in-Some.envelope c.at_mut.result.now c.deliver.new.desk (c.in-Some.ensures entry at) c.at_mut.ensures.item c.in_ok-deliver.ensures.ok.envelopes

pub returns-in_default-clause-arrive : goal.returns-in_default-clause-arrive
returns-in_default-clause-arrive c = λ entry at. (c.in_default.ensures entry at).arrives

pub returns-in_default-clause-step : goal.returns-in_default-clause-step
returns-in_default-clause-step c =
    let entry = item_there (history_at (histories_of c.args.desks.now) c.args.role) c.args.index c.requires.index in
    record { entry = entry.0; at = entry.1; envelope = None; undelivered = (c.in_default.ensures entry.0 entry.1).nothing; posted = refl }

pub returns-clause-step : goal.returns-clause-step
returns-clause-step c =
    let entry = item_there (history_at (histories_of c.args.desks.now) c.args.role) c.args.index c.requires.index in
    record {
      entry = entry.0;
      at = entry.1;
      envelope = Some c.in-Some.envelope;
      undelivered = (c.in-Some.ensures entry.0 entry.1).undelivered;
      posted = record { receiver = c.at_mut.result.now; at = c.at_mut.ensures.item; after = c.deliver.new.desk; accepted = c.in_ok-deliver.ensures.ok; desks = refl };
    }

pub returns-then-is_delivered-clause-posted : goal.returns-then-is_delivered-clause-posted
returns-then-is_delivered-clause-posted c = posted_none c.args.job.now c.args.desks.now c.requires.sound

pub returns-then-is_delivered-clause-arrive : goal.returns-then-is_delivered-clause-arrive
returns-then-is_delivered-clause-arrive c = λ entry at. (c.is_delivered.ensures c.if-is_delivered.true entry at).arrives

pub returns-then-is_delivered-clause-step : goal.returns-then-is_delivered-clause-step
returns-then-is_delivered-clause-step c =
    let entry = item_there (history_at (histories_of c.args.desks.now) c.args.role) c.args.index c.requires.index in
    record { entry = entry.0; at = entry.1; envelope = None; undelivered = (c.is_delivered.ensures c.if-is_delivered.true entry.0 entry.1).nothing; posted = refl }
