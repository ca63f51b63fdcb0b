-- What was restored is kept by the disk, and in a journal of a history no place is alien.
use Rattle.std.proofs.Common.{ℕ, ◌+◌, ◌<◌, List, length, refl, sym, ap, ◌∙◌, subst}
use Rattle.std.proofs.lemmas.Bool.{false≢true}
use Rattle.bspl_io.specs.Faults.{last_count}
use Rattle.role_journal.specs.Counts.{Counts}
use Rattle.role_journal.specs.Journal.{IsJournal, places}
use Rattle.durable_store.specs.declared.refusals.StartRefusal.{StartRefusal}
use Rattle.durable_store.specs.Alien.{IsAlien}
use Rattle.durable_store.specs.Start.{IsStartRefusal}
use Rattle.durable_store.proofs.AloneLemmas.{kept_as_it_was}
use Rattle.durable_store.proofs.ServingLemmas.{history_of_store}
use Rattle.durable_store.proofs.durable.DurableStore.start.Goals as goal

pub invariant_of-result : goal.invariant_of-result
invariant_of-result g c =
    let d = g.D.Disk in
    let s = c.in-Ok.store in
    let restored = c.in-Ok.ensures.ok in
    let same = sym c.restore.ensures.alone.same in
    record {
      history = history_of_store c.args.a.now c.args.role c.args.keys.now s
          (record { protocol_is = restored.protocol_is; role_is = restored.role_is; keys_are = restored.keys_are }) s.entries restored.history;
      ready = λ _. record {
        keeps = record { journal = subst (IsJournal s.entries) same restored.journal; settled = c.in-Ok.ensures.settled };
        room = restored.room ∙ ap (λ (i : List ℕ). places (length i)) same;
        countable = subst (λ (n : Counts). n.faults < last_count) (sym c.in-Ok.ensures.still) c.requires.countable;
      };
      cut_short = λ spent. absurd (false≢true spent);
    }

pub returns-in-Ok-clause-ok : goal.returns-in-Ok-clause-ok
returns-in-Ok-clause-ok g c =
    let d = g.D.Disk in
    let s = c.in-Ok.store in
    let restored = c.in-Ok.ensures.ok in
    let same = sym c.restore.ensures.alone.same in
    record {
      protocol_is = restored.protocol_is;
      role_is = restored.role_is;
      keys_are = restored.keys_are;
      history = restored.history;
      unspent = refl;
      ready = record {
        keeps = record { journal = subst (IsJournal s.entries) same restored.journal; settled = c.in-Ok.ensures.settled };
        room = restored.room ∙ ap (λ (i : List ℕ). places (length i)) same;
        countable = subst (λ (n : Counts). n.faults < last_count) (sym c.in-Ok.ensures.still) c.requires.countable;
      };
      native = λ place. subst (λ (i : List ℕ). ¬ IsAlien c.args.a.now c.args.role c.args.keys.now i place) same (restored.native place);
    }

pub returns-in-Ok-clause-answer : goal.returns-in-Ok-clause-answer
returns-in-Ok-clause-answer g c =
    let d = g.D.Disk in
    let s = c.in-Ok.store in
    let restored = c.in-Ok.ensures.ok in
    let same = sym c.restore.ensures.alone.same in (
      record {
        protocol_is = restored.protocol_is;
        role_is = restored.role_is;
        keys_are = restored.keys_are;
        history = restored.history;
        unspent = refl;
        ready = record {
          keeps = record { journal = subst (IsJournal s.entries) same restored.journal; settled = c.in-Ok.ensures.settled };
          room = restored.room ∙ ap (λ (i : List ℕ). places (length i)) same;
          countable = subst (λ (n : Counts). n.faults < last_count) (sym c.in-Ok.ensures.still) c.requires.countable;
        };
        native = λ place. subst (λ (i : List ℕ). ¬ IsAlien c.args.a.now c.args.role c.args.keys.now i place) same (restored.native place);
      },
      c.restore.ensures.alone.same,
    )

pub returns-in-Ok-clause-kept : goal.returns-in-Ok-clause-kept
returns-in-Ok-clause-kept g c =
    let d = g.D.Disk in
    kept_as_it_was d.seen d.may_leave d.clock d.left_since (1 + places (length (d.seen c.args.disk)) + length c.in-Ok.store.entries) c.args.disk c.restore.new.disk (g.met.D.Disk.only_now c.args.disk) c.in-Ok.ensures.soon c.restore.ensures.alone

pub returns-in-Err-clause-kept : goal.returns-in-Err-clause-kept
returns-in-Err-clause-kept g c =
    let d = g.D.Disk in
    let count : ℕ = places (length (d.seen c.args.disk)) in
    kept_as_it_was d.seen d.may_leave d.clock d.left_since (1 + count + count) c.args.disk c.restore.new.disk (g.met.D.Disk.only_now c.args.disk) c.in-Err.ensures.soon c.restore.ensures.alone

pub returns-in-Err-clause-answer : goal.returns-in-Err-clause-answer
returns-in-Err-clause-answer g c = (g.D.Disk.counts c.args.disk, c.in-Err.ensures.refused)

pub returns-in-Err-clause-stands : goal.returns-in-Err-clause-stands
returns-in-Err-clause-stands g c = λ entries history journal place is.
    let d = g.D.Disk in
    let image : List ℕ = d.seen c.args.disk in
    let refused = subst (λ (r : StartRefusal). IsStartRefusal c.args.a.now c.args.role c.args.keys.now image (d.counts c.args.disk) (d.counts c.restore.new.disk) r) is c.in-Err.ensures.refused in
    c.histories_are_native.ensures c.args.a.now c.args.role c.args.keys.now image entries c.is_admitted.ensures history journal place refused.0.alien
