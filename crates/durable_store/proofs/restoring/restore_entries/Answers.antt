-- The entry of an open place is appended, or the place is the first alien one.
use Rattle.std.proofs.Common.{◌≡◌, ℕ, ◌<◌, List, length, None, Option, sym, ap, ◌∙◌, subst, arith}
use Rattle.std.specs.Prelude.{MatchOption}
use Rattle.std.proofs.lemmas.List.{length_push}
use Rattle.bspl_types.specs.Admission.{IsAdmitted}
use Rattle.stamped_history.specs.declared.entry.Entry.{Entry}
use Rattle.local_store.specs.State.{StoreState}
use Rattle.role_journal.specs.Journal.{IsOpen, places}
use Rattle.durable_store.specs.inner.Begun.{Ends, GoesOn, IsBegun}
use Rattle.durable_store.proofs.AloneLemmas.{alone_join, alone_once}
use Rattle.durable_store.proofs.BegunLemmas.{alien_here, begun_more}
use Rattle.durable_store.proofs.restoring.restore_entries.Goals as goal

pub returns-in-None-clause-refused : goal.returns-in-None-clause-refused
returns-in-None-clause-refused g c =
    let seen = g.D.Disk.seen in
    let image : List ℕ = seen c.args.disk.now in
    let s = c.loop-place.store in
    let place = c.loop-place.place in
    let before = c.loop-place.invariant in
    let read : seen c.is_open.new.disk ≡ image = c.is_open.ensures.stays.same ∙ before.alone.same in
    let among : place < places (length image) = subst (λ (n : ℕ). place < n) c.requires.count c.loop-place-test.true in
    let opened : IsOpen image place = subst (λ (i : List ℕ). IsOpen i place) before.alone.same (c.in_ok-is_open.ensures.gate.0 c.if-not-branch.false) in
    let found : MatchOption None (Ends (seen c.is_open.new.disk) place s) (GoesOn (seen c.is_open.new.disk) place s) =
    subst (λ (o : Option Entry). MatchOption o (Ends (seen c.is_open.new.disk) place s) (GoesOn (seen c.is_open.new.disk) place s)) c.in-None.is c.in_ok-entry.ensures.entry in
    let admitted : IsAdmitted s.protocol = subst IsAdmitted (sym before.same.protocol_is) c.is_consistent.ensures.admitted in (
      alien_here image place s before.begun before.here among opened c.begun_are_native.ensures admitted (subst (λ (i : List ℕ). Ends i place s) read found),
      c.in_ok-entry.ensures.still ∙ c.in_ok-is_open.ensures.still ∙ before.still,
    )

pub loop-place-preserved : goal.loop-place-preserved
loop-place-preserved g c =
    let seen = g.D.Disk.seen in
    let may = g.D.Disk.may_leave in
    let clock = g.D.Disk.clock in
    let left = g.D.Disk.left_since in
    let image : List ℕ = seen c.args.disk.now in
    let s = c.loop-place.store in
    let e = c.in-Some.entry in
    let place = c.loop-place.place in
    let before = c.loop-place.invariant in
    let read : seen c.is_open.new.disk ≡ image = c.is_open.ensures.stays.same ∙ before.alone.same in
    let among : place < places (length image) = subst (λ (n : ℕ). place < n) c.requires.count c.loop-place-test.true in
    let opened : IsOpen image place = subst (λ (i : List ℕ). IsOpen i place) before.alone.same (c.in_ok-is_open.ensures.gate.0 c.if-not-branch.false) in
    let found : GoesOn (seen c.is_open.new.disk) place s e =
    subst (λ (o : Option Entry). MatchOption o (Ends (seen c.is_open.new.disk) place s) (GoesOn (seen c.is_open.new.disk) place s)) c.in-Some.is c.in_ok-entry.ensures.entry in
    let added = c.add_entry.ensures in
    record {
      same = record {
        protocol_is = ap (λ (t : StoreState). t.protocol) added ∙ before.same.protocol_is;
        role_is = ap (λ (t : StoreState). t.role) added ∙ before.same.role_is;
        keys_are = ap (λ (t : StoreState). t.keys) added ∙ before.same.keys_are;
      };
      begun = subst (IsBegun image) (sym added) (begun_more image place s before.begun before.here among opened e (subst (λ (i : List ℕ). GoesOn i place s e) read found));
      here = omega (arith, before.here, length_push s.entries e, ap (λ (t : StoreState). length t.entries) added);
      alone = alone_join seen may clock left c.args.disk.now c.is_open.new.disk c.next_entry.new.disk
          (alone_join seen may clock left c.args.disk.now c.loop-place.disk c.is_open.new.disk before.alone (alone_once seen may clock left c.loop-place.disk c.is_open.new.disk c.is_open.ensures.stays))
          (alone_once seen may clock left c.is_open.new.disk c.next_entry.new.disk c.next_entry.ensures.stays);
      soon = omega (arith, before.soon, c.is_open.ensures.stays.time.soon, c.next_entry.ensures.stays.time.soon);
      still = c.in_ok-entry.ensures.still ∙ c.in_ok-is_open.ensures.still ∙ before.still;
    }
