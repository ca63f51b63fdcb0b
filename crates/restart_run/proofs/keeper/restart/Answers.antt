-- The disk kept the entry, or it is appended again.
use Rattle.std.proofs.Common.{◌≤◌, length, ap, arith}
use Rattle.std.specs.Prelude.{Result, Ok, Err, OnErr, OnOk}
use Rattle.local_store.specs.State.{StoreState}
use Rattle.restart_run.proofs.KeeperLemmas.{kept_late, may_append_again, next_late}
use Rattle.restart_run.proofs.keeper.restart.Goals as goal

-- what holds if it is Ok, or Err
ok_weaker : {T E : Type 0} (r : Result T E) (P Q : Type 0) → (P → Q) → OnOk r P → OnOk r Q
ok_weaker (Ok x) P Q f p = f p
ok_weaker (Err e) P Q f p = tt

err_weaker : {T E : Type 0} (r : Result T E) (P Q : Type 0) → (P → Q) → OnErr r P → OnErr r Q
err_weaker (Ok x) P Q f p = tt
err_weaker (Err e) P Q f p = f p

pub keep_late-requires-clause-next : goal.keep_late-requires-clause-next
keep_late-requires-clause-next g c =
    let d = g.D.Disk in
    let job = c.args.job.now in
    let cut = c.args.keeper.now.store in
    let t = c.restart.new.self in
    let short : length t.store.entries ≤ length cut.store.entries = omega (arith, c.if-len-acknowledged.false, c.len-acknowledged.ensures.count, c.len.ensures.count, ap (λ (s : StoreState). length s.entries) c.store.ensures, ap (λ (s : StoreState). length s.entries) c.store-2.ensures) in
    may_append_again d.seen d.may_leave d.counts job c.args.role c.args.keeper.now.restarted cut c.args.entry.now c.requires.cut t c.in_default.ensures.ok c.if-keeper.false c.in_default.ensures.counts short

pub returns-clause-ok : goal.returns-clause-ok
returns-clause-ok g c =
    let d = g.D.Disk in
    let job = c.args.job.now in
    let cut = c.args.keeper.now.store in
    let t = c.restart.new.self in
    let short : length t.store.entries ≤ length cut.store.entries = omega (arith, c.if-len-acknowledged.false, c.len-acknowledged.ensures.count, c.len.ensures.count, ap (λ (s : StoreState). length s.entries) c.store.ensures, ap (λ (s : StoreState). length s.entries) c.store-2.ensures) in
    ok_weaker c.keep_late.result _ _ (kept_late d.seen d.may_leave d.counts job c.args.role c.args.keeper.now.restarted cut c.args.entry.now c.requires.cut t c.in_default.ensures.ok c.if-keeper.false c.in_default.ensures.counts c.keep_late.new.store short) c.keep_late.ensures.ok

pub returns-clause-cut : goal.returns-clause-cut
returns-clause-cut g c =
    let d = g.D.Disk in
    let job = c.args.job.now in
    let cut = c.args.keeper.now.store in
    let t = c.restart.new.self in
    let short : length t.store.entries ≤ length cut.store.entries = omega (arith, c.if-len-acknowledged.false, c.len-acknowledged.ensures.count, c.len.ensures.count, ap (λ (s : StoreState). length s.entries) c.store.ensures, ap (λ (s : StoreState). length s.entries) c.store-2.ensures) in
    err_weaker c.keep_late.result _ _ (next_late d.seen d.may_leave d.counts job c.args.role c.args.keeper.now.restarted cut c.args.entry.now c.requires.cut t c.in_default.ensures.ok c.if-keeper.false c.in_default.ensures.counts c.keep_late.new.store.disk short) c.keep_late.ensures.cut
