-- What a crash may leave at each way out, call by call.
use Rattle.std.proofs.Common.{◌≡◌, ◌+◌, ◌*◌, ◌<◌, ◌++◌, ◌∷◌, [], inl, ℕ, List, length, sym, ap, ◌∙◌, subst, arith}
use Rattle.role_journal.specs.EntryBody.{entry_body}
use Rattle.role_journal.specs.Image.{HasBytes}
use Rattle.role_journal.specs.Journal.{HasSameTail, IsBeforeOrAfter, IsJournal, places}
use Rattle.role_journal.proofs.AppendLemmas.{body_crash, body_leaves, gate_crash, gate_done}
use Rattle.role_journal.proofs.MomentLemmas.{safe_start, safe_stays, safe_step}
use Rattle.role_journal.proofs.TailLemmas.{tail_join, tail_same, tail_torn}
use Rattle.role_journal.proofs.journal.append.Goals as goal

pub returns-in_err-write-clause-any_moment : goal.returns-in_err-write-clause-any_moment
returns-in_err-write-clause-any_moment g c = λ entries counts keeps.
    let seen = g.D.Disk.seen in let may = g.D.Disk.may_leave in let clock = g.D.Disk.clock in let since = g.D.Disk.left_since in
    let e = c.args.entry.now in let n = c.args.place in let body = c.as_slice.result.now in
    let is : body ≡ entry_body e = c.as_slice.ensures ∙ c.of-body.ensures.bytes in
    let whole : length body ≡ 561 = ap length c.as_slice.ensures ∙ c.of-body.ensures.size in
    let gate : ℕ = 562 * c.from-gate.result in
    let at : gate ≡ 562 * n = omega arith in
    let P : List ℕ → Type 0 = IsBeforeOrAfter entries e in
    let d0 = c.args.disk.now in let d1 = c.write.new.self in
    let s0 = safe_start seen may clock since P d0 (g.met.D.Disk.only_now d0) (λ i l. inl (subst (IsJournal entries) (sym (keeps.settled i l)) keeps.journal)) in
    let s1 = safe_step seen may clock since P d0 d0 d1 s0 c.write.ensures.time (body_crash entries e n gate body counts at is whole (seen d0) (may d0) (may d1) keeps.journal keeps.settled c.write.ensures.crash) in
    s1.so_far

pub returns-in_err-sync-clause-any_moment : goal.returns-in_err-sync-clause-any_moment
returns-in_err-sync-clause-any_moment g c = λ entries counts keeps.
    let seen = g.D.Disk.seen in let may = g.D.Disk.may_leave in let clock = g.D.Disk.clock in let since = g.D.Disk.left_since in
    let e = c.args.entry.now in let n = c.args.place in let body = c.as_slice.result.now in
    let is : body ≡ entry_body e = c.as_slice.ensures ∙ c.of-body.ensures.bytes in
    let whole : length body ≡ 561 = ap length c.as_slice.ensures ∙ c.of-body.ensures.size in
    let gate : ℕ = 562 * c.from-gate.result in
    let at : gate ≡ 562 * n = omega arith in
    let P : List ℕ → Type 0 = IsBeforeOrAfter entries e in
    let d0 = c.args.disk.now in let d1 = c.write.new.self in
    let s0 = safe_start seen may clock since P d0 (g.met.D.Disk.only_now d0) (λ i l. inl (subst (IsJournal entries) (sym (keeps.settled i l)) keeps.journal)) in
    let s1 = safe_step seen may clock since P d0 d0 d1 s0 c.write.ensures.time (body_crash entries e n gate body counts at is whole (seen d0) (may d0) (may d1) keeps.journal keeps.settled c.write.ensures.crash) in
    let d2 = c.sync.new.self in
    let s2 = safe_stays seen may clock since P d0 d1 d2 s1 c.sync.ensures.stays in
    s2.so_far

pub returns-in_err-write-2-clause-any_moment : goal.returns-in_err-write-2-clause-any_moment
returns-in_err-write-2-clause-any_moment g c = λ entries counts keeps.
    let seen = g.D.Disk.seen in let may = g.D.Disk.may_leave in let clock = g.D.Disk.clock in let since = g.D.Disk.left_since in
    let e = c.args.entry.now in let n = c.args.place in let body = c.as_slice.result.now in
    let is : body ≡ entry_body e = c.as_slice.ensures ∙ c.of-body.ensures.bytes in
    let whole : length body ≡ 561 = ap length c.as_slice.ensures ∙ c.of-body.ensures.size in
    let gate : ℕ = 562 * c.from-gate.result in
    let at : gate ≡ 562 * n = omega arith in
    let P : List ℕ → Type 0 = IsBeforeOrAfter entries e in
    let d0 = c.args.disk.now in let d1 = c.write.new.self in
    let s0 = safe_start seen may clock since P d0 (g.met.D.Disk.only_now d0) (λ i l. inl (subst (IsJournal entries) (sym (keeps.settled i l)) keeps.journal)) in
    let s1 = safe_step seen may clock since P d0 d0 d1 s0 c.write.ensures.time (body_crash entries e n gate body counts at is whole (seen d0) (may d0) (may d1) keeps.journal keeps.settled c.write.ensures.crash) in
    let d2 = c.sync.new.self in
    let s2 = safe_stays seen may clock since P d0 d1 d2 s1 c.sync.ensures.stays in
    let journal : IsJournal entries (seen d2) = subst (IsJournal entries) (sym c.sync.ensures.stays.same) (body_leaves entries e n gate body counts at is whole (seen d0) (seen d1) keeps.journal c.write.ensures.others) in
    let has : HasBytes (seen d2) (gate + 1) body = subst (λ i. HasBytes i (gate + 1) body) (sym c.sync.ensures.stays.same) c.in_ok-write.ensures.bytes in
    let size : length (seen d2) ≡ length (seen d0) = ap length c.sync.ensures.stays.same ∙ c.write.ensures.others.size in
    let room : n < places (length (seen d2)) = subst (λ k. n < places k) (sym size) c.requires.room in
    let d3 = c.write-2.new.self in
    let s3 = safe_step seen may clock since P d0 d2 d3 s2 c.write-2.ensures.time (gate_crash entries e n gate body counts at is whole (seen d2) (may d2) (may d3) journal has room c.in_ok-sync.ensures.durable c.write-2.ensures.crash) in
    s3.so_far

pub returns-in_err-sync-2-clause-any_moment : goal.returns-in_err-sync-2-clause-any_moment
returns-in_err-sync-2-clause-any_moment g c = λ entries counts keeps.
    let seen = g.D.Disk.seen in let may = g.D.Disk.may_leave in let clock = g.D.Disk.clock in let since = g.D.Disk.left_since in
    let e = c.args.entry.now in let n = c.args.place in let body = c.as_slice.result.now in
    let is : body ≡ entry_body e = c.as_slice.ensures ∙ c.of-body.ensures.bytes in
    let whole : length body ≡ 561 = ap length c.as_slice.ensures ∙ c.of-body.ensures.size in
    let gate : ℕ = 562 * c.from-gate.result in
    let at : gate ≡ 562 * n = omega arith in
    let P : List ℕ → Type 0 = IsBeforeOrAfter entries e in
    let d0 = c.args.disk.now in let d1 = c.write.new.self in
    let s0 = safe_start seen may clock since P d0 (g.met.D.Disk.only_now d0) (λ i l. inl (subst (IsJournal entries) (sym (keeps.settled i l)) keeps.journal)) in
    let s1 = safe_step seen may clock since P d0 d0 d1 s0 c.write.ensures.time (body_crash entries e n gate body counts at is whole (seen d0) (may d0) (may d1) keeps.journal keeps.settled c.write.ensures.crash) in
    let d2 = c.sync.new.self in
    let s2 = safe_stays seen may clock since P d0 d1 d2 s1 c.sync.ensures.stays in
    let journal : IsJournal entries (seen d2) = subst (IsJournal entries) (sym c.sync.ensures.stays.same) (body_leaves entries e n gate body counts at is whole (seen d0) (seen d1) keeps.journal c.write.ensures.others) in
    let has : HasBytes (seen d2) (gate + 1) body = subst (λ i. HasBytes i (gate + 1) body) (sym c.sync.ensures.stays.same) c.in_ok-write.ensures.bytes in
    let size : length (seen d2) ≡ length (seen d0) = ap length c.sync.ensures.stays.same ∙ c.write.ensures.others.size in
    let room : n < places (length (seen d2)) = subst (λ k. n < places k) (sym size) c.requires.room in
    let d3 = c.write-2.new.self in
    let s3 = safe_step seen may clock since P d0 d2 d3 s2 c.write-2.ensures.time (gate_crash entries e n gate body counts at is whole (seen d2) (may d2) (may d3) journal has room c.in_ok-sync.ensures.durable c.write-2.ensures.crash) in
    let d4 = c.sync-2.new.self in
    let s4 = safe_stays seen may clock since P d0 d3 d4 s3 c.sync-2.ensures.stays in
    s4.so_far

pub returns-clause-any_moment : goal.returns-clause-any_moment
returns-clause-any_moment g c = λ entries counts keeps.
    let seen = g.D.Disk.seen in let may = g.D.Disk.may_leave in let clock = g.D.Disk.clock in let since = g.D.Disk.left_since in
    let e = c.args.entry.now in let n = c.args.place in let body = c.as_slice.result.now in
    let is : body ≡ entry_body e = c.as_slice.ensures ∙ c.of-body.ensures.bytes in
    let whole : length body ≡ 561 = ap length c.as_slice.ensures ∙ c.of-body.ensures.size in
    let gate : ℕ = 562 * c.from-gate.result in
    let at : gate ≡ 562 * n = omega arith in
    let P : List ℕ → Type 0 = IsBeforeOrAfter entries e in
    let d0 = c.args.disk.now in let d1 = c.write.new.self in
    let s0 = safe_start seen may clock since P d0 (g.met.D.Disk.only_now d0) (λ i l. inl (subst (IsJournal entries) (sym (keeps.settled i l)) keeps.journal)) in
    let s1 = safe_step seen may clock since P d0 d0 d1 s0 c.write.ensures.time (body_crash entries e n gate body counts at is whole (seen d0) (may d0) (may d1) keeps.journal keeps.settled c.write.ensures.crash) in
    let d2 = c.sync.new.self in
    let s2 = safe_stays seen may clock since P d0 d1 d2 s1 c.sync.ensures.stays in
    let journal : IsJournal entries (seen d2) = subst (IsJournal entries) (sym c.sync.ensures.stays.same) (body_leaves entries e n gate body counts at is whole (seen d0) (seen d1) keeps.journal c.write.ensures.others) in
    let has : HasBytes (seen d2) (gate + 1) body = subst (λ i. HasBytes i (gate + 1) body) (sym c.sync.ensures.stays.same) c.in_ok-write.ensures.bytes in
    let size : length (seen d2) ≡ length (seen d0) = ap length c.sync.ensures.stays.same ∙ c.write.ensures.others.size in
    let room : n < places (length (seen d2)) = subst (λ k. n < places k) (sym size) c.requires.room in
    let d3 = c.write-2.new.self in
    let s3 = safe_step seen may clock since P d0 d2 d3 s2 c.write-2.ensures.time (gate_crash entries e n gate body counts at is whole (seen d2) (may d2) (may d3) journal has room c.in_ok-sync.ensures.durable c.write-2.ensures.crash) in
    let d4 = c.sync-2.new.self in
    let s4 = safe_stays seen may clock since P d0 d3 d4 s3 c.sync-2.ensures.stays in
    s4.so_far

pub returns-clause-ok : goal.returns-clause-ok
returns-clause-ok g c = λ entries counts keeps.
    let seen = g.D.Disk.seen in let may = g.D.Disk.may_leave in let clock = g.D.Disk.clock in let since = g.D.Disk.left_since in
    let e = c.args.entry.now in let n = c.args.place in let body = c.as_slice.result.now in
    let is : body ≡ entry_body e = c.as_slice.ensures ∙ c.of-body.ensures.bytes in
    let whole : length body ≡ 561 = ap length c.as_slice.ensures ∙ c.of-body.ensures.size in
    let gate : ℕ = 562 * c.from-gate.result in
    let at : gate ≡ 562 * n = omega arith in
    let d0 = c.args.disk.now in let d1 = c.write.new.self in
    let d2 = c.sync.new.self in let d3 = c.write-2.new.self in
    let journal : IsJournal entries (seen d2) = subst (IsJournal entries) (sym c.sync.ensures.stays.same) (body_leaves entries e n gate body counts at is whole (seen d0) (seen d1) keeps.journal c.write.ensures.others) in
    let has : HasBytes (seen d2) (gate + 1) body = subst (λ i. HasBytes i (gate + 1) body) (sym c.sync.ensures.stays.same) c.in_ok-write.ensures.bytes in
    let size : length (seen d2) ≡ length (seen d0) = ap length c.sync.ensures.stays.same ∙ c.write.ensures.others.size in
    let room : n < places (length (seen d2)) = subst (λ k. n < places k) (sym size) c.requires.room in
    let more : IsJournal (entries ++ e ∷ []) (seen d3) = gate_done entries e n gate body counts at is whole (seen d2) (seen d3) journal has room c.write-2.ensures.others c.in_ok-write-2.ensures.bytes in
    record { journal = subst (IsJournal (entries ++ e ∷ [])) (sym c.sync-2.ensures.stays.same) more; settled = c.in_ok-sync-2.ensures.durable }

pub returns-in_err-write-clause-tail : goal.returns-in_err-write-clause-tail
returns-in_err-write-clause-tail g c =
    let seen = g.D.Disk.seen in let n = c.args.place in let body = c.as_slice.result.now in
    let whole : length body ≡ 561 = ap length c.as_slice.ensures ∙ c.of-body.ensures.size in
    let gate : ℕ = 562 * c.from-gate.result in
    let at : gate ≡ 562 * n = omega arith in
    let d0 = c.args.disk.now in let d1 = c.write.new.self in
    let t1 : HasSameTail (seen d0) (seen d1) = tail_torn n (gate + 1) (length body) (seen d0) (seen d1) c.requires.room (omega (arith, whole, at)) c.write.ensures.others in
    t1

pub returns-in_err-sync-clause-tail : goal.returns-in_err-sync-clause-tail
returns-in_err-sync-clause-tail g c =
    let seen = g.D.Disk.seen in let n = c.args.place in let body = c.as_slice.result.now in
    let whole : length body ≡ 561 = ap length c.as_slice.ensures ∙ c.of-body.ensures.size in
    let gate : ℕ = 562 * c.from-gate.result in
    let at : gate ≡ 562 * n = omega arith in
    let d0 = c.args.disk.now in let d1 = c.write.new.self in
    let t1 : HasSameTail (seen d0) (seen d1) = tail_torn n (gate + 1) (length body) (seen d0) (seen d1) c.requires.room (omega (arith, whole, at)) c.write.ensures.others in
    let d2 = c.sync.new.self in
    let t2 : HasSameTail (seen d0) (seen d2) = tail_join (seen d0) (seen d1) (seen d2) t1 (tail_same (seen d1) (seen d2) c.sync.ensures.stays.same) in
    t2

pub returns-in_err-write-2-clause-tail : goal.returns-in_err-write-2-clause-tail
returns-in_err-write-2-clause-tail g c =
    let seen = g.D.Disk.seen in let n = c.args.place in let body = c.as_slice.result.now in
    let whole : length body ≡ 561 = ap length c.as_slice.ensures ∙ c.of-body.ensures.size in
    let gate : ℕ = 562 * c.from-gate.result in
    let at : gate ≡ 562 * n = omega arith in
    let d0 = c.args.disk.now in let d1 = c.write.new.self in
    let t1 : HasSameTail (seen d0) (seen d1) = tail_torn n (gate + 1) (length body) (seen d0) (seen d1) c.requires.room (omega (arith, whole, at)) c.write.ensures.others in
    let d2 = c.sync.new.self in
    let t2 : HasSameTail (seen d0) (seen d2) = tail_join (seen d0) (seen d1) (seen d2) t1 (tail_same (seen d1) (seen d2) c.sync.ensures.stays.same) in
    let d3 = c.write-2.new.self in
    let room : n < places (length (seen d2)) = subst (λ k. n < places k) (sym t2.size) c.requires.room in
    let t3 : HasSameTail (seen d0) (seen d3) = tail_join (seen d0) (seen d2) (seen d3) t2 (tail_torn n gate 1 (seen d2) (seen d3) room (omega (arith, at)) c.write-2.ensures.others) in
    t3

pub returns-in_err-sync-2-clause-tail : goal.returns-in_err-sync-2-clause-tail
returns-in_err-sync-2-clause-tail g c =
    let seen = g.D.Disk.seen in let n = c.args.place in let body = c.as_slice.result.now in
    let whole : length body ≡ 561 = ap length c.as_slice.ensures ∙ c.of-body.ensures.size in
    let gate : ℕ = 562 * c.from-gate.result in
    let at : gate ≡ 562 * n = omega arith in
    let d0 = c.args.disk.now in let d1 = c.write.new.self in
    let t1 : HasSameTail (seen d0) (seen d1) = tail_torn n (gate + 1) (length body) (seen d0) (seen d1) c.requires.room (omega (arith, whole, at)) c.write.ensures.others in
    let d2 = c.sync.new.self in
    let t2 : HasSameTail (seen d0) (seen d2) = tail_join (seen d0) (seen d1) (seen d2) t1 (tail_same (seen d1) (seen d2) c.sync.ensures.stays.same) in
    let d3 = c.write-2.new.self in
    let room : n < places (length (seen d2)) = subst (λ k. n < places k) (sym t2.size) c.requires.room in
    let t3 : HasSameTail (seen d0) (seen d3) = tail_join (seen d0) (seen d2) (seen d3) t2 (tail_torn n gate 1 (seen d2) (seen d3) room (omega (arith, at)) c.write-2.ensures.others) in
    let d4 = c.sync-2.new.self in
    tail_join (seen d0) (seen d3) (seen d4) t3 (tail_same (seen d3) (seen d4) c.sync-2.ensures.stays.same)

pub returns-clause-tail : goal.returns-clause-tail
returns-clause-tail g c =
    let seen = g.D.Disk.seen in let n = c.args.place in let body = c.as_slice.result.now in
    let whole : length body ≡ 561 = ap length c.as_slice.ensures ∙ c.of-body.ensures.size in
    let gate : ℕ = 562 * c.from-gate.result in
    let at : gate ≡ 562 * n = omega arith in
    let d0 = c.args.disk.now in let d1 = c.write.new.self in
    let t1 : HasSameTail (seen d0) (seen d1) = tail_torn n (gate + 1) (length body) (seen d0) (seen d1) c.requires.room (omega (arith, whole, at)) c.write.ensures.others in
    let d2 = c.sync.new.self in
    let t2 : HasSameTail (seen d0) (seen d2) = tail_join (seen d0) (seen d1) (seen d2) t1 (tail_same (seen d1) (seen d2) c.sync.ensures.stays.same) in
    let d3 = c.write-2.new.self in
    let room : n < places (length (seen d2)) = subst (λ k. n < places k) (sym t2.size) c.requires.room in
    let t3 : HasSameTail (seen d0) (seen d3) = tail_join (seen d0) (seen d2) (seen d3) t2 (tail_torn n gate 1 (seen d2) (seen d3) room (omega (arith, at)) c.write-2.ensures.others) in
    let d4 = c.sync-2.new.self in
    tail_join (seen d0) (seen d3) (seen d4) t3 (tail_same (seen d3) (seen d4) c.sync-2.ensures.stays.same)
