-- The first event with a rival is the second producer of the least conflict.
use Rattle.std.proofs.Common.{ℕ, refl, subst}
use Rattle.std.proofs.lemmas.Bool.{true≢false}
use Rattle.enactment_model.specs.Rivals.{HasNoRival, IsLeastRival}
use Rattle.run_index.proofs.ConflictLemmas.{least_conflict, no_conflict, rival_is_found}
use Rattle.run_index.proofs.conflicts.producers.Goals as goal

pub returns-then-second-run-clause-none : goal.returns-then-second-run-clause-none
returns-then-second-run-clause-none c = (λ _. no_conflict c.args.x.now c.args.index.now c.in_ok-second.second (rw c.events-run.ensures at c.if-second-run.true) c.in_ok-second.ensures, λ _. refl)

pub returns-in-None-clause-none : goal.returns-in-None-clause-none
returns-in-None-clause-none c =
    let none = subst (λ run. (p : ℕ) → HasNoRival c.args.x.now run c.in_ok-second.second p) c.events-run.ensures c.in-None.ensures in
    absurd (rival_is_found c.args.x.now c.args.index.now c.in_ok-second.second (rw c.events-run.ensures at c.if-second-run.false) c.in_ok-second.ensures none)

pub returns-in-Some-clause-none : goal.returns-in-Some-clause-none
returns-in-Some-clause-none c =
    let found = subst (λ run. IsLeastRival c.args.x.now run c.in_ok-second.second (c.in-Some.param, c.in-Some.first)) c.events-run.ensures c.in-Some.ensures in
    (λ wrong. absurd (true≢false wrong), λ none. absurd (none found.rival.key c.in-Some.param c.in-Some.first c.in_ok-second.second found.rival.conflict))

pub returns-in-Some-clause-least : goal.returns-in-Some-clause-least
returns-in-Some-clause-least c =
    let found = subst (λ run. IsLeastRival c.args.x.now run c.in_ok-second.second (c.in-Some.param, c.in-Some.first)) c.events-run.ensures c.in-Some.ensures in
    least_conflict c.args.x.now c.args.index.now c.in_ok-second.second c.in-Some.param c.in-Some.first c.in_ok-second.ensures found
