-- A key is reached at its first event, and at the end each is.
use Rattle.std.proofs.Common.{◌≡◌, ◌+◌, ◌∙◌, length, sym, ap, subst}
use Rattle.run_index.specs.FirstOfKey.{HasKeyBefore}
use Rattle.run_index.specs.inner.Failures.{IsFirstFailure}
use Rattle.bspl_types.specs.History.{instance_of}
use Rattle.run_index.proofs.ChainLemmas.{read_at}
use Rattle.run_index.proofs.FailureLemmas.{all_reached, key_again, key_reached, none_reached}
use Rattle.run_index.proofs.failures.first_failure.Goals as goal
use Rattle.run_index.proofs.failures.first_failure.Goals.{then-is_first+in_ok-failure, else-is_first}

pub loop-start-init : goal.loop-start-init
loop-start-init c =
    let x = c.args.x.now in
    let run = c.args.index.now in
    subst (λ n. IsFirstFailure x c.args.demand run (HasKeyBefore run 0) n) (ap length (sym c.events-run.ensures)) (none_reached x c.args.demand run)

pub loop-start-preserved : goal.loop-start-preserved
loop-start-preserved c =
    let x = c.args.x.now in
    let run = c.args.index.now in
    let start = c.loop-start.start in
    elim c.if-is_first.branch [
      | then-is_first+in_ok-failure w ↦
          let e = w.index-run-start.result in
          let at = read_at run c.events-run.result.now start e c.events-run.ensures c.loop-start-test.true w.index-run-start.is in
          let found = subst (λ key. IsFirstFailure x c.args.demand run (λ f. (instance_of f).key ≡ key) w.in_ok-failure.failure) (ap (λ i. i.key) w.instance.ensures) w.in_ok-failure.ensures in
          subst (IsFirstFailure x c.args.demand run (HasKeyBefore run (start + 1))) (sym (w.least-is ∙ w.min-least.ensures))
          (key_reached x c.args.demand run start c.loop-start.least w.in_ok-failure.failure e at c.loop-start.invariant found)
      | else-is_first w ↦
          subst (IsFirstFailure x c.args.demand run (HasKeyBefore run (start + 1))) (sym w.least-is)
          (key_again x c.args.demand run start c.loop-start.least (rw w.if-is_first.false at c.is_first.ensures) c.loop-start.invariant)
    ]

pub returns : goal.returns
returns c =
    all_reached c.args.x.now c.args.demand c.args.index.now c.loop-start.start c.loop-start.least (rw c.events-run.ensures at c.loop-start-test.false) c.loop-start.invariant
