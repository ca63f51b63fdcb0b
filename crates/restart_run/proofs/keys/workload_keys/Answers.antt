-- One key more.
use Rattle.std.proofs.Common.{◌≡◌, ◌+◌, ◌-◌, Some, List, [], ◌∷◌, ◌++◌, arith, ap, subst, ◌∙◌}
use Rattle.std.specs.Prelude.{slice_get}
use Rattle.agent_scripts.specs.Script.{Script}
use Rattle.bspl_types.specs.declared.value.Value.{Value}
use Rattle.restart_run.proofs.PrefixLemmas.{take_next}
use Rattle.restart_run.proofs.keys.workload_keys.Goals as goal

pub loop-index-preserved : goal.loop-index-preserved
loop-index-preserved c =
    let keys : List (List Value) = c.args.job.now.script.keys in
    let at_next : slice_get keys (c.loop-index.index + 1 - 1) ≡ Some c.key.result = subst (λ (s : Script). slice_get s.keys (c.loop-index.index + 1 - 1) ≡ Some c.key.result) c.script-script.ensures.same c.key.ensures in
    let index_is : c.loop-index.index + 1 - 1 ≡ c.loop-index.index = omega arith in
    let at : slice_get keys c.loop-index.index ≡ Some c.key.result = subst (λ k. slice_get keys k ≡ Some c.key.result) index_is at_next in
    c.in_ok-push.ensures.ok ∙ ap (λ (ks : List (List Value)). ks ++ c.key.result ∷ []) c.loop-index.invariant ∙ take_next keys c.loop-index.index c.key.result at
