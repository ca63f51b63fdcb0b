-- One key more.
use Rattle.std.proofs.Common.{◌≡◌, ◌+◌, ◌-◌, Some, List, arith, length, slice_get, ap, sym, subst, ◌∙◌}
use Rattle.std.proofs.lemmas.List.Elements.{All-contains}
use Rattle.list_base.proofs.Membership.{member_at}
use Rattle.agent_scripts.specs.Fitting.{IsFittingScript}
use Rattle.agent_scripts.specs.Script.{Script}
use Rattle.bspl_types.specs.declared.value.Value.{Value}
use Rattle.local_store.specs.State.{StoreState}
use Rattle.world_run.proofs.OpenLemmas.{keys_more}
use Rattle.world_run.proofs.opened_desks.hold_keys.Goals as goal

pub add_key-requires-clause-whole : goal.add_key-requires-clause-whole
add_key-requires-clause-whole c =
    let keys : List (List Value) = c.args.job.now.script.keys in
    let at_next : slice_get keys (c.loop-index.index + 1 - 1) ≡ Some c.key.result = subst (λ (s : Script). slice_get s.keys (c.loop-index.index + 1 - 1) ≡ Some c.key.result) c.script-script.ensures.same c.key.ensures in
    let index_is : c.loop-index.index + 1 - 1 ≡ c.loop-index.index = omega arith in
    let at : slice_get keys c.loop-index.index ≡ Some c.key.result = subst (λ k. slice_get keys k ≡ Some c.key.result) index_is at_next in
    let fits = c.scripts_fit.ensures c.args.job.now.protocol c.args.job.now.script c.script-script.ensures.fits in
    All-contains (λ (k : List Value). length k ≡ length c.args.job.now.protocol.keys) keys c.key.result fits.keys (member_at keys c.loop-index.index c.key.result at)
    ∙ ap (λ (s : StoreState). length s.protocol.keys) (sym c.requires) ∙ ap (λ (s : StoreState). length s.protocol.keys) (sym c.loop-index.invariant)

pub loop-index-preserved : goal.loop-index-preserved
loop-index-preserved c =
    let keys : List (List Value) = c.args.job.now.script.keys in
    let at_next : slice_get keys (c.loop-index.index + 1 - 1) ≡ Some c.key.result = subst (λ (s : Script). slice_get s.keys (c.loop-index.index + 1 - 1) ≡ Some c.key.result) c.script-script.ensures.same c.key.ensures in
    let index_is : c.loop-index.index + 1 - 1 ≡ c.loop-index.index = omega arith in
    let at : slice_get keys c.loop-index.index ≡ Some c.key.result = subst (λ k. slice_get keys k ≡ Some c.key.result) index_is at_next in
    let fitting : IsFittingScript keys c.args.job.now.script.rules = subst (λ (s : Script). IsFittingScript s.keys s.rules) c.script-script.ensures.same c.count-index-end.ensures.fits in
    keys_more c.args.store.now c.loop-index.store c.add_key.new.self keys c.loop-index.index c.key.result fitting.distinct at c.loop-index.invariant c.in_ok-add_key.ensures.ok
