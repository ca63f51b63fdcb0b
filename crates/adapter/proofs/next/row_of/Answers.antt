-- The key of the number is held.
use Rattle.std.proofs.Common.{◌≡◌, ◌-◌, [], Contains, Some, ap, slice_get, subst, sym, ◌∙◌}
use Rattle.std.proofs.lemmas.Option.{get_or_from_slice_get}
use Rattle.adapter.proofs.NextLemmas.{key_held}
use Rattle.adapter.proofs.next.row_of.Goals as goal

pub row_near-requires : goal.row_near-requires
row_near-requires c =
    let job = c.args.job.now in
    let at : slice_get job.script.keys (c.args.n - 1) ≡ Some c.key.result = cc in
    subst (λ s. Contains s.keys c.key.result) (sym c.store.ensures) (key_held job c.args.desk.now (c.args.n - 1) c.key.result c.requires.kept at)

pub returns : goal.returns
returns c =
    let keys = c.args.job.now.script.keys in
    let at : slice_get keys (c.args.n - 1) ≡ Some c.key.result = cc in
    subst (λ s. slice_get s.keys c.row_near.result ≡ Some c.key.result) c.store.ensures c.row_near.ensures.row
    ∙ ap Some (sym (get_or_from_slice_get keys (c.args.n - 1) c.key.result [] at))
