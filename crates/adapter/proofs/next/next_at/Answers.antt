-- The order is that of the desk's role, and the row is of the number's key.
use Rattle.std.proofs.Common.{◌≡◌, ◌-◌, ◌<◌, [], All, Some, length, slice_get, subst, sym, arith}
use Rattle.std.specs.Prelude.{MatchOption}
use Rattle.std.proofs.lemmas.Option.{get_or_from_slice_get, slice_get-get_or, slice_get_within}
use Rattle.agent_scripts.specs.Statement.{IsSentBy}
use Rattle.adapter.specs.Next.{IsFirstToEmit, IsPassedOver}
use Rattle.adapter.specs.Rules.{key_of}
use Rattle.adapter.proofs.NextLemmas.{has_order, next_is_seen, order_sent}
use Rattle.adapter.proofs.next.next_at.Goals as goal

pub order-order-requires : goal.order-order-requires
order-order-requires c =
    let job = c.args.job.now in
    let fits = c.scripts_fit.ensures job.protocol job.script c.script-script.ensures.fits in
    rw (c.role.ensures, c.store.ensures, c.script-script.ensures.same) (has_order job c.args.desk.now fits c.requires.at_work.kept)

pub first_to_emit-requires-clause-sent : goal.first_to_emit-requires-clause-sent
first_to_emit-requires-clause-sent c =
    let job = c.args.job.now in
    let desk = c.args.desk.now in
    let fits = c.scripts_fit.ensures job.protocol job.script c.script-script.ensures.fits in
    let at : slice_get job.script.orders desk.store.role ≡ Some c.as_slice.result.now = cc in
    subst (λ s. All (IsSentBy s.protocol s.role) c.as_slice.result.now) (sym c.store-2.ensures) (order_sent job desk c.as_slice.result.now fits c.requires.at_work.kept at)

pub first_to_emit-requires-clause-held : goal.first_to_emit-requires-clause-held
first_to_emit-requires-clause-held c =
    subst (λ s. c.args.row < length s.keys) (sym c.store-2.ensures) (slice_get_within c.args.desk.now.store.keys c.args.row (key_of c.args.job.now c.args.n) c.requires.row)

pub returns : goal.returns
returns c =
    let job = c.args.job.now in
    let desk = c.args.desk.now in
    let seen = c.store-2.result.now in
    let script = c.script-script.result.now in
    let order = c.as_slice.result.now in
    let key = key_of job c.args.n in
    let at_key : slice_get job.script.keys (c.args.n - 1) ≡ Some key = slice_get-get_or job.script.keys (c.args.n - 1) [] (omega (arith, c.requires.at_work.number.some, c.requires.at_work.number.within)) in
    let at_order : slice_get job.script.orders desk.store.role ≡ Some order = cc in
    let row_key = get_or_from_slice_get seen.keys c.args.row key [] (subst (λ s. slice_get s.keys c.args.row ≡ Some key) (sym c.store-2.ensures) c.requires.row) in
    next_is_seen job desk.store c.args.n key order script seen c.first_to_emit.result c.script-script.ensures.same c.store-2.ensures at_key at_order
    (subst (λ k. MatchOption c.first_to_emit.result (All (IsPassedOver script seen c.args.n k) order) (IsFirstToEmit script seen c.args.n k order)) row_key c.first_to_emit.ensures)
