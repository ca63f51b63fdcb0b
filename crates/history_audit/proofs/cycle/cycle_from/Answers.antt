-- The circle is turned to its lowest role.
use Rattle.std.proofs.Common.{◌++◌, ◌∙◌, List, ap, drop, subst, sym, take}
use Rattle.std.proofs.lemmas.List.{take_rest}
use Rattle.history_audit.specs.declared.audit_no.Point.{Point}
use Rattle.history_audit.specs.Cycle.{IsCycle}
use Rattle.history_audit.specs.inner.Rings.{IsLowest}
use Rattle.history_audit.proofs.RingLemmas.{cycle_from_ring}
use Rattle.history_audit.proofs.cycle.cycle_from.Goals as goal

pub returns : goal.returns
returns c =
    let x = c.args.x.now in
    let hs = c.args.histories.now in
    let path = c.in_ok-path.path in
    let shown = c.as_slice-ring.result.now in
    let lowest = c.lowest_role-lowest.result in
    let least = subst (λ (ps : List Point). IsLowest ps lowest) c.as_slice-ring.ensures c.lowest_role-lowest.ensures in
    let parts = c.in_ok-append.ensures.ok ∙ ap (λ (ps : List Point). ps ++ take lowest shown) (c.in_ok-points.ensures ∙ take_rest shown lowest) ∙ ap (λ (ps : List Point). drop lowest ps ++ take lowest ps) c.as_slice-ring.ensures in
    subst (IsCycle x hs) (sym parts) (cycle_from_ring x hs path lowest c.in_ok-path.ensures least)
