-- One parameter more.
use Rattle.std.proofs.Common.{◌≡◌, ◌+◌, ℕ, cond, ap, ◌∙◌, subst, sym, arith}
use Rattle.std.specs.Prelude.{is_some}
use Rattle.std.specs.Int.{from_bool}
use Rattle.report.specs.inner.Totals.{KnowsFirst}
use Rattle.report.proofs.TotalLemmas.{at_most_one, knows_push, test_counts}
use Rattle.report.proofs.world_known.count_known_under.Goals as goal

pub loop-param-preserved : goal.loop-param-preserved
loop-param-preserved c =
    let x = c.args.x.now in
    let key = c.args.key.now in
    let param = c.loop-param.param in
    let known = c.loop-param.known in
    let cell = c.table-cell.result in
    let one : c.from-known.result ≡ cond {A = ℕ} (is_some cell) 1 0 = c.from-known.ensures ∙ ap from_bool c.is_some.ensures ∙ test_counts (is_some cell) in
    record {
      counted = λ run is.
          subst (λ (n : ℕ). KnowsFirst x run key (param + 1) (known + n)) (sym one)
          (knows_push x run key param known cell (c.loop-param.invariant.counted run is) (c.table-cell.ensures x run is.are_desks is.local is.histories));
      few = omega (arith, one, at_most_one (is_some cell), c.loop-param.invariant.few);
    }
