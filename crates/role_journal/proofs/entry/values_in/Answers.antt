-- One field more is read.
use Rattle.std.proofs.Common.{◌+◌, ◌-◌, ◌++◌, ◌∷◌, [], ◌∙◌, List, ap, sym, subst, length, arith, length-append, length-drop}
use Rattle.std.specs.List.{All}
use Rattle.std.proofs.lemmas.List.Elements.{All-push}
use Rattle.bspl_types.specs.declared.value.Value.{Value}
use Rattle.bspl_types.specs.Value.{IsValue}
use Rattle.role_journal.specs.inner.Reading.{values_in}
use Rattle.role_journal.proofs.BodyLemmas.{values_step}
use Rattle.role_journal.proofs.entry.values_in.Goals as goal

pub loop-preserved : goal.loop-preserved
loop-preserved c =
    let k = c.args.count - c.loop.counter in
    let n = c.args.count - (c.loop.counter + 1) in
    let rest = c.split_at.result.1.now in
    let v = c.value_in.result in
    record {
      whole = ap (λ (vs : List Value). vs ++ values_in n rest) c.push.ensures
          ∙ values_step c.loop.values k n c.loop.remaining.now c.split_at.result.0.now rest v (omega arith) c.split_at.ensures.front c.split_at.ensures.back c.value_in.ensures.value
          ∙ c.loop.invariant.whole;
      good = subst (All IsValue) (sym c.push.ensures) (All-push IsValue c.loop.values v c.loop.invariant.good c.value_in.ensures.good);
      few = omega (arith, ap length c.push.ensures, length-append c.loop.values (v ∷ []), c.loop.invariant.few);
      long = omega (arith, ap length c.split_at.ensures.back, length-drop 34 c.loop.remaining.now, c.loop.invariant.long);
    }
