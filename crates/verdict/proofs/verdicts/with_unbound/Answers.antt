-- The run is quiet, so it leaves a first parameter unbound.
use Rattle.std.proofs.Common.{List, refl, sym, subst}
use Rattle.bspl_types.specs.declared.event.Event.{Event}
use Rattle.bspl_types.specs.declared.expanded.Expanded.{Expanded}
use Rattle.bspl_types.specs.History.{IsRun}
use Rattle.enactment_model.specs.FirstUnbound.{BindsPublic, IsFirstUnbound}
use Rattle.witness_replay.specs.Witness.{key_of_ones}
use Rattle.verdict.proofs.RunLemmas.{at_rest, found_first, not_live_right, some_unbound}
use Rattle.verdict.proofs.verdicts.with_unbound.Goals as goal

pub unbound-requires-clause-fits : goal.unbound-requires-clause-fits
unbound-requires-clause-fits c =
    subst (λ (run : List Event). IsRun c.expanded-x.result.now run) (sym c.as_slice.ensures)
    (subst (λ (y : Expanded). IsRun y c.args.run) (sym c.expanded-x.ensures.same) c.requires.refutation.legal.fits)

pub unwrap-param-requires : goal.unwrap-param-requires
unwrap-param-requires c =
    some_unbound c.unbound.result c.args.a.now c.args.run
    (λ none. at_rest BindsPublic c.expanded-x.result.now c.args.a.now c.as_slice.result.now c.args.run c.key_of_ones-key.result c.expanded-x.ensures.same c.as_slice.ensures c.key_of_ones-key.ensures (c.unbound.ensures.none.0 none))
    c.requires.refutation.refutes

pub returns : goal.returns
returns c =
    let x = c.args.a.now in
    let run = c.args.run in
    let param = c.unwrap-param.result in
    let first : IsFirstUnbound x run (key_of_ones x) param =
    at_rest (λ y events key. IsFirstUnbound y events key param) c.expanded-x.result.now x c.as_slice.result.now run c.key_of_ones-key.result c.expanded-x.ensures.same c.as_slice.ensures c.key_of_ones-key.ensures
    (found_first c.unbound.result param c.expanded-x.result.now c.as_slice.result.now c.key_of_ones-key.result c.unwrap-param.ensures c.unbound.ensures.first) in
    record { param = param; is_not_live = refl; right = not_live_right x run param c.requires first }
