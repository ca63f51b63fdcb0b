-- The index that is found is that of the parameter of the name.
use Rattle.bspl_types.specs.declared.protocol.ParamInfo.{ParamInfo}
use Rattle.bspl_types.specs.Expansion.{no_param}
use Rattle.bspl_types.proofs.LookupLemmas.{found, none_found}
use Rattle.bspl_types.proofs.expanded.Expanded.param_named.Goals as goal

pub returns-in-Some : goal.returns-in-Some
returns-in-Some c =
    let at = found (λ (p : ParamInfo). p.name) c.args.self.now.params c.args.name.now c.in-Some.index (no_param) (rw c.as_slice.ensures at c.in-Some.ensures) in
    record { known = at.0; named = at.1 }

pub returns-in-None : goal.returns-in-None
returns-in-None c = λ index is. none_found (λ (p : ParamInfo). p.name) c.args.self.now.params c.args.name.now index (no_param) (rw c.as_slice.ensures at c.in-None.ensures) is.known is.named
