-- The names of parameters are distinct by the shape of an expansion.
use Rattle.bspl_types.specs.declared.protocol.ParamInfo.{ParamInfo}
use Rattle.bspl_types.specs.Expansion.{no_param}
use Rattle.bspl_types.proofs.LookupLemmas.{one_named}
use Rattle.bspl_types.proofs.laws.params_are_named_once.Goals as goal

pub returns : goal.returns
returns c = λ x name m n one other. one_named (λ (p : ParamInfo). p.name) x.params name m n no_param x.shape.param_names.distinct one.known one.named other.known other.named
