-- Without its fact a fault is not there.
use Rattle.std.proofs.Common.{⊎_elim}
use Rattle.protocol_names.proofs.FaultOrderLemmas.{holds_not}
use Rattle.protocol_names.proofs.Faults.{no_key}
use Rattle.protocol_names.proofs.laws.faults_have_causes.Goals as goal

pub returns : goal.returns
returns c = record {
  known = λ declared w among. holds_not _ _ w.offset (λ absent. absent among);
  supported = λ f not_any not_opt. holds_not _ _ f.offset (λ other. ⊎_elim not_any not_opt other);
  keyed = no_key;
}
