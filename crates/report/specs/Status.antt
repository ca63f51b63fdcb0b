-- How a legal run leaves the enactment of a key.
use Rattle.std.specs.Prelude.{List}
use Rattle.bspl_types.specs.declared.event.Event.{Event}
use Rattle.bspl_types.specs.declared.expanded.Expanded.{Expanded}
use Rattle.bspl_types.specs.declared.value.Value.{Value}
use Rattle.enactment_model.specs.FirstLoose.{IsFirstLoose}
use Rattle.enactment_model.specs.FirstUnbound.{BindsPublic, IsFirstUnbound}
use Rattle.enactment_model.specs.Liveness.{Quiet}
use Rattle.report.specs.declared.status.Status.{Status as KeyStatus}
use Rattle.report.specs.declared.status.Status.TheVariants.{Loose, Incomplete, Complete}

-- the first loose message; or the run is quiet at the key, with the first public parameter that is
-- not bound, or with what is public bound
abbrev pub HasStatus : Expanded → List Event → List Value → KeyStatus → Type 0
HasStatus x run key (Loose m) = IsFirstLoose x run key (record { message = m })
HasStatus x run key (Incomplete p) = Quiet x run key × IsFirstUnbound x run key p
HasStatus x run key Complete = Quiet x run key × BindsPublic x run key
