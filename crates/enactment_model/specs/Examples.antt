-- Small protocols: one is safe and live, two are not safe, and one is not live.
use Rattle.std.specs.Prelude.{ℕ, Bool, List, [], ◌∷◌, length, map, Some, false, true, codes}
use Rattle.bspl_types.specs.declared.event.Event.{Event}
use Rattle.bspl_types.specs.declared.event.Event.TheVariants.{Emit, Receive}
use Rattle.bspl_types.specs.declared.event.Instance.{Instance}
use Rattle.bspl_types.specs.declared.expanded.Expanded.{Expanded}
use Rattle.bspl_types.specs.declared.protocol.Adornment.TheVariants.{Out}
use Rattle.bspl_types.specs.declared.protocol.Message.{Message}
use Rattle.bspl_types.specs.declared.protocol.ParamInfo.{ParamInfo}
use Rattle.bspl_types.specs.declared.value.Value.TheVariants.{Number}
use Rattle.bspl_types.specs.Admission.{IsAdmitted}
use Rattle.bspl_types.specs.Parts.{HasParts}
use Rattle.enactment_model.specs.Legal.{IsLegalRun}
use Rattle.enactment_model.specs.Liveness.{LiveProtocol, Quiet}
use Rattle.enactment_model.specs.Safety.{Agree, SafeProtocol}

-- a public parameter adorned `out`
abbrev pub out_parameter : List ℕ → Bool → ParamInfo
out_parameter name key = record { name = name; adornment = Some Out; key = key }

-- a message from one role to another that produces these parameters
abbrev pub producer : List ℕ → ℕ → ℕ → List ℕ → Message
producer name sender receiver params =
    record {
      name = name;
      sender = sender;
      receiver = receiver;
      carried = map (λ p. record { param = p; adornment = Out }) params;
    }

-- a protocol of the roles A and B with these public parameters and messages
abbrev pub IsOfTwoRoles : Expanded → List ℕ → List ParamInfo → List Message → Type 0
IsOfTwoRoles x name params messages =
    HasParts x name (codes "A" ∷ codes "B" ∷ []) params (length params) messages

-- Ping { roles A, B parameters out ID key A -> B: ping[out ID] }
abbrev pub IsPing : Expanded → Type 0
IsPing x =
    IsOfTwoRoles x (codes "Ping") (out_parameter (codes "ID") true ∷ [])
    (producer (codes "ping") 0 1 (0 ∷ []) ∷ [])

-- Twin { roles A, B parameters out ID key A -> B: m[out ID] B -> A: n[out ID] }
abbrev pub IsTwin : Expanded → Type 0
IsTwin x =
    IsOfTwoRoles x (codes "Twin") (out_parameter (codes "ID") true ∷ [])
    (producer (codes "m") 0 1 (0 ∷ []) ∷ producer (codes "n") 1 0 (0 ∷ []) ∷ [])

-- Rivals { roles A, B parameters out ID key, out x
--   A -> B: m[out ID, out x] B -> A: n[out ID, out x] }
abbrev pub IsRivals : Expanded → Type 0
IsRivals x =
    IsOfTwoRoles x (codes "Rivals")
    (out_parameter (codes "ID") true ∷ out_parameter (codes "x") false ∷ [])
    (producer (codes "m") 0 1 (0 ∷ 1 ∷ []) ∷ producer (codes "n") 1 0 (0 ∷ 1 ∷ []) ∷ [])

-- Nothing { roles A, B parameters out ID key }
abbrev pub IsNothing : Expanded → Type 0
IsNothing x = IsOfTwoRoles x (codes "Nothing") (out_parameter (codes "ID") true ∷ []) []

-- Ping is admitted, safe and live
abbrev pub PingIsSafeAndLive : Type 0
PingIsSafeAndLive = (x : Expanded) × IsPing x × IsAdmitted x × SafeProtocol x × LiveProtocol x

-- ping under the key 1, with the value 1 of ID
abbrev pub ping_instance : Instance
ping_instance = record { message = 0; key = Number 1 ∷ []; values = Number 1 ∷ [] }

-- once its message is emitted and received, a run of Ping is quiet at that key, and not before
pub record PingComesToRest : Type 0 where
  pub x : Expanded
  pub is_ping : IsPing x
  pub legal : IsLegalRun x (Emit ping_instance ∷ Receive ping_instance ∷ [])
  pub quiet : Quiet x (Emit ping_instance ∷ Receive ping_instance ∷ []) ping_instance.key
  pub not_before : ¬ Quiet x (Emit ping_instance ∷ []) ping_instance.key
  pub not_at_first : ¬ Quiet x [] ping_instance.key

-- Twin is admitted, and not safe
abbrev pub TwinIsNotSafe : Type 0
TwinIsNotSafe = (x : Expanded) × IsTwin x × IsAdmitted x × ¬ SafeProtocol x

-- Rivals is admitted, and in some legal run of it the two roles do not agree
pub record RivalsDisagree : Type 0 where
  pub x : Expanded
  pub is_rivals : IsRivals x
  pub admitted : IsAdmitted x
  pub run : List Event
  pub legal : IsLegalRun x run
  pub disagree : ¬ Agree x run

-- Nothing is admitted, and not live
abbrev pub NothingIsNotLive : Type 0
NothingIsNotLive = (x : Expanded) × IsNothing x × IsAdmitted x × ¬ LiveProtocol x
