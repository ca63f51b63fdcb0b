-- Why an expansion is not admitted.
use Rattle.std.specs.Prelude.{◌≡◌, ◌≢◌, ℕ, ◌<◌, List, [], length, take, slice_get, Some}
use Rattle.std.specs.List.{All, AllPairs, Any}
use Rattle.bspl_types.specs.declared.expanded.Expanded.{Expanded}
use Rattle.bspl_types.specs.declared.protocol.Carried.{Carried}
use Rattle.bspl_types.specs.declared.protocol.Message.{Message}
use Rattle.bspl_types.specs.declared.protocol.ParamInfo.{ParamInfo}
use Rattle.bspl_types.specs.declared.refusals.Refusal.{Refusal}
use Rattle.bspl_types.specs.declared.refusals.Refusal.TheVariants.{NoKey, NotWholeKey}
use Rattle.bspl_types.specs.declared.refusals.Refusal.TheVariants.{SelfMessage, RepeatedParam}
use Rattle.bspl_types.specs.declared.refusals.Refusal.TheVariants.{NoMemory}
use Rattle.bspl_types.specs.Admission.{IsAdmitted, IsAdmittedMessage}
use Rattle.bspl_types.specs.Adornment.{Binds}

-- the parameters are distinct
abbrev pub HasDistinctParams : List Carried → Type 0
HasDistinctParams carried = AllPairs (λ c d. c.param ≢ d.param) carried

-- the first parameter, in the message's order, that equals an earlier one
pub record IsFirstRepeatedParam (carried : List Carried) (p : ℕ) : Type 0 where
  pub index : ℕ
  pub again : Carried
  pub there : slice_get carried index ≡ Some again
  pub same : again.param ≡ p
  pub earlier : Any (λ c. c.param ≡ p) (take index carried)
  pub distinct : HasDistinctParams (take index carried)

-- the first key that the message lacks or adorns `nil`
pub record IsFirstMissing (carried : List Carried) (keys : List ℕ) (p : ℕ) : Type 0 where
  pub index : ℕ
  pub there : slice_get keys index ≡ Some p
  pub missing : ¬ Binds carried p
  pub bound : All (Binds carried) (take index keys)

-- the parameter at the index has the name
pub record IsNameOfParam (params : List ParamInfo) (p : ℕ) (name : List ℕ) : Type 0 where
  pub info : ParamInfo
  pub there : slice_get params p ≡ Some info
  pub same : info.name ≡ name

-- a message to another role has a parameter twice
pub record Repeats (params : List ParamInfo) (m : Message) (param : List ℕ) : Type 0 where
  pub two_roles : m.sender ≢ m.receiver
  pub p : ℕ
  pub repeated : IsFirstRepeatedParam m.carried p
  pub named : IsNameOfParam params p param

-- a message to another role, with distinct parameters, lacks a key
pub record Lacks (keys : List ℕ) (params : List ParamInfo) (m : Message) (param : List ℕ)
    : Type 0 where
  pub two_roles : m.sender ≢ m.receiver
  pub distinct : HasDistinctParams m.carried
  pub p : ℕ
  pub missing : IsFirstMissing m.carried keys p
  pub named : IsNameOfParam params p param

-- why the message is not admitted, unless memory ran out
abbrev pub IsMessageRefusal : List ℕ → List ParamInfo → Message → Refusal → Type 0
IsMessageRefusal keys params m (SelfMessage message) = (message ≡ m.name) × (m.sender ≡ m.receiver)
IsMessageRefusal keys params m (RepeatedParam message param) =
    (message ≡ m.name) × Repeats params m param
IsMessageRefusal keys params m (NotWholeKey message param) =
    (message ≡ m.name) × Lacks keys params m param
IsMessageRefusal keys params m NoMemory = Unit {0}
IsMessageRefusal keys params m other = ⊥

-- the refusal is that of the first message that is not admitted
pub record RefusesMessage (keys : List ℕ) (params : List ParamInfo) (messages : List Message)
    (refusal : Refusal) : Type 0 where
  pub index : ℕ
  pub message : Message
  pub there : slice_get messages index ≡ Some message
  pub before : All (IsAdmittedMessage keys) (take index messages)
  pub refused : IsMessageRefusal keys params message refusal

-- there is a key, and the refusal is that of a message
pub record RefusesBody (x : Expanded) (refusal : Refusal) : Type 0 where
  pub some_key : 0 < length x.keys
  pub message : RefusesMessage x.keys x.params x.messages refusal

-- why the expansion is not admitted, unless memory ran out
abbrev pub IsNotAdmitted : Expanded → Refusal → Type 0
IsNotAdmitted x NoKey = x.keys ≡ []
IsNotAdmitted x NoMemory = Unit {0}
IsNotAdmitted x refusal = RefusesBody x refusal

-- an expansion is refused for one reason at most, unless memory ran out
abbrev pub RefusalsAreOne : Type 0
RefusalsAreOne =
    (x : Expanded) (r s : Refusal) → r ≢ NoMemory → s ≢ NoMemory
    → IsNotAdmitted x r → IsNotAdmitted x s → r ≡ s

-- and for none if it is admitted
abbrev pub AdmittedIsNotRefused : Type 0
AdmittedIsNotRefused =
    (x : Expanded) (r : Refusal) → r ≢ NoMemory → IsAdmitted x → ¬ IsNotAdmitted x r
