-- A message that is refused makes the expansion refused.
use Rattle.std.proofs.Common.{◌≡◌, ◌≢◌, ℕ, ◌+◌, ◌<◌, List, length, take, get_or, subst}
use Rattle.std.specs.List.{All}
use Rattle.std.proofs.lemmas.Option.{slice_get-get_or}
use Rattle.bspl_types.specs.declared.expanded.Expanded.{Expanded}
use Rattle.std.proofs.lemmas.List.Elements.{All-more, All-weaker}
use Rattle.bspl_types.specs.declared.protocol.Message.{Message}
use Rattle.bspl_types.specs.declared.protocol.ParamInfo.{ParamInfo}
use Rattle.bspl_types.specs.Shape.{IsMessageOf}
use Rattle.bspl_types.specs.declared.refusals.Refusal.{Refusal}
use Rattle.bspl_types.specs.declared.refusals.Refusal.TheVariants as refusals
use Rattle.bspl_types.specs.Admission.{IsAdmittedMessage}
use Rattle.bspl_types.specs.Adornment.{Binds}
use Rattle.protocol_expand.specs.NotAdmitted.{HasDistinctParams, IsMessageRefusal, RefusesMessage, RefusesBody, IsNotAdmitted}

-- why a message is refused is why the expansion is
of_kind : (x : Expanded) (refusal : Refusal) → RefusesBody x refusal → IsNotAdmitted x refusal
of_kind x (refusals.Byte offset) refuses = refuses
of_kind x (refusals.Syntax offset) refuses = refuses
of_kind x (refusals.NoProtocol name) refuses = refuses
of_kind x (refusals.Duplicate offset) refuses = refuses
of_kind x (refusals.Unknown offset) refuses = refuses
of_kind x (refusals.Arity offset) refuses = refuses
of_kind x (refusals.BadAdornment offset) refuses = refuses
of_kind x (refusals.Recursion name) refuses = refuses
of_kind x (refusals.Limit what count) refuses = refuses
of_kind x refusals.NoKey refuses = absurd refuses.message.refused
of_kind x (refusals.NotWholeKey message param) refuses = refuses
of_kind x (refusals.ForeignKey offset) refuses = refuses
of_kind x (refusals.SelfMessage message) refuses = refuses
of_kind x (refusals.RepeatedParam message param) refuses = refuses
of_kind x refusals.NoMemory refuses = tt

-- the same in two parts
pub of_body : (x : Expanded) (refusal : Refusal) → 0 < length x.keys → RefusesMessage x.keys x.params x.messages refusal → IsNotAdmitted x refusal
of_body x refusal some_key refuses = of_kind x refusal (record { some_key = some_key; message = refuses })

-- each parameter that a message carries exists
pub params_exist : (x : Expanded) → All (λ m. All (λ c. c.param < length x.params) m.carried) x.messages
params_exist x = All-weaker (IsMessageOf (length x.roles) (length x.params)) (λ m. All (λ c. c.param < length x.params) m.carried) (λ m is_message. is_message.known_params) x.messages x.shape.each_message

-- the first message that is refused, found by a loop over them
pub refused_at : (keys : List ℕ) (params : List ParamInfo) (messages : List Message) (i : ℕ) (d : Message) (refusal : Refusal) → i < length messages → All (IsAdmittedMessage keys) (take i messages) → IsMessageRefusal keys params (get_or messages i d) refusal → RefusesMessage keys params messages refusal
refused_at keys params messages i d refusal within passed refused =
    record { index = i; message = get_or messages i d; there = slice_get-get_or messages i d within; before = passed; refused = refused }

-- a message without a fault is admitted
pub faultless : (keys : List ℕ) (m : Message) → m.sender ≢ m.receiver → HasDistinctParams m.carried → All (Binds m.carried) keys → IsAdmittedMessage keys m
faultless keys m two_roles distinct whole = record { two_roles = two_roles; distinct = distinct; whole_key = whole }

-- the messages that were passed are admitted, and so is one more
pub admitted_more : (keys : List ℕ) (messages : List Message) (i : ℕ) (m : Message) → i < length messages → m ≡ get_or messages i m → All (IsAdmittedMessage keys) (take i messages) → IsAdmittedMessage keys m → All (IsAdmittedMessage keys) (take (i + 1) messages)
admitted_more keys messages i m within is_there passed admitted =
    All-more (IsAdmittedMessage keys) messages i m within passed (subst (λ n. IsAdmittedMessage keys n) is_there admitted)
