-- An expansion is refused for one reason, and for none if it is admitted.
use Rattle.std.proofs.Common.{◌≡◌, ◌≢◌, ℕ, ◌<◌, ◌⊎◌, List, [], length, slice_get, Some, refl, sym, ◌∙◌, ap, subst, arith, inl, inr}
use Rattle.std.specs.List.{All}
use Rattle.std.proofs.lemmas.Bool.{cases_order}
use Rattle.std.proofs.lemmas.List.{take_all}
use Rattle.std.proofs.lemmas.Option.{slice_get_within}
use Rattle.bspl_types.specs.declared.expanded.Expanded.{Expanded}
use Rattle.bspl_types.specs.declared.protocol.Message.{Message}
use Rattle.bspl_types.specs.declared.protocol.ParamInfo.{ParamInfo}
use Rattle.bspl_types.specs.declared.refusals.Refusal.{Refusal}
use Rattle.bspl_types.specs.declared.refusals.Refusal.TheVariants.{NoKey, NoMemory}
use Rattle.bspl_types.specs.Admission.{IsAdmitted, IsAdmittedMessage}
use Rattle.protocol_expand.specs.NotAdmitted.{IsMessageRefusal, IsNotAdmitted, RefusesBody, RefusesMessage}
use Rattle.protocol_expand.proofs.OneReason.{early, message_never, message_once}

-- the first message that is refused is one, and has one refusal
first_once : (keys : List ℕ) (params : List ParamInfo) (messages : List Message) (r s : Refusal) → r ≢ NoMemory → s ≢ NoMemory → RefusesMessage keys params messages r → RefusesMessage keys params messages s → r ≡ s
first_once keys params messages r s not_r not_s one other = elim (cases_order one.index other.index) [
  | inl same ↦
      let found : Some one.message ≡ Some other.message = sym one.there ∙ ap (slice_get messages) same ∙ other.there in
      let message : one.message ≡ other.message = cc in
      message_once keys params other.message r s not_r not_s (subst (λ (m : Message). IsMessageRefusal keys params m r) message one.refused) other.refused
  | inr (inl less) ↦ absurd (message_never keys params one.message r not_r (early (IsAdmittedMessage keys) messages one.index other.index one.message other.before one.there less) one.refused)
  | inr (inr more) ↦ absurd (message_never keys params other.message s not_s (early (IsAdmittedMessage keys) messages other.index one.index other.message one.before other.there more) other.refused)
]

-- there is no key, or a message is refused
abbrev IsReason : Expanded → Refusal → Type 0
IsReason x r = ((r ≡ NoKey) × (x.keys ≡ [])) ⊎ RefusesBody x r

-- each refusal but out of memory is for such a reason
reason : (x : Expanded) (r : Refusal) → r ≢ NoMemory → IsNotAdmitted x r → IsReason x r
reason x NoKey not_memory none = inl (refl, none)
reason x NoMemory not_memory any = absurd (not_memory refl)
reason x other not_memory body = inr body

-- no key is not some key
no_key : (keys : List ℕ) → keys ≡ [] → 0 < length keys → ⊥
no_key keys none some = omega (arith, ap length none, some)

-- there is one reason
one_reason : (x : Expanded) (r s : Refusal) → r ≢ NoMemory → s ≢ NoMemory → IsReason x r → IsReason x s → r ≡ s
one_reason x r s not_r not_s (inl one) (inl other) = one.0 ∙ sym other.0
one_reason x r s not_r not_s (inl one) (inr other) = absurd (no_key x.keys one.1 other.some_key)
one_reason x r s not_r not_s (inr one) (inl other) = absurd (no_key x.keys other.1 one.some_key)
one_reason x r s not_r not_s (inr one) (inr other) = first_once x.keys x.params x.messages r s not_r not_s one.message other.message

-- and none against an expansion that is admitted
no_reason : (x : Expanded) (r : Refusal) → r ≢ NoMemory → IsAdmitted x → IsReason x r → ⊥
no_reason x r not_memory admitted (inl none) = no_key x.keys none.1 admitted.some_key
no_reason x r not_memory admitted (inr body) =
    let first = body.message in
    message_never x.keys x.params first.message r not_memory
    (early (IsAdmittedMessage x.keys) x.messages first.index (length x.messages) first.message (subst (All (IsAdmittedMessage x.keys)) (sym (take_all (length x.messages) x.messages (omega arith))) admitted.each_message) first.there (slice_get_within x.messages first.index first.message first.there))
    first.refused

-- there is one refusal
pub refused_once : (x : Expanded) (r s : Refusal) → r ≢ NoMemory → s ≢ NoMemory → IsNotAdmitted x r → IsNotAdmitted x s → r ≡ s
refused_once x r s not_r not_s is_r is_s = one_reason x r s not_r not_s (reason x r not_r is_r) (reason x s not_s is_s)

-- and none of what is admitted
pub never_refused : (x : Expanded) (r : Refusal) → r ≢ NoMemory → IsAdmitted x → ¬ IsNotAdmitted x r
never_refused x r not_memory admitted refused = no_reason x r not_memory admitted (reason x r not_memory refused)
