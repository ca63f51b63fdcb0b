-- What the frame has to know of each command's answers and refusals.
use Rattle.std.proofs.Common.{◌≡◌, ◌⊎◌, ℕ, List, take, inl, inr, refl}
use Rattle.bspl_types.specs.declared.expanded.Expanded.{Expanded}
use Rattle.bspl_types.specs.Admission.{IsAdmitted}
use Rattle.bspl_types.specs.Name.{is_name}
use Rattle.std.specs.Prelude.{IsTrue}
use Rattle.tool_input.specs.declared.rejection.Rejection.{Rejection}
use Rattle.tool_input.specs.declared.status.Status.{Status}
use Rattle.enactment_model.specs.Liveness.{LiveProtocol}
use Rattle.enactment_model.specs.Safety.{SafeProtocol}
use Rattle.bspl_tool.specs.Claims.{AcceptedLiveness, AcceptedSafety, Claim, IsClaimTrue, IsTrueOfMessage, LivenessLive, MessageClaim, SafetySafe, claim_line, message_claim_line}
use Rattle.bspl_tool.specs.Laws.{IsOutput}
use Rattle.tool_input.specs.Rules.{CommandRules}
use Rattle.bspl_tool.specs.Texts.{SaysLine}
use Rattle.bspl_tool.proofs.ClaimsNothing.{Avoids, ClaimsNothing, IsField, liveness_lines, message_lines, safety_lines, says_no_message, says_none, says_nothing}
use Rattle.bspl_tool.proofs.NameBytes.{name_is_field}
use Rattle.bspl_tool.proofs.RejectedNames.{HasNames}

-- each line of the text that claims something is true of the protocol, or of the message that it names
pub record IsHonest (x : Expanded) (text : List ℕ) : Type 0 where
  pub claimed : (claim : Claim) → SaysLine text (claim_line claim) → IsClaimTrue claim x
  pub messages : (claim : MessageClaim) (name : List ℕ) → IsTrue (is_name name) → SaysLine text (message_claim_line claim name) → IsTrueOfMessage claim x name

-- a text that says nothing of messages
says_of_none : (x : Expanded) (text : List ℕ) (n : ℕ) → ((name : List ℕ) → IsField name → Avoids (message_lines name) text) → (claim : MessageClaim) (name : List ℕ) → IsTrue (is_name name) → SaysLine (take n text) (message_claim_line claim name) → IsTrueOfMessage claim x name
says_of_none x text n none claim name named says = absurd (says_no_message claim name text n (none name (name_is_field name named)) says)

-- a prefix of a text that claims nothing is honest
pub honest_nothing : (x : Expanded) (text : List ℕ) (n : ℕ) → ClaimsNothing text → IsHonest x (take n text)
honest_nothing x text n nothing = record {
  claimed = λ claim says. absurd (says_nothing claim text n nothing says);
  messages = says_of_none x text n nothing.messages;
}

-- what is claimed of each property is true if it has it, or if the text does not claim it
claimed_truly : (x : Expanded) (text : List ℕ) (n : ℕ) → SafeProtocol x ⊎ Avoids safety_lines text → LiveProtocol x ⊎ Avoids liveness_lines text → (claim : Claim) → SaysLine (take n text) (claim_line claim) → IsClaimTrue claim x
claimed_truly x text n (inl safe) live SafetySafe says = safe
claimed_truly x text n (inr none) live SafetySafe says = absurd (says_none safety_lines (claim_line SafetySafe) text n (λ rest. refl) none says)
claimed_truly x text n (inl safe) live AcceptedSafety says = safe
claimed_truly x text n (inr none) live AcceptedSafety says = absurd (says_none safety_lines (claim_line AcceptedSafety) text n (λ rest. refl) none says)
claimed_truly x text n safe (inl live) LivenessLive says = live
claimed_truly x text n safe (inr none) LivenessLive says = absurd (says_none liveness_lines (claim_line LivenessLive) text n (λ rest. refl) none says)
claimed_truly x text n safe (inl live) AcceptedLiveness says = live
claimed_truly x text n safe (inr none) AcceptedLiveness says = absurd (says_none liveness_lines (claim_line AcceptedLiveness) text n (λ rest. refl) none says)

-- so each prefix of such a text is honest, if it says nothing of messages
pub honest_if : (x : Expanded) (text : List ℕ) (n : ℕ) → SafeProtocol x ⊎ Avoids safety_lines text → LiveProtocol x ⊎ Avoids liveness_lines text → ((name : List ℕ) → IsField name → Avoids (message_lines name) text) → IsHonest x (take n text)
honest_if x text n safe live none = record { claimed = claimed_truly x text n safe live; messages = says_of_none x text n none }

-- what a command's answers and refusals say on a protocol and a part, and how they exclude each other where what is read
-- has one answer
pub record CommandLaws (Once : Type 0) (c : CommandRules) : Type 0 where
  -- each prefix of an answer claims only what is true
  pub honest : (x : Expanded) (part out : List ℕ) (status : Status) (n : ℕ) → c.answers x part out status → IsHonest x (take n out)
  -- the names in a refusal are names
  pub names : (x : Expanded) (part : List ℕ) (r : Rejection) → c.refuses x part r → HasNames r
  -- what is answered is not refused
  pub distinct : Once → (x : Expanded) (part out : List ℕ) (status : Status) (r : Rejection) → IsAdmitted x → c.answers x part out status → c.refuses x part r → ⊥
  -- there is one refusal at most
  pub one_refusal : Once → (x : Expanded) (part : List ℕ) (r s : Rejection) → IsAdmitted x → c.refuses x part r → c.refuses x part s → r ≡ s
  -- and one answer, if the command is determined
  pub one_answer : Once → (x : Expanded) (part out out' : List ℕ) (status status' : Status) → IsAdmitted x → c.is_determined → c.answers x part out status → c.answers x part out' status' → IsOutput out status out' status'

-- so it is where more has one answer
pub with_more : {More Once : Type 0} (c : CommandRules) → (More → Once) → CommandLaws Once c → CommandLaws More c
with_more c once laws = record {
  honest = laws.honest;
  names = laws.names;
  distinct = λ more. laws.distinct (once more);
  one_refusal = λ more. laws.one_refusal (once more);
  one_answer = λ more. laws.one_answer (once more);
}
