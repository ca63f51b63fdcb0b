-- The lines that claim something of a protocol or of a message, and what they claim.
use Rattle.std.specs.Prelude.{◌≡◌, ℕ, ◌<◌, List, [], ◌∷◌, codes, length}
use Rattle.bspl_types.specs.declared.expanded.Expanded.{Expanded}
use Rattle.bspl_types.specs.Expansion.{message_name}
use Rattle.enactability.specs.Enactable.{Enactable}
use Rattle.enactment_model.specs.Liveness.{LiveProtocol}
use Rattle.enactment_model.specs.Safety.{SafeProtocol}
use Rattle.evidence_commands.specs.CheckAnswer.{accepted_kind_line}
use Rattle.refutation_log.specs.declared.refutation.Kind.TheVariants.{Liveness, Safety}
use Rattle.verdict_commands.specs.MessageLines.{dead_line, enacted_line}

-- what a line may claim of the protocol: a verdict, or that a log is accepted
pub data Claim : Type 0 where
  SafetySafe : Claim
  AcceptedSafety : Claim
  LivenessLive : Claim
  AcceptedLiveness : Claim

-- the line of each claim
abbrev pub claim_line : Claim → List ℕ
claim_line SafetySafe = codes "safety safe"
claim_line AcceptedSafety = accepted_kind_line Safety
claim_line LivenessLive = codes "liveness live"
claim_line AcceptedLiveness = accepted_kind_line Liveness

-- what it says of the protocol: it is safe in every legal run, or what is public is bound at each
-- key at which a legal run is quiet
abbrev pub IsClaimTrue : Claim → Expanded → Type 0
IsClaimTrue SafetySafe x = SafeProtocol x
IsClaimTrue AcceptedSafety x = SafeProtocol x
IsClaimTrue LivenessLive x = LiveProtocol x
IsClaimTrue AcceptedLiveness x = LiveProtocol x

-- all claims
abbrev pub all_claims : List Claim
all_claims = SafetySafe ∷ AcceptedSafety ∷ LivenessLive ∷ AcceptedLiveness ∷ []

-- what a line may claim of the message that it names
pub data MessageClaim : Type 0 where
  SaysDead : MessageClaim
  SaysEnacted : MessageClaim

-- the line of each such claim on the message of that name
abbrev pub message_claim_line : MessageClaim → List ℕ → List ℕ
message_claim_line SaysDead name = dead_line name
message_claim_line SaysEnacted name = enacted_line name

-- what it says of the message: no legal run emits it, or some legal run does
abbrev pub IsMessageClaimTrue : MessageClaim → Expanded → ℕ → Type 0
IsMessageClaimTrue SaysDead x m = ¬ Enactable x m
IsMessageClaimTrue SaysEnacted x m = Enactable x m

-- the protocol has a message of that name, and the claim is true of it
pub record IsTrueOfMessage (claim : MessageClaim) (x : Expanded) (name : List ℕ) : Type 0 where
  pub message : ℕ
  pub known : message < length x.messages
  pub named : message_name x message ≡ name
  pub holds : IsMessageClaimTrue claim x message
