-- The lines of verdicts, and what is written around them, claim only what is true.
use Rattle.std.proofs.Common.{◌≡◌, ℕ, ◌⊎◌, false, List, [], ◌∷◌, ◌++◌, take, length, codes, inl, inr, refl}
use Rattle.std.specs.List.{list_any}
use Rattle.std.specs.Fmt.{decimal}
use Rattle.std.proofs.lemmas.Bool.{or_from}
use Rattle.bspl_types.specs.declared.expanded.Expanded.{Expanded}
use Rattle.bspl_types.specs.Expansion.{param_name}
use Rattle.enactment_model.specs.Liveness.{LiveProtocol}
use Rattle.enactment_model.specs.Safety.{SafeProtocol}
use Rattle.refutation_log.specs.declared.refutation.Log.{Log}
use Rattle.report.specs.VerdictText.{liveness_line, not_live_line, safety_line, undecided_line, unsafe_line}
use Rattle.verdict.specs.declared.outcome.Liveness.{Liveness as LivenessVerdict}
use Rattle.verdict.specs.declared.outcome.Liveness.TheVariants as liveness
use Rattle.verdict.specs.declared.outcome.Safety.{Safety as SafetyVerdict}
use Rattle.verdict.specs.declared.outcome.Safety.TheVariants.{Safe, Undecided, Unsafe}
use Rattle.verdict.specs.Right.{IsRight}
use Rattle.verdict.specs.RightLiveness.{IsRightLiveness}
use Rattle.tool_input.specs.Lines.{line}
use Rattle.bspl_tool.proofs.ClaimsNothing.{Avoids, IsBlock, IsBlockWithout, IsField, begins, closed, joined_without, liveness_lines, message_lines, message_lines_whole, no_liveness, no_safety, safety_lines, whole_line_without, without_message}
use Rattle.bspl_tool.proofs.CommandLaws.{IsHonest, honest_if}
use Rattle.bspl_tool.proofs.EvidenceLines.{param_has_no_lf}
use Rattle.bspl_tool.proofs.FieldBytes.{fields_are_block}
use Rattle.bspl_tool.proofs.Unbroken.{decimal_has_no_lf, has_lf}

-- the line of an unsafe protocol
unsafe_is_block : (x : Expanded) (param first second : ℕ) → IsBlock (unsafe_line x param first second)
unsafe_is_block x param first second =
    fields_are_block (codes "safety" ∷ codes "unsafe" ∷ param_name x param ∷ decimal first ∷ decimal second ∷ [])
    (or_from (has_lf (param_name x param)) _ (param_has_no_lf x param) (or_from (has_lf (decimal first)) _ (decimal_has_no_lf first) (or_from (has_lf (decimal second)) false (decimal_has_no_lf second) refl))) refl

-- the line of a protocol that is not live
not_live_is_block : (x : Expanded) (param : ℕ) → IsBlock (not_live_line x param)
not_live_is_block x param =
    fields_are_block (codes "liveness" ∷ codes "not-live" ∷ param_name x param ∷ []) (or_from (has_lf (param_name x param)) false (param_has_no_lf x param) refl) refl

-- the line of a spent budget on safety
safety_undecided_is_block : (log : Log) → IsBlock (undecided_line (codes "safety") log)
safety_undecided_is_block log =
    fields_are_block (codes "safety" ∷ codes "undecided" ∷ decimal (length log.steps) ∷ []) (or_from (has_lf (decimal (length log.steps))) false (decimal_has_no_lf (length log.steps)) refl) refl

-- and on liveness
liveness_undecided_is_block : (log : Log) → IsBlock (undecided_line (codes "liveness") log)
liveness_undecided_is_block log =
    fields_are_block (codes "liveness" ∷ codes "undecided" ∷ decimal (length log.steps) ∷ []) (or_from (has_lf (decimal (length log.steps))) false (decimal_has_no_lf (length log.steps)) refl) refl

-- the line on safety claims nothing, or it claims safety, which is true
pub safety_line_claim : (budget : ℕ) (x : Expanded) (s : SafetyVerdict) → IsRight x budget s → SafeProtocol x ⊎ IsBlock (safety_line x s)
safety_line_claim budget x (Safe log) right = inl right.holds
safety_line_claim budget x (Unsafe run param first second) right = inr (unsafe_is_block x param first second)
safety_line_claim budget x (Undecided log) right = inr (safety_undecided_is_block log)

-- it claims no liveness
pub safety_line_alone : (x : Expanded) (s : SafetyVerdict) → IsBlockWithout liveness_lines (safety_line x s)
safety_line_alone x (Safe log) = record { nothing = record { first = refl; later = refl }; whole = closed (codes "safety safe") refl }
safety_line_alone x (Unsafe run param first second) = no_liveness (unsafe_is_block x param first second)
safety_line_alone x (Undecided log) = no_liveness (safety_undecided_is_block log)

-- a line that says nothing of messages
plain_line : (name body : List ℕ) → has_lf body ≡ false → begins (message_lines name) (line body) ≡ false → IsBlockWithout (message_lines name) (line body)
plain_line name body whole none = whole_line_without (message_lines name) body refl whole none

-- such is the line on safety
pub safety_line_of_none : (x : Expanded) (s : SafetyVerdict) (name : List ℕ) → IsField name → IsBlockWithout (message_lines name) (safety_line x s)
safety_line_of_none x (Safe log) name field = plain_line name (codes "safety safe") refl refl
safety_line_of_none x (Unsafe run param first second) name field = without_message (unsafe_is_block x param first second) name field
safety_line_of_none x (Undecided log) name field = without_message (safety_undecided_is_block log) name field

-- so it is with the line on liveness
pub liveness_line_claim : (budget : ℕ) (x : Expanded) (l : LivenessVerdict) → IsRightLiveness x budget l → LiveProtocol x ⊎ IsBlock (liveness_line x l)
liveness_line_claim budget x (liveness.Live log) right = inl right.holds
liveness_line_claim budget x (liveness.NotLive run param) right = inr (not_live_is_block x param)
liveness_line_claim budget x (liveness.Undecided log) right = inr (liveness_undecided_is_block log)

-- it claims no safety
pub liveness_line_alone : (x : Expanded) (l : LivenessVerdict) → IsBlockWithout safety_lines (liveness_line x l)
liveness_line_alone x (liveness.Live log) = record { nothing = record { first = refl; later = refl }; whole = closed (codes "liveness live") refl }
liveness_line_alone x (liveness.NotLive run param) = no_safety (not_live_is_block x param)
liveness_line_alone x (liveness.Undecided log) = no_safety (liveness_undecided_is_block log)

-- and says nothing of messages
pub liveness_line_of_none : (x : Expanded) (l : LivenessVerdict) (name : List ℕ) → IsField name → IsBlockWithout (message_lines name) (liveness_line x l)
liveness_line_of_none x (liveness.Live log) name field = plain_line name (codes "liveness live") refl refl
liveness_line_of_none x (liveness.NotLive run param) name field = without_message (not_live_is_block x param) name field
liveness_line_of_none x (liveness.Undecided log) name field = without_message (liveness_undecided_is_block log) name field

-- where the parts of a text claim a property only if it holds, so does the whole
claims_if : {P : Type 0} (saids : List (List ℕ)) → list_any has_lf saids ≡ false → (before one other more : List ℕ) → IsBlockWithout saids before → P ⊎ IsBlockWithout saids one → P ⊎ IsBlockWithout saids other → IsBlockWithout saids more → P ⊎ Avoids saids (before ++ one ++ other ++ more)
claims_if saids bare before one other more of_before (inl holds) of_other of_more = inl holds
claims_if saids bare before one other more of_before (inr of_one) (inl holds) of_more = inl holds
claims_if saids bare before one other more of_before (inr of_one) (inr of_other) of_more =
    inr (joined_without saids bare (joined_without saids bare (joined_without saids bare of_before of_one) of_other) of_more).nothing

-- a block, or what it claims no longer
block_or_none : {P Q R : Type 0} → (Q → R) → P ⊎ Q → P ⊎ R
block_or_none weaken (inl holds) = inl holds
block_or_none weaken (inr block) = inr (weaken block)

-- parts that say nothing of messages, one after the other
parts_of_none : (before safety liveness more : List ℕ) → IsBlock before → ((name : List ℕ) → IsField name → IsBlockWithout (message_lines name) safety) → ((name : List ℕ) → IsField name → IsBlockWithout (message_lines name) liveness) → IsBlock more → (name : List ℕ) → IsField name → Avoids (message_lines name) (before ++ safety ++ liveness ++ more)
parts_of_none before safety liveness more of_before of_safety of_liveness of_more name field =
    let bare = message_lines_whole name field in
    let front = joined_without (message_lines name) bare (without_message of_before name field) (of_safety name field) in
    (joined_without (message_lines name) bare (joined_without (message_lines name) bare front (of_liveness name field)) (without_message of_more name field)).nothing

-- each prefix of what is said of safety and then of liveness, among lines that claim nothing, claims only what is true
pub parts_are_honest : (x : Expanded) (before safety liveness more : List ℕ) (n : ℕ) → IsBlock before → SafeProtocol x ⊎ IsBlock safety → IsBlockWithout liveness_lines safety → LiveProtocol x ⊎ IsBlock liveness → IsBlockWithout safety_lines liveness → IsBlock more → ((name : List ℕ) → IsField name → IsBlockWithout (message_lines name) safety) → ((name : List ℕ) → IsField name → IsBlockWithout (message_lines name) liveness) → IsHonest x (take n (before ++ safety ++ liveness ++ more))
parts_are_honest x before safety liveness more n of_before safe no_live live no_safe of_more of_safety of_liveness =
    honest_if x (before ++ safety ++ liveness ++ more) n
    (claims_if safety_lines refl before safety liveness more (no_safety of_before) (block_or_none no_safety safe) (inr no_safe) (no_safety of_more))
    (claims_if liveness_lines refl before safety liveness more (no_liveness of_before) (inr no_live) (block_or_none no_liveness live) (no_liveness of_more))
    (parts_of_none before safety liveness more of_before of_safety of_liveness of_more)
