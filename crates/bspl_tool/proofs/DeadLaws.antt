-- The laws of `dead`.
use Rattle.std.proofs.Common.{◌≡◌, ◌⊎◌, ℕ, ◌+◌, ◌<◌, ◌≤◌, Bool, true, false, List, [], ◌∷◌, ◌++◌, append_assoc, take, codes, eqb, length, inl, inr, refl, sym, ◌∙◌, ap, subst, arith}
use Rattle.std.specs.Fmt.{decimal}
use Rattle.std.specs.List.{All, enumerate_from, flat_map}
use Rattle.std.specs.Str.{bytes_eq}
use Rattle.std.proofs.lemmas.Bool.{both_ways, cases_Bool, or_from, or_left}
use Rattle.std.proofs.lemmas.List.Elements.{All-head, All-tail}
use Rattle.std.proofs.lemmas.Slice.Eq.{bytes_eq-Decides}
use Rattle.bspl_types.specs.declared.expanded.Expanded.{Expanded}
use Rattle.bspl_types.specs.Expansion.{message_name}
use Rattle.enactability.specs.declared.outcome.Enact.{Enact}
use Rattle.enactability.specs.declared.outcome.Enact.TheVariants.{Dead, Enacted, Undecided}
use Rattle.enactability.specs.Answer.{IsRightEnact}
use Rattle.enactability.specs.DeadText.{dead_text, dead_title}
use Rattle.refutation_log.specs.declared.refutation.Log.{Log}
use Rattle.refutation_log.specs.declared.refutation.Version.{Version}
use Rattle.refutation_log.specs.declared.refutation.Version.TheVariants.{One, Two}
use Rattle.refutation_log.specs.Entries.{entries}
use Rattle.refutation_log.specs.LogText.{entry_line, least_version}
use Rattle.tool_input.specs.declared.status.Status.{Status}
use Rattle.tool_input.specs.Lines.{line}
use Rattle.bspl_tool.specs.Claims.{IsTrueOfMessage, MessageClaim, SaysDead, SaysEnacted, message_claim_line}
use Rattle.verdict_commands.specs.DeadAnswer.{IsDeadAnswer, dead_rules, message_evidence, enact_line, message_part, message_text, messages_text}
use Rattle.bspl_tool.specs.Texts.{SaysLine}
use Rattle.verdict_commands.specs.MessageLines.{dead_line, enacted_line}
use Rattle.bspl_tool.proofs.ClaimsNothing.{IsBlock, IsBlockWithout, IsField, block_joined, claim_lines, joined_without, no_lines, says_no_claim, says_none, starts, starts_itself, whole_line_without, without_claim, without_claims, without_message}
use Rattle.bspl_tool.proofs.CommandLaws.{CommandLaws, IsHonest}
use Rattle.bspl_tool.proofs.EvidenceLines.{blocks_joined, entry_is_block, message_has_no_lf, message_is_field, run_is_block}
use Rattle.bspl_tool.proofs.FieldBytes.{fields_are_block}
use Rattle.bspl_tool.proofs.NameBytes.{name_is_field, other_word, same_word}
use Rattle.bspl_tool.proofs.Unbroken.{decimal_has_no_lf, has_lf, joined_has_none}
use Rattle.bspl_tool.proofs.VerifyLaws.{protocol_is_block}

-- a word, the name of a message and another word
named_has_no_lf : (x : Expanded) (m : ℕ) (before after : List ℕ) → has_lf before ≡ false → has_lf after ≡ false → has_lf (before ++ message_name x m ++ after) ≡ false
named_has_no_lf x m before after none none_after =
    joined_has_none 10 (before ++ message_name x m) after (joined_has_none 10 before (message_name x m) none (message_has_no_lf x m)) none_after

-- the line of the answer on a message has no LF in it
message_line_has_no_lf : (x : Expanded) (m : ℕ) (answer : Enact) → has_lf (enact_line (message_name x m) answer) ≡ false
message_line_has_no_lf x m (Enacted run) = named_has_no_lf x m (codes "message ") (codes " enacted") refl refl
message_line_has_no_lf x m (Dead log) = named_has_no_lf x m (codes "message ") (codes " dead") refl refl
message_line_has_no_lf x m (Undecided log) =
    joined_has_none 10 (codes "message " ++ message_name x m ++ codes " undecided ") (decimal (length log.steps)) (named_has_no_lf x m (codes "message ") (codes " undecided ") refl refl) (decimal_has_no_lf (length log.steps))

-- it claims nothing of the protocol
line_without_claims : (x : Expanded) (m : ℕ) (answer : Enact) → IsBlockWithout claim_lines (line (enact_line (message_name x m) answer))
line_without_claims x m (Enacted run) = whole_line_without claim_lines (enact_line (message_name x m) (Enacted run)) refl (message_line_has_no_lf x m (Enacted run)) refl
line_without_claims x m (Dead log) = whole_line_without claim_lines (enact_line (message_name x m) (Dead log)) refl (message_line_has_no_lf x m (Dead log)) refl
line_without_claims x m (Undecided log) = whole_line_without claim_lines (enact_line (message_name x m) (Undecided log)) refl (message_line_has_no_lf x m (Undecided log)) refl

-- a line that does not begin as the line of a claim on the message of that name
is_other : (claim : MessageClaim) (name : List ℕ) (x : Expanded) (m : ℕ) (answer : Enact) → starts (message_claim_line claim name) (line (enact_line (message_name x m) answer)) ≡ false → IsBlockWithout (message_claim_line claim name ∷ []) (line (enact_line (message_name x m) answer))
is_other SaysDead name x m answer none = whole_line_without (dead_line name ∷ []) (enact_line (message_name x m) answer) refl (message_line_has_no_lf x m answer) (or_from _ false none refl)
is_other SaysEnacted name x m answer none = whole_line_without (enacted_line name ∷ []) (enact_line (message_name x m) answer) refl (message_line_has_no_lf x m answer) (or_from _ false none refl)

-- as one that has another word after the name
has_other_word : (x : Expanded) (m : ℕ) (name : List ℕ) → IsField name → (b c : ℕ) (rest end more : List ℕ) → eqb c b ≡ false → starts (codes "message " ++ name ++ 32 ∷ c ∷ more) (codes "message " ++ (message_name x m ++ 32 ∷ b ∷ rest) ++ end) ≡ false
has_other_word x m name field b c rest end more differ = other_word (message_name x m) name b c rest end more (message_is_field x m).no_space field.no_space differ

-- or another name
has_other_name : (x : Expanded) (m : ℕ) (name word : List ℕ) → IsField name → bytes_eq (message_name x m) name ≡ false → starts (codes "message " ++ name ++ 32 ∷ word) (codes "message " ++ (message_name x m ++ 32 ∷ word) ++ codes "\n") ≡ false
has_other_name x m name word field differ =
    same_word (message_name x m) name word (codes "\n") (message_is_field x m).no_space field.no_space (λ same. both_ways (bytes_eq (message_name x m) name) differ ((bytes_eq-Decides (message_name x m) name).1 same))

-- what the line claims is true, or it does not claim it
line_is_true : (claim : MessageClaim) (x : Expanded) (name : List ℕ) → IsField name → (m budget : ℕ) → m < length x.messages → (answer : Enact) → IsRightEnact x m budget answer → IsTrueOfMessage claim x name ⊎ IsBlockWithout (message_claim_line claim name ∷ []) (line (enact_line (message_name x m) answer))
line_is_true SaysDead x name field m budget known (Dead log) right =
    elim (cases_Bool (bytes_eq (message_name x m) name)) [
      | inl same ↦ inl (record { message = m; known = known; named = (bytes_eq-Decides (message_name x m) name).0 same; holds = right.dead })
      | inr differ ↦ inr (is_other SaysDead name x m (Dead log) (has_other_name x m name (codes "dead") field differ))
    ]
line_is_true SaysDead x name field m budget known (Enacted run) right =
    inr (is_other SaysDead name x m (Enacted run) (has_other_word x m name field 101 100 (codes "nacted") (codes "\n") (codes "ead") refl))
line_is_true SaysDead x name field m budget known (Undecided log) right =
    let steps = decimal (length log.steps) in
    let whole = append_assoc (codes "message " ++ message_name x m ++ codes " undecided ") steps (codes "\n") in
    inr (is_other SaysDead name x m (Undecided log) (ap (starts (dead_line name)) whole ∙ has_other_word x m name field 117 100 (codes "ndecided ") (steps ++ codes "\n") (codes "ead") refl))
line_is_true SaysEnacted x name field m budget known (Enacted run) right =
    elim (cases_Bool (bytes_eq (message_name x m) name)) [
      | inl same ↦ inl (record { message = m; known = known; named = (bytes_eq-Decides (message_name x m) name).0 same; holds = right.enactable })
      | inr differ ↦ inr (is_other SaysEnacted name x m (Enacted run) (has_other_name x m name (codes "enacted") field differ))
    ]
line_is_true SaysEnacted x name field m budget known (Dead log) right =
    inr (is_other SaysEnacted name x m (Dead log) (has_other_word x m name field 100 101 (codes "ead") (codes "\n") (codes "nacted") refl))
line_is_true SaysEnacted x name field m budget known (Undecided log) right =
    let steps = decimal (length log.steps) in
    let whole = append_assoc (codes "message " ++ message_name x m ++ codes " undecided ") steps (codes "\n") in
    inr (is_other SaysEnacted name x m (Undecided log) (ap (starts (enacted_line name)) whole ∙ has_other_word x m name field 117 101 (codes "ndecided ") (steps ++ codes "\n") (codes "nacted") refl))

-- the first line of a log on a message
title_is_block : (x : Expanded) (version : Version) (m : ℕ) → IsBlock (dead_title x version m)
title_is_block x One m = fields_are_block (codes "log" ∷ codes "1" ∷ codes "dead" ∷ message_name x m ∷ []) (or_from (has_lf (message_name x m)) false (message_has_no_lf x m) refl) refl
title_is_block x Two m = fields_are_block (codes "log" ∷ codes "2" ∷ codes "dead" ∷ message_name x m ∷ []) (or_from (has_lf (message_name x m)) false (message_has_no_lf x m) refl) refl

-- its text
dead_text_is_block : (x : Expanded) (m : ℕ) (log : Log) → IsBlock (dead_text x m log)
dead_text_is_block x m log =
    block_joined (block_joined (title_is_block x (least_version log.removals) m) (blocks_joined entry_line entry_is_block (entries log))) (fields_are_block (codes "end" ∷ []) refl refl)

-- the evidence of the answer on a message
evidence_is_block : (x : Expanded) (m : ℕ) (answer : Enact) → IsBlock (message_evidence x m answer)
evidence_is_block x m (Enacted run) = run_is_block x run
evidence_is_block x m (Dead log) = dead_text_is_block x m log
evidence_is_block x m (Undecided log) = dead_text_is_block x m log

-- the evidence, or nothing
part_is_block : (x : Expanded) (brief : Bool) (m : ℕ) (answer : Enact) → IsBlock (message_part x brief m answer)
part_is_block x true m answer = no_lines
part_is_block x false m answer = evidence_is_block x m answer

-- the answers on messages, from the message of a number on
abbrev answers_from : Expanded → Bool → ℕ → List Enact → List ℕ
answers_from x brief m answers = flat_map (λ (one : ℕ × Enact). message_text x brief one.0 one.1) (enumerate_from m answers)

-- they claim nothing of the protocol
answers_without_claims : (x : Expanded) (brief : Bool) (m : ℕ) (answers : List Enact) → IsBlockWithout claim_lines (answers_from x brief m answers)
answers_without_claims x brief m [] = without_claims no_lines
answers_without_claims x brief m (answer ∷ answers) =
    joined_without claim_lines refl (joined_without claim_lines refl (line_without_claims x m answer) (without_claims (part_is_block x brief m answer))) (answers_without_claims x brief (m + 1) answers)

-- the line of a claim on a message has no LF
claim_has_no_lf : (claim : MessageClaim) (name : List ℕ) → IsField name → has_lf (message_claim_line claim name) ≡ false
claim_has_no_lf SaysDead name field = joined_has_none 10 (codes "message " ++ name) (codes " dead") (joined_has_none 10 (codes "message ") name refl field.no_lf) refl
claim_has_no_lf SaysEnacted name field = joined_has_none 10 (codes "message " ++ name) (codes " enacted") (joined_has_none 10 (codes "message ") name refl field.no_lf) refl

-- what right answers claim is true, or they do not claim it
answers_are_true : (claim : MessageClaim) (x : Expanded) (name : List ℕ) → IsField name → (brief : Bool) (budget m : ℕ) (answers : List Enact) → m + length answers ≤ length x.messages → All (λ (one : ℕ × Enact). IsRightEnact x one.0 budget one.1) (enumerate_from m answers) → IsTrueOfMessage claim x name ⊎ IsBlockWithout (message_claim_line claim name ∷ []) (answers_from x brief m answers)
answers_are_true claim x name field brief budget m [] within right = inr (without_claim claim name (without_message no_lines name field))
answers_are_true claim x name field brief budget m (answer ∷ answers) within right =
    let bare = or_from (has_lf (message_claim_line claim name)) false (claim_has_no_lf claim name field) refl in
    let evidence = without_claim claim name (without_message (part_is_block x brief m answer) name field) in
    elim (line_is_true claim x name field m budget (omega arith) answer (All-head (λ (one : ℕ × Enact). IsRightEnact x one.0 budget one.1) (m, answer) (enumerate_from (m + 1) answers) right)) [
      | inl holds ↦ inl holds
      | inr other ↦ elim (answers_are_true claim x name field brief budget (m + 1) answers (omega arith) (All-tail (λ (one : ℕ × Enact). IsRightEnact x one.0 budget one.1) (m, answer) (enumerate_from (m + 1) answers) right)) [
        | inl holds ↦ inl holds
        | inr others ↦ inr (joined_without (message_claim_line claim name ∷ []) bare (joined_without (message_claim_line claim name ∷ []) bare other evidence) others)
      ]
    ]

-- what a prefix of the text of right answers says of a message is true
said_truly : (brief : Bool) (budget : ℕ) (x : Expanded) (answers : List Enact) (n : ℕ) → length answers ≡ length x.messages → All (λ (one : ℕ × Enact). IsRightEnact x one.0 budget one.1) (enumerate_from 0 answers) → (claim : MessageClaim) (name : List ℕ) → IsField name → SaysLine (take n (messages_text x brief answers)) (message_claim_line claim name) → IsTrueOfMessage claim x name
said_truly brief budget x answers n one_each right claim name field says =
    let said = message_claim_line claim name in
    let bare = or_from (has_lf said) false (claim_has_no_lf claim name field) refl in
    elim (answers_are_true claim x name field brief budget 0 answers (omega (arith, one_each)) right) [
      | inl holds ↦ holds
      | inr none ↦
          let text = joined_without (said ∷ []) bare (without_claim claim name (without_message (protocol_is_block x) name field)) none in
          absurd (says_none (said ∷ []) said (messages_text x brief answers) n (λ rest. or_left (starts said (said ++ rest)) false (starts_itself said rest)) text.nothing says)
    ]

-- so each prefix of an answer is honest
dead_is_honest : (brief : Bool) (budget : ℕ) (x : Expanded) (out : List ℕ) (status : Status) (n : ℕ) → IsDeadAnswer brief budget x out status → IsHonest x (take n out)
dead_is_honest brief budget x out status n given =
    let text = messages_text x brief given.answers in
    let none = joined_without claim_lines refl (without_claims (protocol_is_block x)) (answers_without_claims x brief 0 given.answers) in
    subst (λ t. IsHonest x (take n t)) (sym given.text) (record {
      claimed = λ claim says. absurd (says_no_claim claim text n none.nothing says);
      messages = λ claim name named says. said_truly brief budget x given.answers n given.one_each given.right claim name (name_is_field name named) says;
    })

-- the laws of the command
pub dead_laws : {Once : Type 0} (brief : Bool) (budget : ℕ) → CommandLaws Once (dead_rules brief budget)
dead_laws brief budget = record {
  honest = λ x part out status n given. dead_is_honest brief budget x out status n given;
  names = λ x part r refused. absurd refused;
  distinct = λ once x part out status r admitted answer refused. refused;
  one_refusal = λ once x part r s admitted one other. absurd one;
  one_answer = λ once x part out out' status status' admitted determined one other. absurd determined;
}
