-- Texts of which no prefix has one of some lines: a test on lines, kept by appending whole lines. Such are those that
-- claim nothing, of safety or of liveness, or of both and of messages.
use Rattle.std.proofs.Common.{◌≡◌, ℕ, ◌<◌, zero, suc, Bool, true, false, not, ◌&&◌, ◌||◌, List, [], ◌∷◌, ◌++◌, codes, map, take, drop, length, slice_index_or, eqb, refl, sym, ◌∙◌, ap, ap₂, subst, arith, append-nil, append_assoc}
use Rattle.std.specs.List.{list_any, join_with_byte}
use Rattle.std.proofs.lemmas.Bool.{and_from, and_parts, both_ways, eq-eqb, eqb-true, false≢true, or_from, or_left, or_parts, or_right}
use Rattle.std.proofs.lemmas.List.{take-append-drop}
use Rattle.std.proofs.lemmas.List.Folds.{list_any-append}
use Rattle.std.proofs.lemmas.List.Splits.{join_with_byte-slice_split}
use Rattle.bspl_tool.specs.Claims.{AcceptedLiveness, AcceptedSafety, Claim, LivenessLive, MessageClaim, SafetySafe, SaysDead, SaysEnacted, all_claims, claim_line, message_claim_line}
use Rattle.bspl_tool.specs.Texts.{SaysLine}
use Rattle.verdict_commands.specs.MessageLines.{dead_line, enacted_line}
use Rattle.tool_input.specs.Lines.{line, lines}
use Rattle.bspl_tool.proofs.Unbroken.{has_byte, has_lf, joined_has_none}

-- the lines that claim something of the protocol
abbrev pub claim_lines : List (List ℕ)
claim_lines = map claim_line all_claims

-- those that claim safety
abbrev pub safety_lines : List (List ℕ)
safety_lines = claim_line SafetySafe ∷ claim_line AcceptedSafety ∷ []

-- and liveness
abbrev pub liveness_lines : List (List ℕ)
liveness_lines = claim_line LivenessLive ∷ claim_line AcceptedLiveness ∷ []

-- those that claim something of the message of that name
abbrev pub message_lines : List ℕ → List (List ℕ)
message_lines name = dead_line name ∷ enacted_line name ∷ []

-- what each of them begins with
abbrev pub message_word : List ℕ
message_word = codes "message "

-- a name, as lines have it
pub record IsField (name : List ℕ) : Type 0 where
  pub no_lf : has_lf name ≡ false
  pub no_space : has_byte 32 name ≡ false
  pub no_brace : has_byte 123 name ≡ false

-- the text begins with these bytes
abbrev pub starts : List ℕ → List ℕ → Bool
starts [] text = true
starts (c ∷ said) [] = false
starts (c ∷ said) (b ∷ text) = eqb c b && starts said text

-- the text begins with one of the lines, or a longer one
abbrev pub begins : List (List ℕ) → List ℕ → Bool
begins saids text = list_any (λ said. starts said text) saids

-- after no LF there is such a line
abbrev pub is_calm : List (List ℕ) → List ℕ → Bool
is_calm saids [] = true
is_calm saids (b ∷ bytes) = not (eqb b 10 && begins saids bytes) && is_calm saids bytes

-- none of the text's lines is one of them
pub record Avoids (saids : List (List ℕ)) (text : List ℕ) : Type 0 where
  pub first : begins saids text ≡ false
  pub later : is_calm saids text ≡ true

-- the text begins with a line that claims something of the protocol, or as those that claim something of a message
abbrev pub claims : List ℕ → Bool
claims text = begins (message_word ∷ claim_lines) text

-- none of its lines claims something
pub record ClaimsNothing (text : List ℕ) : Type 0 where
  pub protocol : Avoids claim_lines text
  pub messages : (name : List ℕ) → IsField name → Avoids (message_lines name) text

-- bytes that begin a text are found
pub starts_rest : (said text : List ℕ) → starts said text ≡ true → (rest : List ℕ) × (text ≡ said ++ rest)
starts_rest [] text is = (text, refl)
starts_rest (c ∷ said) [] is = absurd (false≢true is)
starts_rest (c ∷ said) (b ∷ text) is =
    let parts = and_parts (eqb c b) (starts said text) is in
    let more = starts_rest said text parts.1 in
    let same : c ≡ b = eqb-true c b parts.0 in
    (more.0, cc (same, more.1))

-- the line begins the text, or an LF comes before it
data Stands (said text : List ℕ) : Type 0 where
  first : (rest : List ℕ) → text ≡ said ++ rest → Stands said text
  later : (before rest : List ℕ) → text ≡ before ++ 10 ∷ (said ++ rest) → Stands said text

-- so it is with each line
part_stands : (said : List ℕ) (parts : List (List ℕ)) (k : ℕ) → k < length parts → slice_index_or parts k said ≡ said → Stands said (join_with_byte 10 parts)
part_stands said [] k within is = absurd (omega arith)
part_stands said (part ∷ []) zero within is = first [] (is ∙ sym (append-nil said))
part_stands said (part ∷ []) (suc k) within is = absurd (omega arith)
part_stands said (part ∷ next ∷ parts) zero within is = first (10 ∷ join_with_byte 10 (next ∷ parts)) (ap (λ p. p ++ 10 ∷ join_with_byte 10 (next ∷ parts)) is)
part_stands said (part ∷ next ∷ parts) (suc k) within is =
    elim (part_stands said (next ∷ parts) k (omega arith) is) [
      | first rest at ↦ later part rest (ap (λ t. part ++ 10 ∷ t) at)
      | later before rest at ↦ later (part ++ 10 ∷ before) rest (ap (λ t. part ++ 10 ∷ t) at ∙ sym (append_assoc part (10 ∷ before) (10 ∷ (said ++ rest))))
    ]

-- and with a line of a prefix
line_stands : (said text : List ℕ) (n : ℕ) → SaysLine (take n text) said → Stands said text
line_stands said text n says =
    let joined = join_with_byte-slice_split 10 (take n text) in
    let whole = take-append-drop n text in
    elim (part_stands said (lines (take n text)) says.0 says.1 says.2) [
      | first rest at ↦ first (rest ++ drop n text) (sym whole ∙ ap (λ t. t ++ drop n text) (sym joined ∙ at) ∙ append_assoc said rest (drop n text))
      | later before rest at ↦ later before (rest ++ drop n text)
          (sym whole ∙ ap (λ t. t ++ drop n text) (sym joined ∙ at) ∙ append_assoc before (10 ∷ (said ++ rest)) (drop n text) ∙ ap (λ t. before ++ 10 ∷ t) (append_assoc said rest (drop n text)))
    ]

-- what is not, is false
not_true : (b : Bool) → not b ≡ true → b ≡ false
not_true true is = sym is
not_true false is = refl

-- such a line after an LF
calm_or_claim : (saids : List (List ℕ)) (said before rest : List ℕ) → begins saids (said ++ rest) ≡ true → is_calm saids (before ++ 10 ∷ (said ++ rest)) ≡ true → ⊥
calm_or_claim saids said [] rest claim calm =
    let found = begins saids (said ++ rest) in
    both_ways found (not_true found (and_parts (not found) (is_calm saids (said ++ rest)) calm).0) claim
calm_or_claim saids said (b ∷ before) rest claim calm =
    let bytes = before ++ 10 ∷ (said ++ rest) in
    calm_or_claim saids said before rest claim (and_parts (not (eqb b 10 && begins saids bytes)) (is_calm saids bytes) calm).1

-- no prefix of a text that avoids the lines has one of them
pub says_none : (saids : List (List ℕ)) (said text : List ℕ) (n : ℕ) → ((rest : List ℕ) → begins saids (said ++ rest) ≡ true) → Avoids saids text → SaysLine (take n text) said → ⊥
says_none saids said text n found avoids says =
    elim (line_stands said text n says) [
      | first rest at ↦ both_ways (begins saids text) avoids.first (ap (begins saids) at ∙ found rest)
      | later before rest at ↦ calm_or_claim saids said before rest (found rest) (ap (is_calm saids) (sym at) ∙ avoids.later)
    ]

-- the line of a claim is one that claims something
claim_is_found : (claim : Claim) (rest : List ℕ) → begins claim_lines (claim_line claim ++ rest) ≡ true
claim_is_found SafetySafe rest = refl
claim_is_found AcceptedSafety rest = refl
claim_is_found LivenessLive rest = refl
claim_is_found AcceptedLiveness rest = refl

-- no prefix of a text that claims nothing of the protocol has a line that claims something of it
pub says_no_claim : (claim : Claim) (text : List ℕ) (n : ℕ) → Avoids claim_lines text → SaysLine (take n text) (claim_line claim) → ⊥
says_no_claim claim text n none says = says_none claim_lines (claim_line claim) text n (claim_is_found claim) none says

-- so it is where a text claims nothing at all
pub says_nothing : (claim : Claim) (text : List ℕ) (n : ℕ) → ClaimsNothing text → SaysLine (take n text) (claim_line claim) → ⊥
says_nothing claim text n nothing says = says_no_claim claim text n nothing.protocol says

-- a text begins with its own bytes
pub starts_itself : (said rest : List ℕ) → starts said (said ++ rest) ≡ true
starts_itself [] rest = refl
starts_itself (c ∷ said) rest = and_from (eqb c c) (starts said (said ++ rest)) (eq-eqb c c refl) (starts_itself said rest)

-- the line of a claim on a message is one that claims something of it
message_is_found : (claim : MessageClaim) (name rest : List ℕ) → begins (message_lines name) (message_claim_line claim name ++ rest) ≡ true
message_is_found SaysDead name rest = or_left (starts (dead_line name) (dead_line name ++ rest)) _ (starts_itself (dead_line name) rest)
message_is_found SaysEnacted name rest = or_right (starts (dead_line name) (enacted_line name ++ rest)) _ (or_left (starts (enacted_line name) (enacted_line name ++ rest)) false (starts_itself (enacted_line name) rest))

-- no prefix of a text without such lines has one
pub says_no_message : (claim : MessageClaim) (name text : List ℕ) (n : ℕ) → Avoids (message_lines name) text → SaysLine (take n text) (message_claim_line claim name) → ⊥
says_no_message claim name text n none says = says_none (message_lines name) (message_claim_line claim name) text n (message_is_found claim name) none says

-- bytes without an LF, before calm ones
pub calm_before : (saids : List (List ℕ)) (body rest : List ℕ) → has_lf body ≡ false → is_calm saids rest ≡ true → is_calm saids (body ++ rest) ≡ true
calm_before saids [] rest whole calm = calm
calm_before saids (b ∷ body) rest whole calm =
    let parts = or_parts (eqb b 10) (has_lf body) whole in
    rw (parts.0, calm_before saids body rest parts.1 calm) refl

-- the last LF
last_is_calm : (saids : List (List ℕ)) → begins saids [] ≡ false → is_calm saids (10 ∷ []) ≡ true
last_is_calm saids some = rw some refl

-- one line that is none of some lines
pub line_avoids : (saids : List (List ℕ)) (body : List ℕ) → begins saids [] ≡ false → has_lf body ≡ false → begins saids (line body) ≡ false → Avoids saids (line body)
line_avoids saids body some whole none = record { first = none; later = calm_before saids body (10 ∷ []) whole (last_is_calm saids some) }

-- false if a weaker test is false
still_false : (a b c : Bool) → (b ≡ false → c ≡ false) → (a && b) ≡ false → (a && c) ≡ false
still_false true b c less none = less none
still_false false b c less none = refl

-- a text that does not begin with some bytes does not begin with more
pub starts_more : (said more text : List ℕ) → starts said text ≡ false → starts (said ++ more) text ≡ false
starts_more [] more text none = absurd (false≢true (sym none))
starts_more (c ∷ said) more [] none = refl
starts_more (c ∷ said) more (b ∷ text) none = still_false (eqb c b) (starts said text) (starts (said ++ more) text) (starts_more said more text) none

-- so it begins with none of the lines on a message
no_message_begins : (name text : List ℕ) → starts message_word text ≡ false → begins (message_lines name) text ≡ false
no_message_begins name text none = or_from _ _ (starts_more message_word (name ++ codes " dead") text none) (or_from _ false (starts_more message_word (name ++ codes " enacted") text none) refl)

-- one line that claims nothing
pub line_claims_nothing : (body : List ℕ) → has_lf body ≡ false → claims (line body) ≡ false → ClaimsNothing (line body)
line_claims_nothing body whole none =
    let parts = or_parts (starts message_word (line body)) (begins claim_lines (line body)) none in record {
      protocol = line_avoids claim_lines body refl whole parts.1;
      messages = λ name field. line_avoids (message_lines name) body refl whole (no_message_begins name (line body) parts.0);
    }

-- whether a text begins with a line is settled at its first LF
starts_cut : (said before rest : List ℕ) → has_lf said ≡ false → starts said (before ++ 10 ∷ rest) ≡ starts said (before ++ 10 ∷ [])
starts_cut [] before rest whole = refl
starts_cut (c ∷ said) [] rest whole = rw (or_parts (eqb c 10) (has_lf said) whole).0 refl
starts_cut (c ∷ said) (b ∷ before) rest whole = ap (λ t. eqb c b && t) (starts_cut said before rest (or_parts (eqb c 10) (has_lf said) whole).1)

-- so it is with each of some lines
any_cut : (saids : List (List ℕ)) (before rest : List ℕ) → list_any has_lf saids ≡ false → list_any (λ said. starts said (before ++ 10 ∷ rest)) saids ≡ list_any (λ said. starts said (before ++ 10 ∷ [])) saids
any_cut [] before rest whole = refl
any_cut (said ∷ saids) before rest whole =
    let parts = or_parts (has_lf said) (list_any has_lf saids) whole in
    ap₂ (λ a b. a || b) (starts_cut said before rest parts.0) (any_cut saids before rest parts.1)

-- calm text after a whole line
calm_joined : (saids : List (List ℕ)) → list_any has_lf saids ≡ false → (before rest : List ℕ) → is_calm saids (before ++ 10 ∷ []) ≡ true → Avoids saids rest → is_calm saids (before ++ 10 ∷ rest) ≡ true
calm_joined saids bare [] rest calm avoids = rw (avoids.first, avoids.later) refl
calm_joined saids bare (b ∷ before) rest calm avoids =
    let parts = and_parts (not (eqb b 10 && begins saids (before ++ 10 ∷ []))) (is_calm saids (before ++ 10 ∷ [])) calm in
    rw (any_cut saids before rest bare) (and_from (not (eqb b 10 && begins saids (before ++ 10 ∷ []))) (is_calm saids (before ++ 10 ∷ rest)) parts.0 (calm_joined saids bare before rest parts.1 avoids))

-- whole lines, perhaps none
pub data AreWhole (text : List ℕ) : Type 0 where
  empty : text ≡ [] → AreWhole text
  closed : (before : List ℕ) → text ≡ before ++ 10 ∷ [] → AreWhole text

-- whole lines without the lines, before text without them
lines_joined : (saids : List (List ℕ)) → list_any has_lf saids ≡ false → (one other : List ℕ) → AreWhole one → Avoids saids one → Avoids saids other → Avoids saids (one ++ other)
lines_joined saids bare one other (empty is) avoids after = subst (λ t. Avoids saids (t ++ other)) (sym is) after
lines_joined saids bare one other (closed before is) avoids after =
    subst (Avoids saids) (sym (append_assoc before (10 ∷ []) other) ∙ ap (λ t. t ++ other) (sym is)) (record {
      first = any_cut saids before other bare ∙ ap (begins saids) (sym is) ∙ avoids.first;
      later = calm_joined saids bare before other (ap (is_calm saids) (sym is) ∙ avoids.later) after;
    })

-- whole lines after whole lines
whole_joined : (one other : List ℕ) → AreWhole one → AreWhole other → AreWhole (one ++ other)
whole_joined one other whole (closed before is) = closed (one ++ before) (ap (λ t. one ++ t) is ∙ sym (append_assoc one before (10 ∷ [])))
whole_joined one other (closed before is) (empty none) = closed before (ap (λ t. one ++ t) none ∙ append-nil one ∙ is)
whole_joined one other (empty is) (empty none) = empty (ap (λ t. one ++ t) none ∙ append-nil one ∙ is)

-- whole lines without the lines
pub record IsBlockWithout (saids : List (List ℕ)) (text : List ℕ) : Type 0 where
  pub nothing : Avoids saids text
  pub whole : AreWhole text

-- such lines after such lines
pub joined_without : (saids : List (List ℕ)) → list_any has_lf saids ≡ false → {one other : List ℕ} → IsBlockWithout saids one → IsBlockWithout saids other → IsBlockWithout saids (one ++ other)
joined_without saids bare {one} {other} of_one of_other = record {
  nothing = lines_joined saids bare one other of_one.whole of_one.nothing of_other.nothing;
  whole = whole_joined one other of_one.whole of_other.whole;
}

-- whole lines that claim nothing
pub record IsBlock (text : List ℕ) : Type 0 where
  pub nothing : ClaimsNothing text
  pub whole : AreWhole text

-- the lines on a message have no LF
pub message_lines_whole : (name : List ℕ) → IsField name → list_any has_lf (message_lines name) ≡ false
message_lines_whole name field =
    let front = joined_has_none 10 message_word name refl field.no_lf in
    or_from (has_lf (dead_line name)) _ (joined_has_none 10 (message_word ++ name) (codes " dead") front refl) (or_from (has_lf (enacted_line name)) false (joined_has_none 10 (message_word ++ name) (codes " enacted") front refl) refl)

-- they claim nothing of the protocol
pub without_claims : {text : List ℕ} → IsBlock text → IsBlockWithout claim_lines text
without_claims of = record { nothing = of.nothing.protocol; whole = of.whole }

-- nor of a message
pub without_message : {text : List ℕ} → IsBlock text → (name : List ℕ) → IsField name → IsBlockWithout (message_lines name) text
without_message of name field = record { nothing = of.nothing.messages name field; whole = of.whole }

-- such lines after such lines
pub block_joined : {one other : List ℕ} → IsBlock one → IsBlock other → IsBlock (one ++ other)
block_joined {one} {other} of_one of_other = record {
  nothing = record {
    protocol = (joined_without claim_lines refl (without_claims of_one) (without_claims of_other)).nothing;
    messages = λ name field. (joined_without (message_lines name) (message_lines_whole name field) (without_message of_one name field) (without_message of_other name field)).nothing;
  };
  whole = whole_joined one other of_one.whole of_other.whole;
}

-- no lines
pub no_lines : IsBlock []
no_lines = record {
  nothing = record { protocol = record { first = refl; later = refl }; messages = λ name field. record { first = refl; later = refl } };
  whole = empty refl;
}

-- one line that is none of some lines
pub whole_line_without : (saids : List (List ℕ)) (body : List ℕ) → begins saids [] ≡ false → has_lf body ≡ false → begins saids (line body) ≡ false → IsBlockWithout saids (line body)
whole_line_without saids body some whole none = record { nothing = line_avoids saids body some whole none; whole = closed body refl }

-- a test that is weaker is passed as well
still_not : (lf all some : Bool) → (all ≡ false → some ≡ false) → not (lf && all) ≡ true → not (lf && some) ≡ true
still_not false all some less is = refl
still_not true all some less is = rw (less (not_true all is)) refl

-- so is that of fewer lines
calm_without : (all saids : List (List ℕ)) → ((text : List ℕ) → begins all text ≡ false → begins saids text ≡ false) → (text : List ℕ) → is_calm all text ≡ true → is_calm saids text ≡ true
calm_without all saids less [] calm = refl
calm_without all saids less (b ∷ bytes) calm =
    let parts = and_parts (not (eqb b 10 && begins all bytes)) (is_calm all bytes) calm in
    and_from (not (eqb b 10 && begins saids bytes)) (is_calm saids bytes) (still_not (eqb b 10) (begins all bytes) (begins saids bytes) (less bytes) parts.0) (calm_without all saids less bytes parts.1)

-- and whole lines without them
block_without : (all saids : List (List ℕ)) → ((text : List ℕ) → begins all text ≡ false → begins saids text ≡ false) → {text : List ℕ} → IsBlockWithout all text → IsBlockWithout saids text
block_without all saids less {text} of = record {
  nothing = record { first = less text of.nothing.first; later = calm_without all saids less text of.nothing.later };
  whole = of.whole;
}

-- as without the line of one claim
pub without_claim : (claim : MessageClaim) (name : List ℕ) {text : List ℕ} → IsBlockWithout (message_lines name) text → IsBlockWithout (message_claim_line claim name ∷ []) text
without_claim SaysDead name of = block_without (message_lines name) (dead_line name ∷ []) (λ text none. or_from _ false (or_parts _ _ none).0 refl) of
without_claim SaysEnacted name of = block_without (message_lines name) (enacted_line name ∷ []) (λ text none. (or_parts _ _ none).1) of

-- the lines of a claim are those of one property, then those of the other
claimed_parts : (text : List ℕ) → begins claim_lines text ≡ false → (begins safety_lines text ≡ false) × (begins liveness_lines text ≡ false)
claimed_parts text none = or_parts (begins safety_lines text) (begins liveness_lines text) (sym (list_any-append (λ said. starts said text) safety_lines liveness_lines) ∙ none)

-- so what claims nothing claims no safety
pub no_safety : {text : List ℕ} → IsBlock text → IsBlockWithout safety_lines text
no_safety of = block_without claim_lines safety_lines (λ text none. (claimed_parts text none).0) (without_claims of)

-- and no liveness
pub no_liveness : {text : List ℕ} → IsBlock text → IsBlockWithout liveness_lines text
no_liveness of = block_without claim_lines liveness_lines (λ text none. (claimed_parts text none).1) (without_claims of)
