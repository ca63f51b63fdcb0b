-- A name has neither a space, an LF nor a brace.
use Rattle.std.proofs.Common.{◌≡◌, ◌≢◌, ℕ, Bool, true, false, not, ◌&&◌, List, [], ◌∷◌, ◌++◌, append_assoc, map, codes, drop, get_or, eqb, one-add, add-one, inl, inr, refl, sym, ◌∙◌, ap}
use Rattle.std.specs.Prelude.{IsTrue}
use Rattle.std.specs.Char.{is_ascii_digit}
use Rattle.std.specs.List.{after_first, before_first, join_with_byte, list_all, list_any, slice_split}
use Rattle.std.proofs.lemmas.Bool.{and_parts, cases_Bool, eq-eqb, eqb-true, false_from_ne_true, false≢true, or_from, or_parts}
use Rattle.std.proofs.lemmas.List.Splits.{join_with_byte-slice_split}
use Rattle.bspl_types.specs.Name.{begins_name, goes_on, is_group, is_grouped, is_name, is_name_rest, is_plain_name, is_positive_number, is_reserved}
use Rattle.bspl_tool.specs.Claims.{AcceptedLiveness, AcceptedSafety, Claim, LivenessLive, SafetySafe, all_claims, claim_line}
use Rattle.verdict_commands.specs.MessageLines.{dead_line, enacted_line}
use Rattle.bspl_tool.proofs.ClaimsNothing.{IsField, begins, claim_lines, message_lines, starts, starts_rest}
use Rattle.bspl_tool.proofs.Unbroken.{has_byte, has_lf, joined_has_none}

-- no name has the byte
record IsOutside (c : ℕ) : Type 0 where
  not_first : begins_name c ≡ false
  not_later : (rest : List ℕ) → goes_on c rest ≡ false
  no_digit : is_ascii_digit c ≡ false
  no_hash : eqb 35 c ≡ false
  no_dot : eqb 46 c ≡ false

-- a byte that passes is not one that fails
pub passes : (test : ℕ → Bool) (b c : ℕ) → test b ≡ true → test c ≡ false → eqb b c ≡ false
passes test b c one other =
    elim (cases_Bool (eqb b c)) [
      | inl is ↦ absurd (let same : test b ≡ test c = ap test (eqb-true b c is) in cc)
      | inr differ ↦ differ
    ]

-- the byte is none of those after the first of a plain name
rest_has_none : (c : ℕ) → IsOutside c → (text : List ℕ) → is_name_rest text ≡ true → has_byte c text ≡ false
rest_has_none c outside [] rest = refl
rest_has_none c outside (b ∷ text) rest =
    let parts = and_parts (goes_on b text) (is_name_rest text) rest in
    or_from (eqb b c) (has_byte c text) (passes (λ d. goes_on d text) b c parts.0 (outside.not_later text)) (rest_has_none c outside text parts.1)

-- and none of a plain name
plain_has_none : (c : ℕ) → IsOutside c → (text : List ℕ) → is_plain_name text ≡ true → has_byte c text ≡ false
plain_has_none c outside [] plain = refl
plain_has_none c outside (b ∷ text) plain =
    let parts = and_parts (begins_name b) (is_name_rest text) plain in
    or_from (eqb b c) (has_byte c text) (passes begins_name b c parts.0 outside.not_first) (rest_has_none c outside text parts.1)

-- a dot
abbrev is_dot : ℕ → Bool
is_dot b = eqb b 46

-- digits, a dot and a plain name
dotted_has_none : (c : ℕ) → IsOutside c → (text : List ℕ) → list_all is_ascii_digit (before_first is_dot text) ≡ true → is_plain_name (after_first is_dot text) ≡ true → has_byte c text ≡ false
dotted_has_none c outside [] digits plain = refl
dotted_has_none c outside (b ∷ text) digits plain =
    elim (cases_Bool (eqb b 46)) [
      | inl dot ↦
          let after : after_first is_dot (b ∷ text) ≡ text = rw dot refl in
          or_from (eqb b c) (has_byte c text) (ap (λ d. eqb d c) (eqb-true b 46 dot) ∙ outside.no_dot) (plain_has_none c outside text (ap is_plain_name (sym after) ∙ plain))
      | inr other ↦
          let before : before_first is_dot (b ∷ text) ≡ b ∷ before_first is_dot text = rw (other, one-add) refl in
          let after : after_first is_dot (b ∷ text) ≡ after_first is_dot text = rw (other, one-add, add-one, add-one) refl in
          let parts = and_parts (is_ascii_digit b) (list_all is_ascii_digit (before_first is_dot text)) (ap (list_all is_ascii_digit) (sym before) ∙ digits) in
          or_from (eqb b c) (has_byte c text) (passes is_ascii_digit b c parts.0 outside.no_digit) (dotted_has_none c outside text parts.1 (ap is_plain_name (sym after) ∙ plain))
    ]

-- a number has digits alone
positive_is_digits : (text : List ℕ) → is_positive_number text ≡ true → list_all is_ascii_digit text ≡ true
positive_is_digits [] positive = refl
positive_is_digits (d ∷ digits) positive =
    let parts = and_parts (is_ascii_digit d && not (eqb d 48)) (list_all is_ascii_digit digits) positive in
    rw ((and_parts (is_ascii_digit d) (not (eqb d 48)) parts.0).0, parts.1) refl

-- a group
group_has_none : (c : ℕ) → IsOutside c → (text : List ℕ) → is_group text ≡ true → has_byte c text ≡ false
group_has_none c outside text group =
    let parts = and_parts (is_positive_number (before_first is_dot text)) (is_plain_name (after_first is_dot text)) group in
    dotted_has_none c outside text (positive_is_digits (before_first is_dot text) parts.0) parts.1

-- a first piece, and groups after `#`
pieces_have_none : (c : ℕ) → IsOutside c → (first : List ℕ) (groups : List (List ℕ)) → has_byte c first ≡ false → list_all is_group groups ≡ true → has_byte c (join_with_byte 35 (first ∷ groups)) ≡ false
pieces_have_none c outside first [] none groups = none
pieces_have_none c outside first (group ∷ more) none groups =
    let parts = and_parts (is_group group) (list_all is_group more) groups in
    let others = pieces_have_none c outside group more (group_has_none c outside group parts.0) parts.1 in
    joined_has_none c first (35 ∷ join_with_byte 35 (group ∷ more)) none (or_from (eqb 35 c) (has_byte c (join_with_byte 35 (group ∷ more))) outside.no_hash others)

-- the pieces of a name, with a `#` between each two
grouped_has_none : (c : ℕ) → IsOutside c → (pieces : List (List ℕ)) → is_grouped pieces ≡ true → has_byte c (join_with_byte 35 pieces) ≡ false
grouped_has_none c outside [] grouped = refl
grouped_has_none c outside (plain ∷ groups) grouped =
    let parts = and_parts (is_plain_name plain) (list_all is_group groups) grouped in
    pieces_have_none c outside plain groups (plain_has_none c outside plain parts.0) parts.1

-- so no name has the byte
name_has_none : (c : ℕ) → IsOutside c → (name : List ℕ) → IsTrue (is_name name) → has_byte c name ≡ false
unfolding is_name
name_has_none c outside name named =
    let pieces = slice_split (λ b. eqb b 35) name in
    ap (has_byte c) (sym (join_with_byte-slice_split 35 name)) ∙ grouped_has_none c outside pieces (and_parts (is_grouped pieces) (not (is_reserved name)) named).0

-- a name does not go on with an LF
lf_not_later : (rest : List ℕ) → goes_on 10 rest ≡ false
lf_not_later [] = refl
lf_not_later (b ∷ rest) = refl

-- a name has no LF
pub name_has_no_lf : (name : List ℕ) → IsTrue (is_name name) → has_lf name ≡ false
name_has_no_lf name named = name_has_none 10 (record { not_first = refl; not_later = lf_not_later; no_digit = refl; no_hash = refl; no_dot = refl }) name named

-- nor with a space
space_not_later : (rest : List ℕ) → goes_on 32 rest ≡ false
space_not_later [] = refl
space_not_later (b ∷ rest) = refl

-- nor a space
name_has_no_space : (name : List ℕ) → IsTrue (is_name name) → has_byte 32 name ≡ false
name_has_no_space name named = name_has_none 32 (record { not_first = refl; not_later = space_not_later; no_digit = refl; no_hash = refl; no_dot = refl }) name named

-- nor a brace
brace_not_later : (rest : List ℕ) → goes_on 123 rest ≡ false
brace_not_later [] = refl
brace_not_later (b ∷ rest) = refl

-- so it is one field of a line
pub name_is_field : (name : List ℕ) → IsTrue (is_name name) → IsField name
name_is_field name named = record {
  no_lf = name_has_no_lf name named;
  no_space = name_has_no_space name named;
  no_brace = name_has_none 123 (record { not_first = refl; not_later = brace_not_later; no_digit = refl; no_hash = refl; no_dot = refl }) name named;
}

-- what comes after the first space of two equal texts
after_space_same : (one other x y : List ℕ) → has_byte 32 one ≡ false → has_byte 32 other ≡ false → one ++ 32 ∷ x ≡ other ++ 32 ∷ y → x ≡ y
after_space_same [] [] x y none_in_one none_in_other same = cc
after_space_same [] (b ∷ other) x y none_in_one none_in_other same =
    let is : b ≡ 32 = cc in
    let no : eqb 32 32 ≡ false = ap (λ d. eqb d 32) (sym is) ∙ (or_parts (eqb b 32) (has_byte 32 other) none_in_other).0 in
    absurd (cc)
after_space_same (b ∷ one) [] x y none_in_one none_in_other same =
    let is : b ≡ 32 = cc in
    let no : eqb 32 32 ≡ false = ap (λ d. eqb d 32) (sym is) ∙ (or_parts (eqb b 32) (has_byte 32 one) none_in_one).0 in
    absurd (cc)
after_space_same (b ∷ one) (c ∷ other) x y none_in_one none_in_other same =
    let tails : one ++ 32 ∷ x ≡ other ++ 32 ∷ y = cc in
    after_space_same one other x y (or_parts (eqb b 32) (has_byte 32 one) none_in_one).1 (or_parts (eqb c 32) (has_byte 32 other) none_in_other).1 tails

-- a name, a space and a brace do not begin a word, a space and another byte
name_begins_none : (name x word rest : List ℕ) (b : ℕ) → IsTrue (is_name name) → has_byte 32 word ≡ false → eqb b 123 ≡ false → name ++ 32 ∷ 123 ∷ x ≢ word ++ 32 ∷ b ∷ rest
name_begins_none name x word rest b named whole other same =
    let after = after_space_same name word (123 ∷ x) (b ∷ rest) (name_has_no_space name named) whole same in
    let is : 123 ≡ b = ap (λ t. get_or t 0 0) after in
    false≢true (sym other ∙ ap (λ d. eqb d 123) (sym is))

-- so they begin no line that claims something
name_begins_no_claim : (claim : Claim) (name x rest : List ℕ) → IsTrue (is_name name) → name ++ 32 ∷ 123 ∷ x ≢ claim_line claim ++ rest
name_begins_no_claim SafetySafe name x rest named = name_begins_none name x (codes "safety") (codes "afe" ++ rest) 115 named refl refl
name_begins_no_claim AcceptedSafety name x rest named = name_begins_none name x (codes "accepted") (codes "afety" ++ rest) 115 named refl refl
name_begins_no_claim LivenessLive name x rest named = name_begins_none name x (codes "liveness") (codes "ive" ++ rest) 108 named refl refl
name_begins_no_claim AcceptedLiveness name x rest named = name_begins_none name x (codes "accepted") (codes "iveness" ++ rest) 108 named refl refl

-- none of some claims
begins_none : (some : List Claim) (name x : List ℕ) → IsTrue (is_name name) → list_any (λ said. starts said (name ++ 32 ∷ 123 ∷ x)) (map claim_line some) ≡ false
begins_none [] name x named = refl
begins_none (claim ∷ some) name x named =
    or_from _ _
    (false_from_ne_true _ (λ is. let found = starts_rest (claim_line claim) (name ++ 32 ∷ 123 ∷ x) is in name_begins_no_claim claim name x found.0 named found.1))
    (begins_none some name x named)

-- so a text that begins with them begins with no such line
pub name_claims_nothing : (name x : List ℕ) → IsTrue (is_name name) → begins claim_lines (name ++ 32 ∷ 123 ∷ x) ≡ false
name_claims_nothing name x named = begins_none all_claims name x named

-- a brace comes before no name that has a space after it
brace_is_no_field : (said more x : List ℕ) → has_byte 123 said ≡ false → 123 ∷ x ≢ said ++ 32 ∷ more
brace_is_no_field [] more x none same = false≢true (ap (λ t. eqb (get_or t 0 0) 123) (sym same))
brace_is_no_field (b ∷ said) more x none same =
    false≢true (sym (or_parts (eqb b 123) (has_byte 123 said) none).0 ∙ ap (λ t. eqb (get_or t 0 0) 123) (sym same))

-- the word before a name of a message is that of no protocol
name_is_no_message : (name x said word rest : List ℕ) → IsTrue (is_name name) → IsField said → name ++ 32 ∷ 123 ∷ x ≢ (codes "message " ++ said ++ 32 ∷ word) ++ rest
name_is_no_message name x said word rest named field same =
    let after = after_space_same name (codes "message") (123 ∷ x) ((said ++ 32 ∷ word) ++ rest) (name_has_no_space name named) refl same in
    brace_is_no_field said (word ++ rest) x field.no_brace (after ∙ append_assoc said (32 ∷ word) rest)

-- so a text that begins with them begins with no line on a message
pub name_says_no_message : (name x said : List ℕ) → IsTrue (is_name name) → IsField said → begins (message_lines said) (name ++ 32 ∷ 123 ∷ x) ≡ false
name_says_no_message name x said named field =
    or_from _ _ (false_from_ne_true _ (λ is. let found = starts_rest (dead_line said) (name ++ 32 ∷ 123 ∷ x) is in name_is_no_message name x said (codes "dead") found.0 named field found.1))
    (or_from _ false (false_from_ne_true _ (λ is. let found = starts_rest (enacted_line said) (name ++ 32 ∷ 123 ∷ x) is in name_is_no_message name x said (codes "enacted") found.0 named field found.1)) refl)

-- what comes before the first space of two equal texts
pub before_space_same : (one other x y : List ℕ) → has_byte 32 one ≡ false → has_byte 32 other ≡ false → one ++ 32 ∷ x ≡ other ++ 32 ∷ y → one ≡ other
before_space_same [] [] x y none_in_one none_in_other same = refl
before_space_same [] (b ∷ other) x y none_in_one none_in_other same =
    absurd (false≢true (sym (or_parts (eqb b 32) (has_byte 32 other) none_in_other).0 ∙ ap (λ t. eqb (get_or t 0 0) 32) (sym same)))
before_space_same (b ∷ one) [] x y none_in_one none_in_other same =
    absurd (false≢true (sym (or_parts (eqb b 32) (has_byte 32 one) none_in_one).0 ∙ ap (λ t. eqb (get_or t 0 0) 32) same))
before_space_same (b ∷ one) (c ∷ other) x y none_in_one none_in_other same =
    let tails : one ++ 32 ∷ x ≡ other ++ 32 ∷ y = cc in
    let heads : b ≡ c = cc in
    cc (heads, before_space_same one other x y (or_parts (eqb b 32) (has_byte 32 one) none_in_one).1 (or_parts (eqb c 32) (has_byte 32 other) none_in_other).1 tails)

-- two lines on messages with other words after the names
pub other_word : (name said : List ℕ) (b c : ℕ) (rest end more : List ℕ) → has_byte 32 name ≡ false → has_byte 32 said ≡ false → eqb c b ≡ false → starts (codes "message " ++ said ++ 32 ∷ c ∷ more) (codes "message " ++ (name ++ 32 ∷ b ∷ rest) ++ end) ≡ false
other_word name said b c rest end more none_in_name none_in_said differ = false_from_ne_true _ (λ is.
    let found = starts_rest (codes "message " ++ said ++ 32 ∷ c ∷ more) (codes "message " ++ (name ++ 32 ∷ b ∷ rest) ++ end) is in
    let tails : (name ++ 32 ∷ b ∷ rest) ++ end ≡ (said ++ 32 ∷ c ∷ more) ++ found.0 = ap (drop 8) found.1 in
    let same = sym (append_assoc name (32 ∷ b ∷ rest) end) ∙ tails ∙ append_assoc said (32 ∷ c ∷ more) found.0 in
    let words : b ∷ (rest ++ end) ≡ c ∷ (more ++ found.0) = after_space_same name said (b ∷ (rest ++ end)) (c ∷ (more ++ found.0)) none_in_name none_in_said same in
    false≢true (sym differ ∙ eq-eqb c b (sym (ap (λ t. get_or t 0 0) words))))

-- so a line with a word that is none of theirs begins with none of the lines on a message
pub other_words : (name said : List ℕ) (b : ℕ) (rest end : List ℕ) → has_byte 32 name ≡ false → IsField said → eqb 100 b ≡ false → eqb 101 b ≡ false → begins (message_lines said) (codes "message " ++ (name ++ 32 ∷ b ∷ rest) ++ end) ≡ false
other_words name said b rest end none field differ differ_too =
    or_from _ _ (other_word name said b 100 rest end (codes "ead") none field.no_space differ) (or_from _ false (other_word name said b 101 rest end (codes "nacted") none field.no_space differ_too) refl)

-- two lines with one word have one name
pub same_word : (name said word end : List ℕ) → has_byte 32 name ≡ false → has_byte 32 said ≡ false → name ≢ said → starts (codes "message " ++ said ++ 32 ∷ word) (codes "message " ++ (name ++ 32 ∷ word) ++ end) ≡ false
same_word name said word end none_in_name none_in_said differ = false_from_ne_true _ (λ is.
    let found = starts_rest (codes "message " ++ said ++ 32 ∷ word) (codes "message " ++ (name ++ 32 ∷ word) ++ end) is in
    let tails : (name ++ 32 ∷ word) ++ end ≡ (said ++ 32 ∷ word) ++ found.0 = ap (drop 8) found.1 in
    differ (before_space_same name said (word ++ end) (word ++ found.0) none_in_name none_in_said (sym (append_assoc name (32 ∷ word) end) ∙ tails ∙ append_assoc said (32 ∷ word) found.0)))
