-- The spelling of a byte ends where it ends, whatever follows; none begins with a quote.
use Rattle.std.proofs.Common.{◌≡◌, ◌≢◌, ℕ, ◌+◌, ◌*◌, ◌/◌, ◌%◌, ◌<◌, ◌≤◌, ◌⊎◌, true, false, List, [], ◌∷◌, ◌++◌, length, length-append, length-take, take, get_or, min, refl, sym, ap, subst, ◌∙◌, inl, inr, arith, lt-ltb, le-ltb}
use Rattle.std.specs.Fmt.{digit_glyph}
use Rattle.std.specs.List.{All}
use Rattle.std.proofs.lemmas.Bool.{cases_Bool, cases_lt, cond-true, cond-false, false≢true}
use Rattle.std.proofs.Math.Seq.{get_or-append_seam}
use Rattle.std.proofs.lemmas.List.{append_assoc, append-nil}
use Rattle.bspl_types.specs.ValueSpelling.{byte_spelling, is_plain}
use Rattle.bspl_types.specs.inner.Spelling.{spelled_bytes, BeginsWithNone, SpellsText}

-- how a digit is written
glyph_is : (d : ℕ) → ((d < 10) × (digit_glyph false d ≡ 48 + d)) ⊎ ((10 ≤ d) × (digit_glyph false d ≡ 87 + d))
glyph_is d = elim (cases_lt d 10) [
  | inl small ↦ inl (small, cond-true _ _ _ (lt-ltb d 10 small))
  | inr large ↦ inr (large, cond-false _ _ _ (le-ltb d 10 large))
]

-- two digits that are written alike are one
glyph_once : (d e : ℕ) → digit_glyph false d ≡ digit_glyph false e → d ≡ e
glyph_once d e same = elim (glyph_is d) [
  | inl one ↦ elim (glyph_is e) [ inl other ↦ omega (arith, one, other, same) | inr other ↦ absurd (omega (arith, one, other, same)) ]
  | inr one ↦ elim (glyph_is e) [ inl other ↦ absurd (omega (arith, one, other, same)) | inr other ↦ omega (arith, one, other, same) ]
]

-- the byte itself, or a backslash and two digits
spelling_is : (b : ℕ) → ((is_plain b ≡ true) × (byte_spelling b ≡ b ∷ [])) ⊎ ((is_plain b ≡ false) × (byte_spelling b ≡ 92 ∷ digit_glyph false (b / 16) ∷ digit_glyph false (b % 16) ∷ []))
spelling_is b = elim (cases_Bool (is_plain b)) [
  | inl plain ↦ inl (plain, cond-true _ _ _ plain)
  | inr other ↦ inr (other, cond-false _ _ _ other)
]

-- a backslash is not spelled as itself
no_backslash : (b : ℕ) → is_plain b ≡ true → b ≢ 92
no_backslash b plain is = false≢true (subst (λ x. is_plain x ≡ true) is plain)

-- no spelling begins with a quote
pub no_quote : (b : ℕ) (rest after : List ℕ) → byte_spelling b ++ rest ≢ 34 ∷ after
no_quote b rest after same = elim (spelling_is b) [
  | inl plain ↦
      let whole : b ∷ rest ≡ 34 ∷ after = ap (λ s. s ++ rest) (sym plain.1) ∙ same in
      let is : b ≡ 34 = cc in
      false≢true (subst (λ x. is_plain x ≡ true) is plain.0)
  | inr other ↦
      let whole : 92 ∷ digit_glyph false (b / 16) ∷ digit_glyph false (b % 16) ∷ rest ≡ 34 ∷ after = ap (λ s. s ++ rest) (sym other.1) ∙ same in
      absurd (omega (arith, ap (λ s. get_or s 0 0) whole))
]

-- what begins with the spellings of two bytes tells them to be one
pub spelled_once : (b c : ℕ) (rest after : List ℕ) → byte_spelling b ++ rest ≡ byte_spelling c ++ after → (b ≡ c) × (rest ≡ after)
spelled_once b c rest after same = elim (spelling_is b) [
  | inl one ↦ elim (spelling_is c) [
    | inl other ↦
        let whole : b ∷ rest ≡ c ∷ after = ap (λ s. s ++ rest) (sym one.1) ∙ same ∙ ap (λ s. s ++ after) other.1 in
        (cc, cc)
    | inr other ↦
        let whole : b ∷ rest ≡ 92 ∷ digit_glyph false (c / 16) ∷ digit_glyph false (c % 16) ∷ after = ap (λ s. s ++ rest) (sym one.1) ∙ same ∙ ap (λ s. s ++ after) other.1 in
        let is : b ≡ 92 = cc in
        absurd (no_backslash b one.0 is)
  ]
  | inr one ↦ elim (spelling_is c) [
    | inl other ↦
        let whole : 92 ∷ digit_glyph false (b / 16) ∷ digit_glyph false (b % 16) ∷ rest ≡ c ∷ after = ap (λ s. s ++ rest) (sym one.1) ∙ same ∙ ap (λ s. s ++ after) other.1 in
        let is : c ≡ 92 = cc in
        absurd (no_backslash c other.0 is)
    | inr other ↦
        let whole : 92 ∷ digit_glyph false (b / 16) ∷ digit_glyph false (b % 16) ∷ rest ≡ 92 ∷ digit_glyph false (c / 16) ∷ digit_glyph false (c % 16) ∷ after =
        ap (λ s. s ++ rest) (sym one.1) ∙ same ∙ ap (λ s. s ++ after) other.1 in
        let high : digit_glyph false (b / 16) ≡ digit_glyph false (c / 16) = cc in
        let low : digit_glyph false (b % 16) ≡ digit_glyph false (c % 16) = cc in
        let high_is = glyph_once _ _ high in
        let low_is = glyph_once _ _ low in
        (omega (arith, high_is, low_is), cc)
  ]
]

-- what was read is the beginning of the text
pub reads_prefix : (read text rest : List ℕ) → spelled_bytes read ++ rest ≡ spelled_bytes text ++ 34 ∷ [] → (more : List ℕ) × (text ≡ read ++ more) × (rest ≡ spelled_bytes more ++ 34 ∷ [])
reads_prefix [] text rest same = (text, refl, same)
reads_prefix (b ∷ read) [] rest same = absurd (no_quote b (spelled_bytes read ++ rest) [] (sym (append_assoc (byte_spelling b) (spelled_bytes read) rest) ∙ same))
reads_prefix (b ∷ read) (c ∷ text) rest same =
    let first = spelled_once b c (spelled_bytes read ++ rest) (spelled_bytes text ++ 34 ∷ []) (sym (append_assoc (byte_spelling b) (spelled_bytes read) rest) ∙ same ∙ append_assoc (byte_spelling c) (spelled_bytes text) (34 ∷ [])) in
    let others = reads_prefix read text rest first.1 in
    (others.0, let whole : c ∷ text ≡ b ∷ (read ++ others.0) = ap (λ x. x ∷ text) (sym first.0) ∙ ap (λ xs. b ∷ xs) others.1 in whole, others.2)

-- if the closing quote is not next, a byte is
pub reads_byte : (read text rest : List ℕ) → rest ≢ 34 ∷ [] → spelled_bytes read ++ rest ≡ spelled_bytes text ++ 34 ∷ [] → (b : ℕ) × (more : List ℕ) × (text ≡ read ++ b ∷ more) × (rest ≡ byte_spelling b ++ (spelled_bytes more ++ 34 ∷ []))
reads_byte read text rest not_closed same =
    let prefix = reads_prefix read text rest same in next prefix.0 prefix.1 prefix.2
  where
    next : (more : List ℕ) → text ≡ read ++ more → rest ≡ spelled_bytes more ++ 34 ∷ [] → (b : ℕ) × (after : List ℕ) × (text ≡ read ++ b ∷ after) × (rest ≡ byte_spelling b ++ (spelled_bytes after ++ 34 ∷ []))
    next [] is closed = absurd (not_closed closed)
    next (b ∷ after) is spelled = (b, after, is, spelled ∙ append_assoc (byte_spelling b) (spelled_bytes after) (34 ∷ []))

-- two texts that are spelled alike are one
pub text_once : (one other : List ℕ) → spelled_bytes one ++ 34 ∷ [] ≡ spelled_bytes other ++ 34 ∷ [] → one ≡ other
text_once one other same = let prefix = reads_prefix one other (34 ∷ []) same in nothing_more prefix.0 prefix.1 prefix.2
  where
    nothing_more : (more : List ℕ) → other ≡ one ++ more → 34 ∷ [] ≡ spelled_bytes more ++ 34 ∷ [] → one ≡ other
    nothing_more [] is closed = sym (is ∙ append-nil one)
    nothing_more (b ∷ after) is closed = absurd (no_quote b (spelled_bytes after ++ 34 ∷ []) [] (sym (append_assoc (byte_spelling b) (spelled_bytes after) (34 ∷ [])) ∙ sym closed))

-- the spellings of one byte more
pub spelled_more : (read : List ℕ) (b : ℕ) (after : List ℕ) → spelled_bytes read ++ (byte_spelling b ++ after) ≡ spelled_bytes (read ++ b ∷ []) ++ after
spelled_more [] b after = ap (λ s. s ++ after) (sym (append-nil (byte_spelling b)))
spelled_more (c ∷ read) b after =
    append_assoc (byte_spelling c) (spelled_bytes read) (byte_spelling b ++ after)
    ∙ ap (λ s. byte_spelling c ++ s) (spelled_more read b after)
    ∙ sym (append_assoc (byte_spelling c) (spelled_bytes (read ++ b ∷ [])) after)

-- a spelling has one byte or three
pub length-byte_spelling : (b : ℕ) → length (byte_spelling b) ≤ 3
length-byte_spelling b = elim (spelling_is b) [
  | inl plain ↦ omega (arith, ap length plain.1)
  | inr other ↦ omega (arith, ap length other.1)
]

-- and a text at most three times its length
length-text : (bytes : List ℕ) → length (spelled_bytes bytes) ≤ 3 * length bytes
length-text [] = omega arith
length-text (b ∷ bytes) = omega (arith, length-append (byte_spelling b) (spelled_bytes bytes), length-byte_spelling b, length-text bytes)

-- the bytes before an index are spelled in at most three times the index, and in three times the length
pub length-spelled_bytes : (bytes : List ℕ) (i : ℕ) → (length (spelled_bytes (take i bytes)) ≤ 3 * i) × (length (spelled_bytes (take i bytes)) ≤ 3 * length bytes)
length-spelled_bytes bytes i =
    let long : length (take i bytes) ≡ min i (length bytes) = length-take i bytes in
    (omega (arith, length-text (take i bytes), long), omega (arith, length-text (take i bytes), long))

-- the next byte of a text of which a part was read
next_byte : (field read text rest : List ℕ) → field ≡ spelled_bytes read ++ rest → rest ≢ 34 ∷ [] → SpellsText field text → (b : ℕ) × (more : List ℕ) × (text ≡ read ++ b ∷ more) × (rest ≡ byte_spelling b ++ (spelled_bytes more ++ 34 ∷ []))
next_byte field read text rest is not_closed spells = reads_byte read text rest not_closed (sym is ∙ spells.spelled)

-- the byte after those that were read is one
byte_fits : (read more : List ℕ) (b : ℕ) → All (λ x. x < 256) (read ++ b ∷ more) → b < 256
byte_fits read more b all =
    let within : length read < length (read ++ b ∷ more) = omega (arith, length-append read (b ∷ more)) in
    subst (λ x. x < 256) (get_or-append_seam read b more 0) (all (length read) 0 within)

-- no byte is next, nor the closing quote: no text is spelled
pub no_text_left : (field read rest : List ℕ) → field ≡ spelled_bytes read ++ rest → rest ≢ 34 ∷ [] → BeginsWithNone rest → (text : List ℕ) → ¬ SpellsText field text
no_text_left field read rest is not_closed none text spells =
    let next = next_byte field read text rest is not_closed spells in
    none next.0 (spelled_bytes next.1 ++ 34 ∷ []) (byte_fits read next.1 next.0 (subst (All (λ x. x < 256)) next.2 spells.text.bytes)) next.3

-- as many bytes were read as a text has at most, and the closing quote is not next: no text is spelled
pub no_room_left : (field read rest : List ℕ) → field ≡ spelled_bytes read ++ rest → rest ≢ 34 ∷ [] → length read ≡ 32 → (text : List ℕ) → ¬ SpellsText field text
no_room_left field read rest is not_closed full text spells =
    let next = next_byte field read text rest is not_closed spells in
    absurd (omega (arith, spells.text.few, ap length next.2, length-append read (next.0 ∷ next.1), full))
