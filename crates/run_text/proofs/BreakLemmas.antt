-- Neither a name nor a value's spelling has a space or an LF.
use Rattle.std.proofs.Common.{◌≡◌, ◌≢◌, ℕ, ◌+◌, ◌≤◌, ◌/◌, ◌%◌, Bool, true, false, not, ◌&&◌, List, [], ◌∷◌, ◌++◌, eqb, one-add, add-one, inl, inr, refl, sym, subst, ◌∙◌, ap, arith}
use Rattle.std.specs.Prelude.{IsTrue}
use Rattle.std.specs.Char.{is_ascii_digit}
use Rattle.std.specs.Fmt.{decimal, digit_glyph}
use Rattle.std.specs.List.{after_first, before_first, flat_map, join_with_byte, list_all, slice_split}
use Rattle.std.proofs.lemmas.Bool.{and_parts, cases_Bool, cond_both, eqb-true, false≢true}
use Rattle.std.proofs.lemmas.Fmt.{decimal_by_steps}
use Rattle.std.proofs.lemmas.List.Elements.{All-append, All-cons, All-nil, All-push}
use Rattle.std.proofs.lemmas.List.Splits.{join_with_byte-slice_split}
use Rattle.bspl_types.specs.declared.value.Value.{Value}
use Rattle.bspl_types.specs.declared.value.Value.TheVariants.{Number, Text}
use Rattle.bspl_types.specs.Name.{begins_name, goes_on, is_group, is_grouped, is_name, is_name_rest, is_plain_name, is_positive_number, is_reserved}
use Rattle.bspl_types.specs.Value.{IsValue}
use Rattle.bspl_types.specs.ValueSpelling.{byte_spelling, is_plain, value_spelling}
use Rattle.list_base.proofs.Separators.{Lacks}

-- a byte that ends a field: no name and no value has it
pub record IsBreak (c : ℕ) : Type 0 where
  pub low : c ≤ 32
  pub not_first : begins_name c ≡ false
  pub not_later : (rest : List ℕ) → goes_on c rest ≡ false
  pub not_digit : is_ascii_digit c ≡ false
  pub not_plain : is_plain c ≡ false

-- a name does not go on with a space
space_not_later : (rest : List ℕ) → goes_on 32 rest ≡ false
space_not_later [] = refl
space_not_later (b ∷ rest) = refl

-- nor with an LF
lf_not_later : (rest : List ℕ) → goes_on 10 rest ≡ false
lf_not_later [] = refl
lf_not_later (b ∷ rest) = refl

-- a space is such a byte
pub space_breaks : IsBreak 32
space_breaks = record { low = omega arith; not_first = refl; not_later = space_not_later; not_digit = refl; not_plain = refl }

-- and an LF
pub lf_breaks : IsBreak 10
lf_breaks = record { low = omega arith; not_first = refl; not_later = lf_not_later; not_digit = refl; not_plain = refl }

-- one byte more
pub lacks_more : (c b : ℕ) (text : List ℕ) → b ≢ c → Lacks c text → Lacks c (b ∷ text)
lacks_more c b text other lacks = All-cons (λ byte. byte ≢ c) b text other lacks

-- no bytes
pub lacks_none : (c : ℕ) → Lacks c []
lacks_none c = All-nil (λ byte. byte ≢ c)

-- one text after another
pub lacks_both : (c : ℕ) (one other : List ℕ) → Lacks c one → Lacks c other → Lacks c (one ++ other)
lacks_both c one other lacks also = All-append (λ byte. byte ≢ c) one other lacks also

-- a byte that passes is not one that fails
passes : (test : ℕ → Bool) (b c : ℕ) → test b ≡ true → test c ≡ false → b ≢ c
passes test b c one other is = false≢true (sym other ∙ sym (ap test is) ∙ one)

-- the byte is none of those after the first of a plain name
rest_lacks : (c : ℕ) → IsBreak c → (text : List ℕ) → is_name_rest text ≡ true → Lacks c text
rest_lacks c breaks [] rest = lacks_none c
rest_lacks c breaks (b ∷ text) rest =
    let parts = and_parts (goes_on b text) (is_name_rest text) rest in
    lacks_more c b text (passes (λ d. goes_on d text) b c parts.0 (breaks.not_later text)) (rest_lacks c breaks text parts.1)

-- and none of a plain name
plain_lacks : (c : ℕ) → IsBreak c → (text : List ℕ) → is_plain_name text ≡ true → Lacks c text
plain_lacks c breaks [] plain = lacks_none c
plain_lacks c breaks (b ∷ text) plain =
    let parts = and_parts (begins_name b) (is_name_rest text) plain in
    lacks_more c b text (passes begins_name b c parts.0 breaks.not_first) (rest_lacks c breaks text parts.1)

-- a dot
abbrev is_dot : ℕ → Bool
is_dot b = eqb b 46

-- digits, a dot and a plain name
dotted_lacks : (c : ℕ) → IsBreak c → (text : List ℕ) → list_all is_ascii_digit (before_first is_dot text) ≡ true → is_plain_name (after_first is_dot text) ≡ true → Lacks c text
dotted_lacks c breaks [] digits plain = lacks_none c
dotted_lacks c breaks (b ∷ text) digits plain =
    elim (cases_Bool (eqb b 46)) [
      | inl dot ↦
          let after : after_first is_dot (b ∷ text) ≡ text = rw dot refl in
          let is : b ≡ 46 = eqb-true b 46 dot in
          lacks_more c b text (λ e. absurd (omega (arith, is, e, breaks.low))) (plain_lacks c breaks text (ap is_plain_name (sym after) ∙ plain))
      | inr other ↦
          let before : before_first is_dot (b ∷ text) ≡ b ∷ before_first is_dot text = rw (other, one-add) refl in
          let after : after_first is_dot (b ∷ text) ≡ after_first is_dot text = rw (other, one-add, add-one, add-one) refl in
          let parts = and_parts (is_ascii_digit b) (list_all is_ascii_digit (before_first is_dot text)) (ap (list_all is_ascii_digit) (sym before) ∙ digits) in
          lacks_more c b text (passes is_ascii_digit b c parts.0 breaks.not_digit) (dotted_lacks c breaks text parts.1 (ap is_plain_name (sym after) ∙ plain))
    ]

-- a number has digits alone
positive_is_digits : (text : List ℕ) → is_positive_number text ≡ true → list_all is_ascii_digit text ≡ true
positive_is_digits [] positive = refl
positive_is_digits (d ∷ digits) positive =
    let parts = and_parts (is_ascii_digit d && not (eqb d 48)) (list_all is_ascii_digit digits) positive in
    rw ((and_parts (is_ascii_digit d) (not (eqb d 48)) parts.0).0, parts.1) refl

-- a group
group_lacks : (c : ℕ) → IsBreak c → (text : List ℕ) → is_group text ≡ true → Lacks c text
group_lacks c breaks text group =
    let parts = and_parts (is_positive_number (before_first is_dot text)) (is_plain_name (after_first is_dot text)) group in
    dotted_lacks c breaks text (positive_is_digits (before_first is_dot text) parts.0) parts.1

-- a first piece, and groups after `#`
pieces_lack : (c : ℕ) → IsBreak c → (first : List ℕ) (groups : List (List ℕ)) → Lacks c first → list_all is_group groups ≡ true → Lacks c (join_with_byte 35 (first ∷ groups))
pieces_lack c breaks first [] lacks groups = lacks
pieces_lack c breaks first (group ∷ more) lacks groups =
    let parts = and_parts (is_group group) (list_all is_group more) groups in
    let others = pieces_lack c breaks group more (group_lacks c breaks group parts.0) parts.1 in
    lacks_both c first (35 ∷ join_with_byte 35 (group ∷ more)) lacks (lacks_more c 35 (join_with_byte 35 (group ∷ more)) (λ e. absurd (omega (arith, e, breaks.low))) others)

-- the pieces of a name, with a `#` between each two
grouped_lacks : (c : ℕ) → IsBreak c → (pieces : List (List ℕ)) → is_grouped pieces ≡ true → Lacks c (join_with_byte 35 pieces)
grouped_lacks c breaks [] grouped = lacks_none c
grouped_lacks c breaks (plain ∷ groups) grouped =
    let parts = and_parts (is_plain_name plain) (list_all is_group groups) grouped in
    pieces_lack c breaks plain groups (plain_lacks c breaks plain parts.0) parts.1

-- so no name has the byte
pub name_lacks : (c : ℕ) → IsBreak c → (name : List ℕ) → IsTrue (is_name name) → Lacks c name
unfolding is_name
name_lacks c breaks name named =
    let pieces = slice_split (λ b. eqb b 35) name in
    subst (Lacks c) (join_with_byte-slice_split 35 name) (grouped_lacks c breaks pieces (and_parts (is_grouped pieces) (not (is_reserved name)) named).0)

-- a digit is written as a digit or a letter
glyph_high : (d : ℕ) → 48 ≤ digit_glyph false d
glyph_high d = cond_both _ (48 + d) (87 + d) (λ glyph. 48 ≤ glyph) (λ _. omega arith) (λ _. omega arith)

-- a number in decimal
decimal_lacks : (c n : ℕ) → IsBreak c → IsValue (Number n) → Lacks c (decimal n)
decimal_lacks c n breaks small =
    decimal_by_steps (λ m digits. Lacks c digits)
    (λ m digit. lacks_more c (48 + m) [] (λ e. absurd (omega (arith, e, breaks.low))) (lacks_none c))
    (λ m digits more lacks. All-push (λ byte. byte ≢ c) digits (48 + m % 10) lacks (λ e. absurd (omega (arith, e, breaks.low))))
    n small

-- the spelling of a byte
byte_lacks : (c b : ℕ) → IsBreak c → Lacks c (byte_spelling b)
byte_lacks c b breaks =
    cond_both (is_plain b) (b ∷ []) (92 ∷ digit_glyph false (b / 16) ∷ digit_glyph false (b % 16) ∷ []) (Lacks c)
    (λ plain. lacks_more c b [] (passes is_plain b c plain breaks.not_plain) (lacks_none c))
    (λ other.
    let last = lacks_more c (digit_glyph false (b % 16)) [] (λ e. absurd (omega (arith, e, breaks.low, glyph_high (b % 16)))) (lacks_none c) in
    let both = lacks_more c (digit_glyph false (b / 16)) (digit_glyph false (b % 16) ∷ []) (λ e. absurd (omega (arith, e, breaks.low, glyph_high (b / 16)))) last in
    lacks_more c 92 (digit_glyph false (b / 16) ∷ digit_glyph false (b % 16) ∷ []) (λ e. absurd (omega (arith, e, breaks.low))) both)

-- the spellings of bytes
bytes_lack : (c : ℕ) (bytes : List ℕ) → IsBreak c → Lacks c (flat_map byte_spelling bytes)
bytes_lack c [] breaks = lacks_none c
bytes_lack c (b ∷ bytes) breaks = lacks_both c (byte_spelling b) (flat_map byte_spelling bytes) (byte_lacks c b breaks) (bytes_lack c bytes breaks)

-- so no spelling of a value has the byte
pub value_lacks : (c : ℕ) (v : Value) → IsBreak c → IsValue v → Lacks c (value_spelling v)
value_lacks c (Number n) breaks good = decimal_lacks c n breaks good
value_lacks c (Text bytes) breaks good =
    let quote : Lacks c (34 ∷ []) = lacks_more c 34 [] (λ e. absurd (omega (arith, e, breaks.low))) (lacks_none c) in
    lacks_more c 34 (flat_map byte_spelling bytes ++ 34 ∷ []) (λ e. absurd (omega (arith, e, breaks.low))) (lacks_both c (flat_map byte_spelling bytes) (34 ∷ []) (bytes_lack c bytes breaks) quote)
