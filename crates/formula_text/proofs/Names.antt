-- A name has no LF.
use Rattle.std.proofs.Common.{◌≡◌, ℕ, Bool, true, false, not, ◌&&◌, List, [], ◌∷◌, eqb, one-add, add-one, inl, inr, refl, sym, subst, ap, ◌∙◌}
use Rattle.std.specs.Prelude.{IsTrue}
use Rattle.std.specs.Char.{is_ascii_digit}
use Rattle.std.specs.List.{after_first, before_first, join_with_byte, list_all, slice_split}
use Rattle.std.proofs.lemmas.Bool.{and_parts, cases_Bool, false≢true, ne_eqb}
use Rattle.std.proofs.lemmas.List.Elements.{All-append, All-cons, All-nil}
use Rattle.std.proofs.lemmas.List.Splits.{join_with_byte-slice_split}
use Rattle.bspl_types.specs.Name.{begins_name, goes_on, is_group, is_grouped, is_name, is_name_rest, is_plain_name, is_positive_number, is_reserved}
use Rattle.formula_text.proofs.Words.{LacksLf}

-- no bytes have none
pub empty_lacks : LacksLf []
empty_lacks = All-nil (λ byte. eqb byte 10 ≡ false)

-- one byte more
more_lack : (b : ℕ) (text : List ℕ) → eqb b 10 ≡ false → LacksLf text → LacksLf (b ∷ text)
more_lack b text other lacks = All-cons (λ byte. eqb byte 10 ≡ false) b text other lacks

-- a byte that passes is no LF if an LF fails
passes : (test : ℕ → Bool) (b : ℕ) → test b ≡ true → test 10 ≡ false → eqb b 10 ≡ false
passes test b one other = ne_eqb b 10 (λ is. false≢true (sym other ∙ sym (ap test is) ∙ one))

-- a name does not go on with an LF
not_later : (rest : List ℕ) → goes_on 10 rest ≡ false
not_later [] = refl
not_later (b ∷ rest) = refl

-- what comes after the first byte of a plain name
rest_lacks : (text : List ℕ) → is_name_rest text ≡ true → LacksLf text
rest_lacks [] rest = empty_lacks
rest_lacks (b ∷ text) rest =
    let parts = and_parts (goes_on b text) (is_name_rest text) rest in
    more_lack b text (passes (λ d. goes_on d text) b parts.0 (not_later text)) (rest_lacks text parts.1)

plain_lacks : (text : List ℕ) → is_plain_name text ≡ true → LacksLf text
plain_lacks [] plain = empty_lacks
plain_lacks (b ∷ text) plain =
    let parts = and_parts (begins_name b) (is_name_rest text) plain in
    more_lack b text (passes begins_name b parts.0 refl) (rest_lacks text parts.1)

-- a dot
abbrev is_dot : ℕ → Bool
is_dot b = eqb b 46

-- digits, a dot and a plain name
dotted_lacks : (text : List ℕ) → list_all is_ascii_digit (before_first is_dot text) ≡ true → is_plain_name (after_first is_dot text) ≡ true → LacksLf text
dotted_lacks [] digits plain = empty_lacks
dotted_lacks (b ∷ text) digits plain =
    elim (cases_Bool (eqb b 46)) [
      | inl dot ↦
          let after : after_first is_dot (b ∷ text) ≡ text = rw dot refl in
          more_lack b text (passes is_dot b dot refl) (plain_lacks text (ap is_plain_name (sym after) ∙ plain))
      | inr other ↦
          let before : before_first is_dot (b ∷ text) ≡ b ∷ before_first is_dot text = rw (other, one-add) refl in
          let after : after_first is_dot (b ∷ text) ≡ after_first is_dot text = rw (other, one-add, add-one, add-one) refl in
          let parts = and_parts (is_ascii_digit b) (list_all is_ascii_digit (before_first is_dot text)) (ap (list_all is_ascii_digit) (sym before) ∙ digits) in
          more_lack b text (passes is_ascii_digit b parts.0 refl) (dotted_lacks text parts.1 (ap is_plain_name (sym after) ∙ plain))
    ]

-- a number has digits alone
positive_is_digits : (text : List ℕ) → is_positive_number text ≡ true → list_all is_ascii_digit text ≡ true
positive_is_digits [] positive = refl
positive_is_digits (d ∷ digits) positive =
    let parts = and_parts (is_ascii_digit d && not (eqb d 48)) (list_all is_ascii_digit digits) positive in
    rw ((and_parts (is_ascii_digit d) (not (eqb d 48)) parts.0).0, parts.1) refl

group_lacks : (text : List ℕ) → is_group text ≡ true → LacksLf text
group_lacks text group =
    let parts = and_parts (is_positive_number (before_first is_dot text)) (is_plain_name (after_first is_dot text)) group in
    dotted_lacks text (positive_is_digits (before_first is_dot text) parts.0) parts.1

-- a first piece, and groups after `#`
pieces_lack : (first : List ℕ) (groups : List (List ℕ)) → LacksLf first → list_all is_group groups ≡ true → LacksLf (join_with_byte 35 (first ∷ groups))
pieces_lack first [] lacks groups = lacks
pieces_lack first (group ∷ more) lacks groups =
    let parts = and_parts (is_group group) (list_all is_group more) groups in
    let others = pieces_lack group more (group_lacks group parts.0) parts.1 in
    All-append (λ byte. eqb byte 10 ≡ false) first (35 ∷ join_with_byte 35 (group ∷ more)) lacks (more_lack 35 (join_with_byte 35 (group ∷ more)) refl others)

grouped_lacks : (pieces : List (List ℕ)) → is_grouped pieces ≡ true → LacksLf (join_with_byte 35 pieces)
grouped_lacks [] grouped = empty_lacks
grouped_lacks (plain ∷ groups) grouped =
    let parts = and_parts (is_plain_name plain) (list_all is_group groups) grouped in
    pieces_lack plain groups (plain_lacks plain parts.0) parts.1

-- so a name has none
pub name_lacks : (name : List ℕ) → IsTrue (is_name name) → LacksLf name
unfolding is_name
name_lacks name named =
    let pieces = slice_split (λ b. eqb b 35) name in
    subst LacksLf (join_with_byte-slice_split 35 name) (grouped_lacks pieces (and_parts (is_grouped pieces) (not (is_reserved name)) named).0)
