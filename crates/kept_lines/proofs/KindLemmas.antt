-- What a test of the first bytes says.
use Rattle.std.proofs.Common.{◌≡◌, ◌≤◌, ◌++◌, ℕ, List, [], Bool, length, take, drop, sym, ap, subst, ◌∙◌, length-take, take_all, append-nil, arith}
use Rattle.std.specs.Prelude.{MatchBool, nat_eq}
use Rattle.std.proofs.lemmas.List.{append_cancel_left, take-append-drop}
use Rattle.kept_lines.specs.FileKind.{HasHead}
use Rattle.kept_lines.specs.Text.{AreTextLines, image_text}
use Rattle.kept_lines.proofs.TextLemmas.{first_bytes_are_text, text_joins}
use Rattle.std.specs.List.{starts_with}
use Rattle.std.specs.Cmp.Lexicographic.{told_text}

-- whether the bytes begin with these
pub told_head : (bytes head : List ℕ) (begins : Bool) → begins ≡ starts_with nat_eq bytes head
    → MatchBool begins (head ≡ take (length head) bytes) (head ≡ take (length head) bytes → ⊥)
told_head bytes head begins is = told_text head (take (length head) bytes) begins is

-- a head comes first in a text of so many bytes, and lines come after it
pub record LiesAfter (head text : List ℕ) (count : ℕ) : Type 0 where
  pub first : take (length head) text ≡ head
  pub whole : text ≡ head ++ drop (length head) text
  pub within : length head ≤ count
  pub lines : AreTextLines (drop (length head) text)

-- what comes behind lines in a text are lines
lines_behind : (head text lines : List ℕ) → AreTextLines head → AreTextLines text
    → text ≡ head ++ lines → AreTextLines lines
lines_behind head text lines head_is text_is whole =
    append_cancel_left head (image_text lines) lines
    (sym (text_joins head lines head_is) ∙ ap (λ (b : List ℕ). image_text b) (sym whole) ∙ text_is ∙ whole)

-- the lines behind the head are lines, if all of the text is
pub lines_after_head : (head image : List ℕ) (count : ℕ) → AreTextLines head → HasHead head image
    → take count image ≡ image_text image → count ≤ length image
    → LiesAfter head (take count image) count
lines_after_head head image count head_is begins is_text within =
    let text = take count image in
    let P : List ℕ → Type 0 = λ bytes. head ≡ take (length head) bytes in
    let first = subst P (sym is_text) begins in
    let whole : head ++ drop (length head) text ≡ text =
    ap (λ (b : List ℕ). b ++ drop (length head) text) first ∙ take-append-drop (length head) text in
    let cut = length-take (length head) text in
    let long : length head ≡ length (take (length head) text) = ap (λ (b : List ℕ). length b) first in
    let of_text = length-take count image in
    record {
      first = sym first;
      whole = sym whole;
      within = omega (arith, cut, long, of_text);
      lines = lines_behind head text (drop (length head) text) head_is (first_bytes_are_text image count is_text) (sym whole);
    }

-- a head has itself
pub head_has_itself : (head : List ℕ) → AreTextLines head → HasHead head head
head_has_itself head is =
    sym (take_all (length head) (image_text head) (omega (arith, ap (λ (b : List ℕ). length b) is)) ∙ is)

-- behind a head that is all of the text there are no lines
pub head_alone : (head lines : List ℕ) → AreTextLines head → image_text head ≡ head ++ lines
    → lines ≡ []
head_alone head lines is text =
    sym (append_cancel_left head [] lines (append-nil head ∙ sym is ∙ text))
