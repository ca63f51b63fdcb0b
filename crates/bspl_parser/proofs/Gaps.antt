-- What is skipped is determined by the text.
use Rattle.std.proofs.Common.{◌≡◌, ℕ, true, List, [], ◌∷◌, ◌++◌, inl, inr, refl, sym, ap, subst, ◌∙◌, append_assoc}
use Rattle.std.specs.Prelude.{IsTrue}
use Rattle.std.proofs.lemmas.List.Elements.{All-head, All-tail}
use Rattle.bspl_parser.specs.Tokens.{is_blank_byte, IsLine, IsGap, nothing, blank, comment, IsEnd}

-- the byte is no LF
abbrev pub NotLf : ℕ → Type 0
NotLf b = b ≡ 10 → ⊥

-- no blank and no comment with an LF begins it
pub record NoPiece (bytes : List ℕ) : Type 0 where
  pub no_blank : (b : ℕ) (rest : List ℕ) → bytes ≡ b ∷ rest → IsTrue (is_blank_byte b) → ⊥
  pub no_comment : (text rest : List ℕ) → IsLine text → bytes ≡ 47 ∷ 47 ∷ (text ++ 10 ∷ rest) → ⊥

-- two lines that end at their LF are one
same_line : (t u v w : List ℕ) → IsLine t → IsLine u → t ++ 10 ∷ v ≡ u ++ 10 ∷ w → (t ≡ u) × (v ≡ w)
same_line [] [] v w line_t line_u e = (refl, cc)
same_line [] (c ∷ u) v w line_t line_u e = absurd (let is : c ≡ 10 = cc in All-head NotLf c u line_u is)
same_line (b ∷ t) [] v w line_t line_u e = absurd (let is : b ≡ 10 = cc in All-head NotLf b t line_t is)
same_line (b ∷ t) (c ∷ u) v w line_t line_u e =
    let heads : b ≡ c = cc in
    let tails : t ++ 10 ∷ v ≡ u ++ 10 ∷ w = cc in
    let rest = same_line t u v w (All-tail NotLf b t line_t) (All-tail NotLf c u line_u) tails in
    (rw (heads, rest.0) refl, rest.1)

-- a line has no LF
no_lf : (t u v : List ℕ) → IsLine t → t ≡ u ++ 10 ∷ v → ⊥
no_lf [] [] v line e = cc
no_lf [] (c ∷ u) v line e = cc
no_lf (b ∷ t) [] v line e = (let is : b ≡ 10 = cc in All-head NotLf b t line is)
no_lf (b ∷ t) (c ∷ u) v line e = (let tails : t ≡ u ++ 10 ∷ v = cc in no_lf t u v (All-tail NotLf b t line) tails)

-- the slash is no blank
no_slash : (b : ℕ) → IsTrue (is_blank_byte b) → b ≡ 47 → ⊥
no_slash b is e = (let at_slash : is_blank_byte 47 ≡ true = subst (λ c. is_blank_byte c ≡ true) e is in cc)

-- after a gap that both begin with, one goes on
cancel_gap : {p g : List ℕ} → IsGap p → IsGap g → (bytes z : List ℕ) → NoPiece z → p ++ bytes ≡ g ++ z → (more : List ℕ) × IsGap more × (bytes ≡ more ++ z)
cancel_gap nothing gap bytes z none e = (_, gap, e)
cancel_gap (blank {b = b} {gap = p} is rest) nothing bytes z none e = absurd (none.no_blank b (p ++ bytes) (sym e) is)
cancel_gap (comment t {gap = p} line rest) nothing bytes z none e = absurd (none.no_comment t (p ++ bytes) line (sym e ∙ ap (λ x. 47 ∷ 47 ∷ x) (append_assoc t (10 ∷ p) bytes)))
cancel_gap (blank {b = b} {gap = p} is rest) (blank {b = c} {gap = g} is' rest') bytes z none e = (let tails : p ++ bytes ≡ g ++ z = cc in cancel_gap rest rest' bytes z none tails)
cancel_gap (blank {b = b} {gap = p} is rest) (comment u {gap = g} line' rest') bytes z none e = absurd (let first : b ≡ 47 = cc in no_slash b is first)
cancel_gap (comment t {gap = p} line rest) (blank {b = c} {gap = g} is' rest') bytes z none e = absurd (let first : c ≡ 47 = cc in no_slash c is' first)
cancel_gap (comment t {gap = p} line rest) (comment u {gap = g} line' rest') bytes z none e =
    let left : (t ++ 10 ∷ p) ++ bytes ≡ t ++ 10 ∷ (p ++ bytes) = append_assoc t (10 ∷ p) bytes in
    let right : (u ++ 10 ∷ g) ++ z ≡ u ++ 10 ∷ (g ++ z) = append_assoc u (10 ∷ g) z in
    let tails : (t ++ 10 ∷ p) ++ bytes ≡ (u ++ 10 ∷ g) ++ z = cc in
    let same = same_line t u (p ++ bytes) (g ++ z) line line' (sym left ∙ tails ∙ right) in
    cancel_gap rest rest' bytes z none same.1

-- gaps with no piece after them are one
pub same_gap : {g h : List ℕ} → IsGap g → IsGap h → (z w : List ℕ) → NoPiece z → NoPiece w → g ++ z ≡ h ++ w → (g ≡ h) × (z ≡ w)
same_gap nothing nothing z w none_z none_w e = (refl, e)
same_gap nothing (blank {b = c} {gap = h} is rest) z w none_z none_w e = absurd (none_z.no_blank c (h ++ w) e is)
same_gap nothing (comment u {gap = h} line rest) z w none_z none_w e = absurd (none_z.no_comment u (h ++ w) line (e ∙ ap (λ x. 47 ∷ 47 ∷ x) (append_assoc u (10 ∷ h) w)))
same_gap (blank {b = b} {gap = g} is rest) nothing z w none_z none_w e = absurd (none_w.no_blank b (g ++ z) (sym e) is)
same_gap (comment t {gap = g} line rest) nothing z w none_z none_w e = absurd (none_w.no_comment t (g ++ z) line (sym e ∙ ap (λ x. 47 ∷ 47 ∷ x) (append_assoc t (10 ∷ g) z)))
same_gap (blank {b = b} {gap = g} is rest) (blank {b = c} {gap = h} is' rest') z w none_z none_w e =
    let heads : b ≡ c = cc in
    let tails : g ++ z ≡ h ++ w = cc in
    let same = same_gap rest rest' z w none_z none_w tails in
    (rw (heads, same.0) refl, same.1)
same_gap (blank {b = b} {gap = g} is rest) (comment u {gap = h} line' rest') z w none_z none_w e = absurd (let first : b ≡ 47 = cc in no_slash b is first)
same_gap (comment t {gap = g} line rest) (blank {b = c} {gap = h} is' rest') z w none_z none_w e = absurd (let first : c ≡ 47 = cc in no_slash c is' first)
same_gap (comment t {gap = g} line rest) (comment u {gap = h} line' rest') z w none_z none_w e =
    let left : (t ++ 10 ∷ g) ++ z ≡ t ++ 10 ∷ (g ++ z) = append_assoc t (10 ∷ g) z in
    let right : (u ++ 10 ∷ h) ++ w ≡ u ++ 10 ∷ (h ++ w) = append_assoc u (10 ∷ h) w in
    let tails : (t ++ 10 ∷ g) ++ z ≡ (u ++ 10 ∷ h) ++ w = cc in
    let lines = same_line t u (g ++ z) (h ++ w) line line' (sym left ∙ tails ∙ right) in
    let same = same_gap rest rest' z w none_z none_w lines.1 in
    (rw (lines.0, same.0) refl, same.1)

-- one gap and another
pub IsGap-append : {p g : List ℕ} → IsGap p → IsGap g → IsGap (p ++ g)
IsGap-append nothing gap = gap
IsGap-append (blank is rest) gap = blank is (IsGap-append rest gap)
IsGap-append {p} {g} (comment t {gap = p'} line rest) gap = subst (λ x. IsGap (47 ∷ 47 ∷ x)) (sym (append_assoc t (10 ∷ p') g)) (comment t line (IsGap-append rest gap))

-- a comment that has no LF is no piece
pub open_is_no_piece : (text : List ℕ) → IsLine text → NoPiece (47 ∷ 47 ∷ text)
open_is_no_piece text line =
    record {
      no_blank = λ b rest e is. (let first : b ≡ 47 = cc in no_slash b is first);
      no_comment = λ t rest line' e. (let same : text ≡ t ++ 10 ∷ rest = cc in no_lf text t rest line same);
    }

-- nor is an end
pub end_is_no_piece : (bytes : List ℕ) → IsEnd bytes → NoPiece bytes
end_is_no_piece bytes (inl none) = subst NoPiece (sym none) (record { no_blank = λ b rest e is. cc; no_comment = λ t rest line e. cc })
end_is_no_piece bytes (inr open_comment) = subst NoPiece (sym open_comment.2) (open_is_no_piece open_comment.0 open_comment.1)
