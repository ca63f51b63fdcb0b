-- A hole is no mark, so the tags of a filled template have the marks of the template.
use Rattle.std.proofs.Common.{◌≡◌, ℕ, ◌+◌, Bool, true, false, List, [], ◌∷◌, ◌++◌, None, Some, length, get_or, refl, sym, ap, ◌∙◌, subst, inl, inr, arith}
use Rattle.std.specs.Prelude.{cond}
use Rattle.std.specs.List.{after_first, before_first, filter, flat_map, position_or_len}
use Rattle.std.proofs.lemmas.Bool.{cases_lt, lt-ltb}
use Rattle.std.proofs.lemmas.Bool.Decides.{Decides-eqb}
use Rattle.std.proofs.lemmas.List.{append-nil, drop_all, take_all}
use Rattle.std.proofs.lemmas.List.Elements.{filter-append}
use Rattle.std.proofs.lemmas.List.Quantifiers.{position-Some}
use Rattle.std.proofs.lemmas.List.Sums.{split_at_first}
use Rattle.html.specs.Fragment.{Fragment, fitted, is_hole}
use Rattle.html.specs.Markup.{is_mark, tag_text}

-- a hole is no mark
hole_no_mark : (b : ℕ) → is_hole b ≡ true → is_mark b ≡ false
hole_no_mark b hole = subst (λ (n : ℕ). is_mark n ≡ false) (sym ((Decides-eqb b 36).0 hole)) refl

-- a byte that is no mark adds none
no_mark_first : (b : ℕ) (rest : List ℕ) → is_mark b ≡ false → filter is_mark (b ∷ rest) ≡ filter is_mark rest
no_mark_first b rest unmarked = rw unmarked refl

-- the marks before a hole and after it are those of the template
marks_around : (template : List ℕ) → filter is_mark (before_first is_hole template) ++ filter is_mark (after_first is_hole template) ≡ filter is_mark template
marks_around template =
    let at = position_or_len is_hole template in
    let before = before_first is_hole template in
    let after = after_first is_hole template in
    let hole = get_or template at 0 in
    (elim (cases_lt at (length template)) [
      | inl within ↦
          let found = position-Some is_hole template at 0 (ap (λ (b : Bool). cond b (Some at) None) (lt-ltb at (length template) within)) in
          sym (ap (filter is_mark) (split_at_first is_hole template 0 within)
          ∙ filter-append is_mark before (hole ∷ after)
          ∙ ap (λ (marks : List ℕ). filter is_mark before ++ marks) (no_mark_first hole after (hole_no_mark hole found.1)))
      | inr all ↦
          let whole : before ≡ template = take_all at template all in
          let none : after ≡ [] = drop_all (at + 1) template (omega (arith, all)) in
          ap (λ (ys : List ℕ). filter is_mark before ++ filter is_mark ys) none
          ∙ append-nil (filter is_mark before)
          ∙ ap (filter is_mark) whole
    ])

-- lists that join to none are empty
none_first : (xs ys : List ℕ) → xs ++ ys ≡ [] → xs ≡ []
none_first [] ys none = refl
none_first (x ∷ xs) ys none = absurd (cc)

none_second : (xs ys : List ℕ) → xs ++ ys ≡ [] → ys ≡ []
none_second [] ys none = none
none_second (x ∷ xs) ys none = absurd (cc)

-- without marks of the fragments only those of the template are left
pub template_marks : (template : List ℕ) (parts : List Fragment) → flat_map tag_text parts ≡ [] → filter is_mark (flat_map tag_text (fitted template parts)) ≡ filter is_mark template
unfolding fitted
template_marks template [] none = ap (filter is_mark) (append-nil template)
template_marks template (part ∷ parts) none =
    let before = before_first is_hole template in
    let after = after_first is_hole template in
    let tags = flat_map tag_text (fitted after parts) in
    filter-append is_mark before (tag_text part ++ tags)
    ∙ ap (λ (ys : List ℕ). filter is_mark before ++ filter is_mark (ys ++ tags)) (none_first (tag_text part) (flat_map tag_text parts) none)
    ∙ ap (λ (marks : List ℕ). filter is_mark before ++ marks) (template_marks after parts (none_second (tag_text part) (flat_map tag_text parts) none))
    ∙ marks_around template
