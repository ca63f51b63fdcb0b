-- A template that is filled hole by hole.
use Rattle.std.proofs.Common.{◌≡◌, ℕ, ◌+◌, ◌<◌, ◌≤◌, List, ◌∷◌, ◌++◌, None, Some, length, drop, get_or, map, nat_lt, sym, ap, ◌∙◌}
use Rattle.std.specs.List.{after_first, before_first, position, position_or_len}
use Rattle.std.proofs.lemmas.Bool.{cond_both, ltb-false}
use Rattle.std.proofs.lemmas.Option.{none-some, same_Some}
use Rattle.std.proofs.lemmas.List.{append_assoc, append-nil, drop_all, drop_more}
use Rattle.html.specs.declared.fragment.Fragment as lent
use Rattle.html.specs.Fragment.{Fragment, fitted, fragment_of, fragment_text, is_hole, as_html}

-- a hole that is found is the first
pub hole_found : (template : List ℕ) (hole : ℕ) → position is_hole template ≡ Some hole → position_or_len is_hole template ≡ hole
hole_found template hole =
    let first = position_or_len is_hole template in
    cond_both (nat_lt first (length template)) (Some first) None (λ o. o ≡ Some hole → first ≡ hole) (λ _ is. same_Some first hole is) (λ _ is. absurd (none-some hole is))

-- without a hole all stands before it
pub no_hole : (template : List ℕ) → position is_hole template ≡ None → length template ≤ position_or_len is_hole template
no_hole template =
    let first = position_or_len is_hole template in
    cond_both (nat_lt first (length template)) (Some first) None (λ o. o ≡ None → length template ≤ first) (λ _ is. absurd (none-some first (sym is))) (λ no _. ltb-false first (length template) no)

-- the text before a hole, and the fragment in it
hole_filled : (text template : List ℕ) (part : Fragment) (parts : List Fragment) → ((text ++ before_first is_hole template) ++ fragment_text part) ++ as_html (fitted (after_first is_hole template) parts) ≡ text ++ as_html (fitted template (part ∷ parts))
unfolding fitted
hole_filled text template part parts =
    let before = before_first is_hole template in
    let rest = as_html (fitted (after_first is_hole template) parts) in
    append_assoc (text ++ before) (fragment_text part) rest ∙ append_assoc text before (fragment_text part ++ rest)

-- the next fragment
pub fragment_filled : (text template : List ℕ) (fragments : List lent.Fragment) (i : ℕ) (d : lent.Fragment) → i < length fragments → ((text ++ before_first is_hole template) ++ fragment_text (fragment_of (get_or fragments i d))) ++ as_html (fitted (after_first is_hole template) (map fragment_of (drop (i + 1) fragments))) ≡ text ++ as_html (fitted template (map fragment_of (drop i fragments)))
fragment_filled text template fragments i d within =
    hole_filled text template (fragment_of (get_or fragments i d)) (map fragment_of (drop (i + 1) fragments))
    ∙ ap (λ (left : List lent.Fragment). text ++ as_html (fitted template (map fragment_of left))) (sym (drop_more fragments i d within))

-- without a fragment that is left the rest is written as it is
pub rest_written : (text template : List ℕ) (fragments : List lent.Fragment) (i : ℕ) → length fragments ≤ i → text ++ template ≡ text ++ as_html (fitted template (map fragment_of (drop i fragments)))
unfolding fitted
rest_written text template fragments i all =
    ap (λ (ys : List ℕ). text ++ ys) (sym (append-nil template))
    ∙ ap (λ (left : List lent.Fragment). text ++ as_html (fitted template (map fragment_of left))) (sym (drop_all i fragments all))
