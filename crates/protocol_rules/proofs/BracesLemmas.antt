-- The braces of a protocol, token by token.
use Rattle.std.proofs.Common.{◌≡◌, ℕ, zero, suc, ◌+◌, ◌-◌, ◌<◌, List, [], ◌∷◌, ◌++◌, length, take, drop, Option, append_assoc, add-one, length-drop, refl, sym, ap, ◌∙◌, arith}
use Rattle.std.specs.Option.{option_to_list}
use Rattle.std.proofs.lemmas.List.{take_all}
use Rattle.bspl_parser.specs.declared.token.Token.{Token}
use Rattle.protocol_rules.specs.declared.braces.Braces.{Braces}
use Rattle.protocol_rules.specs.Braces.{braces_of, first_braces}

-- the braces from a token on are those that begin there, and those from the next one on
next_braces : (name : List ℕ) (tokens : List Token) (i : ℕ) → i < length tokens → braces_of name (drop i tokens) ≡ option_to_list (first_braces name (drop i tokens)) ++ braces_of name (drop (i + 1) tokens)
next_braces name [] i within = absurd (omega (arith, within))
next_braces name (token ∷ tokens) zero within = refl
next_braces name (token ∷ tokens) (suc i) within =
    let rest = next_braces name tokens i (omega (arith, within)) in
    rw add-one (rw add-one at rest)

-- one token more was looked at
pub one_more_token : (name : List ℕ) (tokens : List Token) (i : ℕ) (all : List Braces) (found : Option Braces) → i < length tokens → all ++ braces_of name (drop i tokens) ≡ braces_of name tokens → found ≡ first_braces name (take (length tokens - i) (drop i tokens)) → (all ++ option_to_list found) ++ braces_of name (drop (i + 1) tokens) ≡ braces_of name tokens
one_more_token name tokens i all found within kept is =
    let whole : take (length tokens - i) (drop i tokens) ≡ drop i tokens = take_all (length tokens - i) (drop i tokens) (omega (arith, length-drop i tokens)) in
    let at : found ≡ first_braces name (drop i tokens) = is ∙ ap (first_braces name) whole in
    append_assoc all (option_to_list found) (braces_of name (drop (i + 1) tokens)) ∙
    (ap (λ (b : Option Braces). all ++ (option_to_list b ++ braces_of name (drop (i + 1) tokens))) at ∙
    (ap (λ (b : List Braces). all ++ b) (sym (next_braces name tokens i within)) ∙ kept))
