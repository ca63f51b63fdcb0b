-- The braces of a protocol, by the tokens of its text, and what stands between them.
use Rattle.std.specs.Prelude.{ℕ, Bool, false, ◌&&◌, if◌then◌else◌, nat_lt}
use Rattle.std.specs.Prelude.{List, [], ◌∷◌, ◌++◌, Option, Some, None}
use Rattle.std.specs.List.{list_any}
use Rattle.std.specs.Option.{option_or, option_to_list}
use Rattle.std.specs.Str.{bytes_eq}
use Rattle.bspl_parser.specs.declared.symbol.Symbol.TheVariants.{CloseBrace, OpenBrace}
use Rattle.bspl_parser.specs.declared.token.Token.{Token}
use Rattle.bspl_parser.specs.declared.token.Token.TheVariants.{Name, Fixed}
use Rattle.protocol_rules.specs.declared.braces.Braces.{Braces}

-- the offset of an opening brace
abbrev pub open_brace : Token → Option ℕ
open_brace (Fixed OpenBrace offset) = Some offset
open_brace token = None

-- the offset of a closing brace
abbrev pub close_brace : Token → Option ℕ
close_brace (Fixed CloseBrace offset) = Some offset
close_brace token = None

-- the offset of the first closing brace
abbrev pub first_close : List Token → Option ℕ
first_close [] = None
first_close (token ∷ tokens) = option_or (close_brace token) (first_close tokens)

-- the token is that name
abbrev pub is_word_token : List ℕ → Token → Bool
is_word_token name (Name word) = bytes_eq word.text name
is_word_token name (Fixed symbol offset) = false

-- the braces at these offsets, if both are there
abbrev pub braces_from : Option ℕ → Option ℕ → Option Braces
braces_from (Some opened) (Some closed) = Some (record { opened = opened; closed = closed })
braces_from opened closed = None

-- the braces of a protocol of the name, if the tokens begin with it: no braces stand in others
abbrev pub first_braces : List ℕ → List Token → Option Braces
first_braces name [] = None
first_braces name (word ∷ []) = None
first_braces name (word ∷ brace ∷ tokens) =
    if is_word_token name word then braces_from (open_brace brace) (first_close tokens) else None

-- the braces of each protocol of the name
abbrev pub braces_of : List ℕ → List Token → List Braces
braces_of name [] = []
braces_of name (token ∷ tokens) =
    option_to_list (first_braces name (token ∷ tokens)) ++ braces_of name tokens

-- the offset lies between two of the braces
abbrev pub is_in_braces : List Braces → ℕ → Bool
is_in_braces braces offset =
    list_any (λ b. nat_lt b.opened offset && nat_lt offset b.closed) braces
