-- Names, reserved words and symbols.
use Rattle.std.proofs.Common.{◌≡◌, ℕ, true, false, not, eqb, List, refl, ◌∙◌}
use Rattle.std.specs.Prelude.{IsTrue}
use Rattle.std.specs.List.{slice_split}
use Rattle.std.proofs.lemmas.Bool.{and_parts}
use Rattle.bspl_types.specs.Name.{is_grouped, is_reserved, is_name}
use Rattle.bspl_parser.specs.declared.name_length.State.TheVariants.{Start}
use Rattle.bspl_parser.specs.declared.symbol.Symbol.{Symbol}
use Rattle.bspl_parser.specs.declared.symbol.Symbol.TheVariants.{Roles, Role, Parameters, Parameter, Private, In, Out, Nil, Any, Opt, Key, Arrow, OpenBrace, CloseBrace, OpenBracket, CloseBracket, OpenParen, CloseParen, Comma, Colon}
use Rattle.bspl_parser.specs.Symbol.{spelling}
use Rattle.bspl_parser.specs.Tokens.{long_arrow}
use Rattle.bspl_parser.proofs.NameLengthLemmas.{accepts, accepts-is_grouped}

-- what is accepted and not reserved is a name
pub accepted_is_name : (text : List ℕ) → accepts Start text ≡ true → is_reserved text ≡ false → IsTrue (is_name text)
unfolding is_name
accepted_is_name text accepted free = rw (← accepts-is_grouped text, accepted, free) refl

-- and a name is accepted
pub name_is_accepted : (text : List ℕ) → IsTrue (is_name text) → accepts Start text ≡ true
unfolding is_name
name_is_accepted text name = accepts-is_grouped text ∙ (and_parts (is_grouped (slice_split (λ b. eqb b 35) text)) (not (is_reserved text)) name).0

-- the other arrow is no name
pub arrow_is_no_name : is_name long_arrow ≡ false
unfolding is_name
arrow_is_no_name = refl

-- no symbol is a name
pub symbol_is_no_name : (s : Symbol) → is_name (spelling s) ≡ false
unfolding is_name
symbol_is_no_name Roles = refl
symbol_is_no_name Role = refl
symbol_is_no_name Parameters = refl
symbol_is_no_name Parameter = refl
symbol_is_no_name Private = refl
symbol_is_no_name In = refl
symbol_is_no_name Out = refl
symbol_is_no_name Nil = refl
symbol_is_no_name Any = refl
symbol_is_no_name Opt = refl
symbol_is_no_name Key = refl
symbol_is_no_name Arrow = refl
symbol_is_no_name OpenBrace = refl
symbol_is_no_name CloseBrace = refl
symbol_is_no_name OpenBracket = refl
symbol_is_no_name CloseBracket = refl
symbol_is_no_name OpenParen = refl
symbol_is_no_name CloseParen = refl
symbol_is_no_name Comma = refl
symbol_is_no_name Colon = refl
