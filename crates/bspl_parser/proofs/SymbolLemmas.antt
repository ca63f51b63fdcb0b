-- Symbols are distinct by their indices.
use Rattle.std.proofs.Common.{◌≡◌, true, ◌++◌, get_or, refl, sym, ap, ◌∙◌}
use Rattle.std.proofs.lemmas.Bool.{eqb-true, eq-eqb}
use Rattle.bspl_parser.specs.declared.symbol.Symbol.{Symbol}
use Rattle.bspl_parser.specs.declared.symbol.Symbol.TheVariants.{Roles, Role, Parameters, Parameter, Private, In, Out, Nil, Any, Opt, Key, Arrow, OpenBrace, CloseBrace, OpenBracket, CloseBracket, OpenParen, CloseParen, Comma, Colon}
use Rattle.bspl_parser.specs.inner.SymbolTable.{symbol_index, same_symbol, words, marks}

-- the symbol at its index
at_index : (s : Symbol) → get_or (words ++ marks) (symbol_index s) Colon ≡ s
at_index Roles = refl
at_index Role = refl
at_index Parameters = refl
at_index Parameter = refl
at_index Private = refl
at_index In = refl
at_index Out = refl
at_index Nil = refl
at_index Any = refl
at_index Opt = refl
at_index Key = refl
at_index Arrow = refl
at_index OpenBrace = refl
at_index CloseBrace = refl
at_index OpenBracket = refl
at_index CloseBracket = refl
at_index OpenParen = refl
at_index CloseParen = refl
at_index Comma = refl
at_index Colon = refl

-- each is the same as itself
pub same_symbol-refl : (s : Symbol) → same_symbol s s ≡ true
same_symbol-refl s = eq-eqb (symbol_index s) (symbol_index s) refl

-- and as no other
pub same_symbol-true : (a b : Symbol) → same_symbol a b ≡ true → a ≡ b
same_symbol-true a b same = sym (at_index a) ∙ ap (λ n. get_or (words ++ marks) n Colon) (eqb-true (symbol_index a) (symbol_index b) same) ∙ at_index b
