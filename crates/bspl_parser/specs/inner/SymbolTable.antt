-- The lists of the symbols, and a test whether two are one.
use Rattle.std.specs.Prelude.{ℕ, Bool, ◌==◌, List, [], ◌∷◌, ◌++◌}
use Rattle.bspl_parser.specs.declared.symbol.Symbol.{Symbol}
use Rattle.bspl_parser.specs.declared.symbol.Symbol.TheVariants.{Roles, Role, Parameters, Parameter}
use Rattle.bspl_parser.specs.declared.symbol.Symbol.TheVariants.{Private, In, Out, Nil, Any, Opt}
use Rattle.bspl_parser.specs.declared.symbol.Symbol.TheVariants.{Key, Arrow, OpenBrace, CloseBrace}
use Rattle.bspl_parser.specs.declared.symbol.Symbol.TheVariants.{OpenBracket, CloseBracket}
use Rattle.bspl_parser.specs.declared.symbol.Symbol.TheVariants.{OpenParen, CloseParen, Comma}
use Rattle.bspl_parser.specs.declared.symbol.Symbol.TheVariants.{Colon}

-- the symbol's index in the list of all
abbrev pub symbol_index : Symbol → ℕ
symbol_index Roles = 0
symbol_index Role = 1
symbol_index Parameters = 2
symbol_index Parameter = 3
symbol_index Private = 4
symbol_index In = 5
symbol_index Out = 6
symbol_index Nil = 7
symbol_index Any = 8
symbol_index Opt = 9
symbol_index Key = 10
symbol_index Arrow = 11
symbol_index OpenBrace = 12
symbol_index CloseBrace = 13
symbol_index OpenBracket = 14
symbol_index CloseBracket = 15
symbol_index OpenParen = 16
symbol_index CloseParen = 17
symbol_index Comma = 18
symbol_index Colon = 19

-- whether both are one symbol
abbrev pub same_symbol : Symbol → Symbol → Bool
same_symbol a b = symbol_index a == symbol_index b

-- the reserved words of four bytes and more
abbrev pub long_words : List Symbol
long_words = Roles ∷ Role ∷ Parameters ∷ Parameter ∷ Private ∷ []

-- those of fewer bytes
abbrev pub short_words : List Symbol
short_words = In ∷ Out ∷ Nil ∷ Any ∷ Opt ∷ Key ∷ []

-- the reserved words
abbrev pub words : List Symbol
words = long_words ++ short_words

-- the marks
abbrev pub marks : List Symbol
marks =
    Arrow ∷ OpenBrace ∷ CloseBrace ∷ OpenBracket ∷ CloseBracket ∷
    OpenParen ∷ CloseParen ∷ Comma ∷ Colon ∷ []
