-- The symbols of the language are reserved words and marks: how each is spelled.
use Rattle.std.specs.Prelude.{ℕ, List, codes}
use Rattle.bspl_parser.specs.declared.symbol.Symbol.{Symbol}
use Rattle.bspl_parser.specs.declared.symbol.Symbol.TheVariants.{Roles, Role, Parameters, Parameter}
use Rattle.bspl_parser.specs.declared.symbol.Symbol.TheVariants.{Private, In, Out, Nil, Any, Opt}
use Rattle.bspl_parser.specs.declared.symbol.Symbol.TheVariants.{Key, Arrow, OpenBrace, CloseBrace}
use Rattle.bspl_parser.specs.declared.symbol.Symbol.TheVariants.{OpenBracket, CloseBracket}
use Rattle.bspl_parser.specs.declared.symbol.Symbol.TheVariants.{OpenParen, CloseParen, Comma}
use Rattle.bspl_parser.specs.declared.symbol.Symbol.TheVariants.{Colon}

-- the bytes of the symbol
abbrev pub spelling : Symbol → List ℕ
spelling Roles = codes "roles"
spelling Role = codes "role"
spelling Parameters = codes "parameters"
spelling Parameter = codes "parameter"
spelling Private = codes "private"
spelling In = codes "in"
spelling Out = codes "out"
spelling Nil = codes "nil"
spelling Any = codes "any"
spelling Opt = codes "opt"
spelling Key = codes "key"
spelling Arrow = codes "->"
spelling OpenBrace = codes "{"
spelling CloseBrace = codes "}"
spelling OpenBracket = codes "["
spelling CloseBracket = codes "]"
spelling OpenParen = codes "("
spelling CloseParen = codes ")"
spelling Comma = codes ","
spelling Colon = codes ":"
