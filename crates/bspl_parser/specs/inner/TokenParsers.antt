-- Reading one token: a name, a symbol, an adornment, the word `key`.
use Rattle.std.specs.Prelude.{ℕ, Bool, true, false, ◌&&◌, if◌then◌else◌, List, [], ◌∷◌, Option}
use Rattle.std.specs.Prelude.{Some, None, Ok, Err}
use Rattle.std.specs.Option.{option_map_or}
use Rattle.bspl_parser.specs.declared.document.Adorn.{Adorn}
use Rattle.bspl_parser.specs.declared.document.Adorn.TheVariants as adorn
use Rattle.bspl_parser.specs.declared.parse_error.ErrorPosition.TheVariants.{At, End}
use Rattle.bspl_parser.specs.declared.symbol.Symbol.{Symbol}
use Rattle.bspl_parser.specs.declared.symbol.Symbol.TheVariants.{In, Out, Nil, Any, Opt, Key}
use Rattle.bspl_parser.specs.declared.token.Token.{Token}
use Rattle.bspl_parser.specs.declared.token.Token.TheVariants.{Name, Fixed}
use Rattle.bspl_parser.specs.declared.word.Word.{Word}
use Rattle.bspl_parser.specs.inner.SymbolTable.{same_symbol}
use Rattle.bspl_parser.specs.inner.ParseResult.{ParseResult, ◌>>=◌}

-- the symbol comes next
abbrev pub begins_with : Symbol → List Token → Bool
begins_with symbol [] = false
begins_with symbol (Name word ∷ ts) = false
begins_with symbol (Fixed other offset ∷ ts) = same_symbol other symbol

-- a name comes next
abbrev pub begins_with_name : List Token → Bool
begins_with_name [] = false
begins_with_name (Name word ∷ ts) = true
begins_with_name (Fixed symbol offset ∷ ts) = false

-- a name
unfoldable pub parse_word : List Token → ParseResult Word
parse_word [] = Err End
parse_word (Name word ∷ ts) = Ok (word, ts)
parse_word (Fixed symbol offset ∷ ts) = Err (At offset)

-- that symbol, with its offset
unfoldable pub parse_symbol : Symbol → List Token → ParseResult ℕ
parse_symbol symbol [] = Err End
parse_symbol symbol (Name word ∷ ts) = Err (At word.offset)
parse_symbol symbol (Fixed other offset ∷ ts) =
    if same_symbol other symbol then Ok (offset, ts) else Err (At offset)

-- that symbol, and a name after it
unfoldable pub parse_word_after : Symbol → List Token → ParseResult Word
parse_word_after symbol ts = parse_symbol symbol ts >>= λ before. parse_word before.1

-- one of two symbols
abbrev pub parse_either : Symbol → Symbol → List Token → ParseResult ℕ
parse_either one other ts =
    if begins_with one ts then parse_symbol one ts else parse_symbol other ts

-- the adornment that the symbol is
abbrev pub adorn_of : Symbol → Option Adorn
adorn_of In = Some adorn.In
adorn_of Out = Some adorn.Out
adorn_of Nil = Some adorn.Nil
adorn_of Any = Some adorn.Any
adorn_of Opt = Some adorn.Opt
adorn_of symbol = None

-- an adornment, with its offset
unfoldable pub parse_adorn : List Token → ParseResult (Adorn × ℕ)
parse_adorn [] = Err End
parse_adorn (Name word ∷ ts) = Err (At word.offset)
parse_adorn (Fixed symbol offset ∷ ts) =
    option_map_or (λ adorned. Ok ((adorned, offset), ts)) (adorn_of symbol) (Err (At offset))

-- the word `key` may follow
abbrev pub takes_key : Adorn → Bool
takes_key adorn.In = true
takes_key adorn.Out = true
takes_key adorn.Nil = false
takes_key adorn.Any = true
takes_key adorn.Opt = true

-- the word `key` if it comes, but none after a `nil` parameter
unfoldable pub parse_key : Adorn → List Token → ParseResult (Option ℕ)
parse_key adorned ts =
    if takes_key adorned && begins_with Key ts
    then (parse_symbol Key ts >>= λ key. Ok (Some key.0, key.1))
    else Ok (None, ts)
