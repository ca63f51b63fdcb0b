-- A message is read part after part.
use Rattle.std.proofs.Common.{◌≡◌, List, Result, Ok, Err, refl, sym, ◌∙◌}
use Rattle.bspl_parser.specs.declared.parse_error.ErrorPosition.{ErrorPosition}
use Rattle.bspl_parser.specs.declared.symbol.Symbol.TheVariants.{Arrow, Colon, OpenBracket, CloseBracket}
use Rattle.bspl_parser.specs.declared.token.Token.{Token}
use Rattle.bspl_parser.specs.declared.word.Word.{Word}
use Rattle.bspl_parser.specs.inner.ParseResult.{◌>>=◌}
use Rattle.bspl_parser.specs.inner.TokenParsers.{parse_word, parse_symbol, parse_word_after}
use Rattle.bspl_parser.specs.inner.GrammarParsers.{parse_formal, parse_list, parse_bracketed, parse_message, parse_message_parts}

-- readings after a reading of two parts
bind_assoc : {A B C : Type 0} (r : Result A ErrorPosition) (f : A → Result B ErrorPosition) (g : B → Result C ErrorPosition) → (r >>= f) >>= g ≡ r >>= (λ x. f x >>= g)
bind_assoc (Ok x) f g = refl
bind_assoc (Err position) f g = refl

-- equal readings after a reading
bind_same : {A B : Type 0} (r : Result A ErrorPosition) (f g : A → Result B ErrorPosition) → ((x : A) → f x ≡ g x) → r >>= f ≡ r >>= g
bind_same (Ok x) f g same = same x
bind_same (Err position) f g same = refl

-- the parts are the message
pub message_parts : (sender : Word) (ts : List Token) → parse_message sender ts ≡ parse_message_parts sender ts
unfolding parse_message parse_word_after parse_bracketed
message_parts sender ts =
    sym (bind_assoc (parse_symbol Arrow ts) _ _ ∙ bind_same (parse_symbol Arrow ts) _ _ (λ arrow. bind_same (parse_word arrow.1) _ _ (λ receiver.
    bind_assoc (parse_symbol Colon receiver.1) _ _ ∙ bind_same (parse_symbol Colon receiver.1) _ _ (λ colon. bind_same (parse_word colon.1) _ _ (λ name.
    bind_assoc (parse_symbol OpenBracket name.1) _ _ ∙ bind_same (parse_symbol OpenBracket name.1) _ _ (λ open_bracket.
    bind_assoc (parse_list parse_formal open_bracket.1) _ _ ∙ bind_same (parse_list parse_formal open_bracket.1) _ _ (λ params.
    bind_assoc (parse_symbol CloseBracket params.1) _ _)))))))
