-- The words of the language of questions.
use Rattle.std.specs.Prelude.{ℕ, List, [], ◌∷◌, Option, codes}
use Rattle.std.specs.List.{find}
use Rattle.std.specs.Str.{bytes_eq}
use Rattle.question_text.specs.declared.keyword.Keyword.{Keyword}
use Rattle.question_text.specs.declared.keyword.Keyword.TheVariants.{Sent, Received, Knows, Bound}
use Rattle.question_text.specs.declared.keyword.Keyword.TheVariants.{Can, Rest, But, Before, After}
use Rattle.question_text.specs.declared.keyword.Keyword.TheVariants.{And, Or, Not, Open, Close}

-- the bytes of the word
abbrev pub keyword_text : Keyword → List ℕ
keyword_text Sent = codes "sent"
keyword_text Received = codes "received"
keyword_text Knows = codes "knows"
keyword_text Bound = codes "bound"
keyword_text Can = codes "can"
keyword_text Rest = codes "rest"
keyword_text But = codes "but"
keyword_text Before = codes "before"
keyword_text After = codes "after"
keyword_text And = codes "and"
keyword_text Or = codes "or"
keyword_text Not = codes "not"
keyword_text Open = codes "("
keyword_text Close = codes ")"

-- all of them
abbrev pub keywords : List Keyword
keywords =
    Received ∷ Before ∷ Sent ∷ Knows ∷ Bound ∷ Can ∷ Rest ∷ But ∷ After ∷ And ∷ Or ∷ Not ∷
    Open ∷ Close ∷ []

-- the one that the word is
abbrev pub keyword_of : List ℕ → Option Keyword
keyword_of word = find (λ k. bytes_eq word (keyword_text k)) keywords
