-- What the reading of tokens says of them.
use Rattle.std.proofs.Common.{◌≡◌, ℕ, ◌+◌, ◌<◌, List, [], ◌∷◌, ◌++◌, length, take, drop, get_or, Some, None, suc, refl, sym, ap, subst, ◌∙◌}
use Rattle.std.specs.Prelude.{map, IfSome}
use Rattle.std.proofs.lemmas.List.{map-append, take-append-drop, take_more}
use Rattle.std.proofs.Math.Seq.{drop-cons}
use Rattle.bspl_parser.specs.declared.token.Token.{Token}
use Rattle.bspl_parser.specs.Token.{offset_of, token_text}
use Rattle.question_text.specs.inner.Fault.{HasMisplaced, AreUnfinished}
use Rattle.question_text.specs.inner.Pending.{Awaiting, question_with}
use Rattle.question_text.specs.inner.Piece.{Piece, Once, Resting, Whole, factor_of}
use Rattle.question_text.specs.inner.Progress.{Progress, at_start, whole_from, whole_question}
use Rattle.question_text.specs.inner.Step.{step}
use Rattle.question_text.specs.Levels.{HasLevel, QuestionLevel, FactorLevel}
use Rattle.question_text.specs.QuestionText.{BeginsQuestion, SpellsQuestion}
use Rattle.question_text.specs.Tree.{Phrase, Happened, Rest, words_of_phrase}
use Rattle.question_text.proofs.Completeness.{question_read}
use Rattle.question_text.proofs.Completions.{progress_completes}
use Rattle.question_text.proofs.Forms.{Awaits, IsFormed, question_formed}
use Rattle.question_text.proofs.QuestionWords.{Plain, phrase_plain, suffix_plain, tokens_of_words}
use Rattle.question_text.proofs.ReadWords.{awaiting_words, piece_words, words_around}
use Rattle.question_text.proofs.Steps.{step_on, steps, steps-append, steps_none, HasRead, all_read}
use Rattle.question_text.proofs.WordLemmas.{question_words}

-- the tokens have been read
abbrev pub AreRead : List Token → Progress → Type 0
AreRead tokens r = steps (Some at_start) (map token_text tokens) ≡ Some r

-- what has been read has the words of the tokens
has_read : (tokens : List Token) (r : Progress) → AreRead tokens r → HasRead (map token_text tokens) r
has_read tokens r is = subst (λ s. IfSome s (HasRead (map token_text tokens))) is (all_read (map token_text tokens))

-- so some question begins with them
pub tokens_begin : (tokens : List Token) (r : Progress) → AreRead tokens r → BeginsQuestion tokens
tokens_begin tokens r is =
    let read = has_read tokens r is in
    let c = progress_completes r read.follows in
    let all : words_of_phrase c.question ≡ map token_text tokens ++ c.more = c.is ∙ ap (λ ws. ws ++ c.more) read.written in
    let more = tokens_of_words c.more (suffix_plain (map token_text tokens) c.more (subst Plain all (phrase_plain c.question QuestionLevel c.formed))) in (
      more.0,
      c.question,
      record {
        worded = map-append token_text tokens more.0 ∙ ap (λ ws. map token_text tokens ++ ws) more.1 ∙ sym all;
        formed = c.formed;
      },
    )

-- one more token
prefix_grows : (tokens : List Token) (i : ℕ) (t : Token) → i < length tokens → t ≡ get_or tokens i t → take (i + 1) tokens ≡ take i tokens ++ t ∷ []
prefix_grows tokens i t lt is = take_more tokens i t lt ∙ ap (λ u. take i tokens ++ u ∷ []) (sym is)

last_step : (tokens : List Token) (t : Token) (r : Progress) → AreRead tokens r → steps (Some at_start) (map token_text (tokens ++ t ∷ [])) ≡ step r (token_text t)
last_step tokens t r is =
    ap (steps (Some at_start)) (map-append token_text tokens (t ∷ [])) ∙ steps-append (Some at_start) (map token_text tokens) (token_text t ∷ []) ∙ ap (λ s. step_on s (token_text t)) is

pub token_read : (tokens : List Token) (i : ℕ) (t : Token) (r s : Progress) → i < length tokens → t ≡ get_or tokens i t → AreRead (take i tokens) r → step r (token_text t) ≡ Some s → AreRead (take (i + 1) tokens) s
token_read tokens i t r s lt is read next = ap (λ ts. steps (Some at_start) (map token_text ts)) (prefix_grows tokens i t lt is) ∙ last_step (take i tokens) t r read ∙ next

-- a token that is not read stands in no question after those before it
no_question : (prefix : List Token) (t : Token) (r : Progress) → AreRead prefix r → step r (token_text t) ≡ None → ¬ BeginsQuestion (prefix ++ t ∷ [])
no_question prefix t r read none begins =
    let q = question_read begins.1 begins.2.formed in
    let words : map token_text (prefix ++ t ∷ []) ++ map token_text begins.0 ≡ words_of_phrase begins.1 = sym (map-append token_text (prefix ++ t ∷ []) begins.0) ∙ begins.2.worded in
    let fails : steps (Some at_start) (map token_text (prefix ++ t ∷ []) ++ map token_text begins.0) ≡ None =
    steps-append (Some at_start) (map token_text (prefix ++ t ∷ [])) (map token_text begins.0)
    ∙ ap (λ s. steps s (map token_text begins.0)) (last_step prefix t r read ∙ none)
    ∙ steps_none (map token_text begins.0) in
    let clash : None ≡ Some q.progress = sym fails ∙ ap (steps (Some at_start)) words ∙ q.is in
    cc

pub token_misplaced : (tokens : List Token) (i : ℕ) (t : Token) (r : Progress) → i < length tokens → t ≡ get_or tokens i t → AreRead (take i tokens) r → step r (token_text t) ≡ None → HasMisplaced tokens (offset_of t)
token_misplaced tokens i t r lt is read none =
    record {
      prefix = take i tokens;
      token = t;
      rest = drop (suc i) tokens;
      parts = sym (take-append-drop i tokens) ∙ ap (λ ts. take i tokens ++ ts) (drop-cons tokens i t lt) ∙ ap (λ u. take i tokens ++ u ∷ drop (suc i) tokens) (sym is);
      at_offset = refl;
      begins = tokens_begin (take i tokens) r read;
      none = no_question (take i tokens) t r read none;
    }

-- a whole question has the words that were read
factor_whole : (w : Awaiting) (f q : Phrase) → Awaits w → HasLevel FactorLevel f → question_with w f ≡ q → (words_of_phrase q ≡ awaiting_words w ++ words_of_phrase f) × HasLevel QuestionLevel q
factor_whole w f q a formed is = (ap words_of_phrase (sym is) ∙ question_words w f, subst (HasLevel QuestionLevel) is (question_formed w f a formed))

whole_words : (o : List Awaiting) (w : Awaiting) (p : Piece) (q : Phrase) → IsFormed p → Awaits w → whole_from o w (factor_of p) ≡ Some q → (words_of_phrase q ≡ words_around w o ++ piece_words p) × HasLevel QuestionLevel q
whole_words [] w (Once h) q f a is = factor_whole w (Happened h) q a f (cc)
whole_words [] w (Resting excused) q f a is = factor_whole w (Rest excused) q a f (cc)
whole_words [] w (Whole t) q f a is = factor_whole w t q a f (cc)
whole_words o w p q f a is = absurd cc

-- tokens that are read as a question spell it
pub tokens_spell : (tokens : List Token) (r : Progress) (q : Phrase) → AreRead tokens r → whole_question r ≡ Some q → SpellsQuestion tokens q
tokens_spell tokens r q is whole =
    let read = has_read tokens r is in
    let words = whole_words r.outside r.inside r.piece q read.follows.piece read.follows.inside whole in
    record { worded = sym (words.0 ∙ read.written); formed = words.1 }

-- other tokens are unfinished
pub tokens_unfinished : (tokens : List Token) (r : Progress) → AreRead tokens r → whole_question r ≡ None → AreUnfinished tokens
tokens_unfinished tokens r is none =
    record {
      begins = tokens_begin tokens r is;
      none = λ q spelled.
          let whole = question_read q spelled.formed in
          let same : Some r ≡ Some whole.progress = sym is ∙ ap (steps (Some at_start)) spelled.worded ∙ whole.is in
          let whole_is = whole.whole in
          cc;
    }
