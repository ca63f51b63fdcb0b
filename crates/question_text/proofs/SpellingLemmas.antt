-- The spelling of a question is read as it.
use Rattle.std.proofs.Common.{◌≡◌, ℕ, ◌≤◌, List, length, sym, ap, subst, ◌∙◌}
use Rattle.std.specs.Prelude.{map}
use Rattle.std.specs.List.{All}
use Rattle.std.proofs.lemmas.List.{length-map}
use Rattle.bspl_parser.specs.declared.token.Token.{Token}
use Rattle.bspl_parser.specs.Separated.{HasWords, IsNameOrParen, space_separated}
use Rattle.bspl_parser.specs.Token.{token_text}
use Rattle.question_text.specs.Laws.{SpellingReadsBack}
use Rattle.question_text.specs.Levels.{QuestionLevel}
use Rattle.question_text.specs.QuestionText.{question_token_limit}
use Rattle.question_text.specs.Tree.{phrase_of, words_of_tree}
use Rattle.question_text.proofs.QuestionWords.{all_plain, phrase_plain}

-- tokens of the same words are as many
same_count : (ts us : List Token) → map token_text ts ≡ map token_text us → length ts ≡ length us
same_count ts us same = sym (length-map ts token_text) ∙ ap length same ∙ length-map us token_text

pub reads_back : ((words : List (List ℕ)) → All IsNameOrParen words → HasWords (space_separated words) words) → SpellingReadsBack
reads_back law text t of =
    let words = words_of_tree t in
    let again = law words (all_plain words (phrase_plain (phrase_of t) QuestionLevel of.spelled.formed)) in
    let count = same_count of.tokens again.tokens (of.spelled.worded ∙ sym again.worded) in
    record {
      tokens = again.tokens;
      scanned = record { scanned = again.scanned; few = subst (λ n. n ≤ question_token_limit) count of.scanned.few };
      spelled = record { worded = again.worded; formed = of.spelled.formed };
    }
