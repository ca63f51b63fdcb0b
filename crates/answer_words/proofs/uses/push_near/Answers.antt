-- The line has the word for the use, and the name if there is one.
use Rattle.std.proofs.Common.{◌∙◌, ◌++◌, ℕ, List, ap}
use Rattle.std.proofs.lemmas.Result.{on_ok_weaker}
use Rattle.answer_words.proofs.TextLemmas.{five_parts, nothing_after}
use Rattle.answer_words.proofs.uses.push_near.Goals as goal
use Rattle.answer_words.specs.declared.wording.TheConstants as wording
use Rattle.answer_words.specs.declared.wording.details.TheConstants as details

pub returns-in-Some : goal.returns-in-Some
returns-in-Some c =
    let old = c.args.text.now in
    let near = c.in-Some.near.now in
    rw c.in-Some.is (on_ok_weaker c.push_around.result (λ grown. grown ∙ five_parts old details.NEAREST.now c.kind_word-word.result.now details.THAT_IS_DECLARED.now near wording.FULL_STOP.now ∙ ap (λ (word : List ℕ). old ++ (details.NEAREST.now ++ word ++ details.THAT_IS_DECLARED.now ++ near ++ wording.FULL_STOP.now)) c.kind_word-word.ensures) c.push_around.ensures)

pub returns-in-None : goal.returns-in-None
returns-in-None c =
    let old = c.args.text.now in
    let end = details.NEARLY_THIS_ONE.now in
    rw c.in-None.is (on_ok_weaker c.push_around-in-None.result (λ grown. grown ∙ nothing_after old details.NO_NAME.now c.kind_word-word.result.now end ∙ ap (λ (word : List ℕ). old ++ (details.NO_NAME.now ++ word ++ end)) c.kind_word-word.ensures) c.push_around-in-None.ensures)
