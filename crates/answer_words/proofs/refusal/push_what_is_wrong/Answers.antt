-- The sentence is its head, what is wrong, and its end.
use Rattle.std.proofs.Common.{◌∙◌, ap, ℕ, List}
use Rattle.answer_words.specs.RefusedPlace.{name_of}
use Rattle.answer_words.specs.Sentences.{wrong}
use Rattle.answer_words.proofs.TextLemmas.{said_appended}
use Rattle.answer_words.proofs.refusal.push_what_is_wrong.Goals as goal

pub returns : goal.returns
returns c =
    let fault = c.args.fault in
    let first = c.args.rejection.now.first in
    said_appended _ _ _ _ _ _ _ _ c.in_ok-append.ensures.ok c.in_ok-push_wrong.ensures
    (ap (λ (one : List ℕ). wrong fault one c.name_of-2.result.now) c.name_of.ensures ∙ ap (λ (other : List ℕ). wrong fault (name_of first) other) c.name_of-2.ensures)
    c.in_ok-append-2.ensures.ok
