-- The sentence is its head, what to do, and its end.
use Rattle.answer_words.proofs.TextLemmas.{said_appended}
use Rattle.answer_words.proofs.refusal.push_what_to_do.Goals as goal

pub returns : goal.returns
returns c =
    said_appended _ _ _ _ _ _ _ _ c.in_ok-append.ensures.ok c.in_ok-append-2.ensures.ok c.advice_at.ensures c.in_ok-append-3.ensures.ok
