-- The words that are left are those of tokens if all words of the line are.
use Rattle.std.proofs.Common.{All, List, ℕ, [], ◌∷◌, ◌++◌, sym, ap, subst, ◌∙◌}
use Rattle.std.specs.Option.{option_copied}
use Rattle.std.proofs.lemmas.List.{append_assoc}
use Rattle.std.proofs.lemmas.List.Elements.{All-head, All-rest}
use Rattle.dimacs.specs.RefusedLine.{IsClauseWord}
use Rattle.dimacs.specs.inner.Reading.{AreTaken, words_left}
use Rattle.dimacs.proofs.ReadingLemmas.{handed_on, word_taken}
use Rattle.dimacs.proofs.words.take_words.Goals as goal

pub returns-in_err-token_of-clause-err : goal.returns-in_err-token_of-clause-err
returns-in_err-token_of-clause-err c =
    handed_on _ _ _ c.from_residual.ensures.1 (λ known all.
    c.in_err-token_of.ensures.err known (All-head (IsClauseWord c.args.vars) _ _ (subst (All (IsClauseWord c.args.vars)) c.in-Some.ensures (c.loop-word.invariant.rest all))))

pub loop-word-preserved : goal.loop-word-preserved
loop-word-preserved c =
    let word = c.in-Some.word.now in
    let so_far = c.loop-word.invariant in
    let before_it = c.loop-word.reading in
    let after_it = c.take.new.self in
    let is = c.in_ok-token_of.ensures.ok in
    record {
      taken = so_far.taken ++ word ∷ [];
      parts =
          append_assoc so_far.taken (word ∷ []) (words_left (option_copied c.in-Some.rest))
          ∙ ap (λ (ws : List (List ℕ)). so_far.taken ++ ws) (sym c.in-Some.ensures)
          ∙ so_far.parts;
      takes = λ before taken.
          subst (λ (ws : List (List ℕ)). AreTaken c.args.vars ws after_it.clauses after_it.pending.items)
          (append_assoc before so_far.taken (word ∷ []))
          (word_taken c.args.vars before_it.clauses after_it.clauses before_it.pending.items after_it.pending.items c.in_ok-token_of.field-0 word (before ++ so_far.taken) is.0 is.1 c.in_ok-take.ensures (so_far.takes before taken));
      rest = λ all. All-rest (IsClauseWord c.args.vars) _ _ _ c.in-Some.ensures (so_far.rest all);
    }
