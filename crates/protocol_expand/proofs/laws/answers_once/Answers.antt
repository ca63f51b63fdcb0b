-- The law, by its lemmas.
use Rattle.protocol_expand.proofs.AnswerLemmas.{LowerLaws, expands_once}
use Rattle.protocol_expand.proofs.OneAnswer.{never_both, refuses_once}
use Rattle.protocol_expand.proofs.laws.answers_once.Goals as goal

pub returns : goal.returns
returns c =
    let laws : LowerLaws = record {
      words = c.equal_words.ensures;
      cycles = c.cycles_are_one.ensures;
      unique = c.expansions_are_unique.ensures;
      names = c.expansions_keep_names.ensures;
    } in
    record { expansions = expands_once laws; refusals = refuses_once laws; distinct = never_both laws }
