-- The next sign is listed if it may stand there; at the end all are.
use Rattle.text_lines.specs.Fields.{fields_of}
use Rattle.answer_words.proofs.ChoiceLemmas.{all_listed, one_more}
use Rattle.answer_words.proofs.choices.push_signs.Goals as goal

pub signs-preserved : goal.signs-preserved
signs-preserved c =
    one_more c.args.before.now c.in-Some.sign.now c.args.text.now c.signs.text c.push_choice.new.text (fields_of c.in-Some.more.now) (fields_of c.signs.rest.now) c.in-Some.ensures c.signs.invariant c.in_ok-push_choice.ensures

pub returns : goal.returns
returns c = all_listed _ _ _ _ c.in_default.ensures c.signs.invariant
