-- What the crates below have once, an output has.
use Rattle.more_commands.proofs.FormulaOutput.{output_once}
use Rattle.more_commands.proofs.laws.one_output.Goals as goal

pub returns : goal.returns
returns c = λ args input out out' status status' subject name requested. output_once (record {
  task = c.asks_once.ensures.once;
  declared = c.texts_are_judged_once.ensures.declaration;
  refusal = c.texts_are_judged_once.ensures.refusal;
  exclusive = c.texts_are_judged_once.ensures.exclusive;
  message = c.messages_are_named_once.ensures;
  property_text = c.one_text.ensures.property;
  enact_text = c.one_text.ensures.message;
  question = c.means_once.ensures.question;
  unknown = c.means_once.ensures.unknown;
  asked = c.means_once.ensures.exclusive;
  same_text = c.same_has_same_formula.ensures;
  question_text = c.one_question_text.ensures;
}) args input subject name requested out out' status status'
