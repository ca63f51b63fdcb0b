-- What the crates below answer once, a protocol text does.
use Rattle.tool_input.proofs.OneRefusal.{OneReading, declared_once, declared_or_refused, one_refusal}
use Rattle.tool_input.proofs.laws.texts_are_judged_once.Goals as goal

pub returns : goal.returns
returns c =
    let reading : OneReading = record {
      documents = c.answers_once.ensures.documents;
      bytes = c.answers_once.ensures.bytes;
      tokens = c.answers_once.ensures.tokens;
      parsed = c.answers_once.ensures.exclusive;
      expansions = c.answers_once-2.ensures.expansions;
      unexpanded = c.answers_once-2.ensures.refusals;
      expanded = c.answers_once-2.ensures.distinct;
      unadmitted = c.refuses_once.ensures.refusals;
      admitted = c.refuses_once.ensures.exclusive;
    } in record {
      declaration = declared_once reading;
      refusal = λ name text r s. one_refusal reading name text;
      exclusive = λ name text x r. declared_or_refused reading name text x;
    }
