-- One answer, by the laws on tokens and questions.
use Rattle.protocol_rules.proofs.OnceLemmas.{AreOnce, fault_once, rules_once, rules_or_fault}
use Rattle.protocol_rules.proofs.laws.rules_once.Goals as goal

pub returns : goal.returns
returns c =
    let tokens = c.tokens_once.ensures in
    let questions = c.one_question.ensures in
    let once : AreOnce = record {
      tokens = tokens.tokens;
      byte = tokens.bytes;
      scanned = λ text all bad has byte. tokens.exclusive text bad all byte has;
      phrase = questions.tree;
      fault = λ text one other told known is also. questions.fault text one other (record { misread = is; no_memory = told }) (record { misread = also; no_memory = known });
      read = λ text one bad told is misread. questions.exclusive text one bad is (record { misread = misread; no_memory = told });
    } in
    record { rules = rules_once once; fault = fault_once once; exclusive = rules_or_fault once }
