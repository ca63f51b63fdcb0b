-- What is said of names is the detail of their faults.
use Rattle.std.proofs.lemmas.Result.{on_ok_weaker}
use Rattle.answer_words.proofs.DetailLemmas.{named_added}
use Rattle.answer_words.proofs.detail.push_detail.Goals as goal

pub returns-in-NoProtocol : goal.returns-in-NoProtocol
returns-in-NoProtocol c =
    on_ok_weaker c.push_of_names.result (named_added c.args.input.now c.args.fault c.args.rejection.now c.args.text.now c.push_of_names.new.text c.in-NoProtocol.is) c.push_of_names.ensures
