-- The position, what is wrong, and the end, one after another.
use Rattle.std.proofs.Common.{◌∷◌, [], ◌++◌, List}
use Rattle.std.proofs.lemmas.Result.{on_ok_weaker}
use Rattle.html.specs.Fragment.{Fragment, Number, Tag, fitted}
use Rattle.page_sections.specs.RunWords.{why_words}
use Rattle.page_sections.specs.declared.wording.TheConstants.{ILLEGAL, SENTENCE_END}
use Rattle.page_sections.proofs.GroupLemmas.{then_written}
use Rattle.page_sections.proofs.run_words.push_illegal_words.Goals as goal

pub returns : goal.returns
returns c =
    let old = c.args.text.now in
    let start = fitted ILLEGAL.now (Number c.args.place ∷ []) in
    let why = why_words c.args.x.now c.args.why in
    let last : List Fragment = Tag SENTENCE_END.now ∷ [] in
    let two = then_written old c.fill.new.text c.push_why.new.text start why c.in_ok-fill.ensures c.in_ok-push_why.ensures in
    on_ok_weaker c.push_fragments.result (then_written old c.push_why.new.text c.push_fragments.new.text (start ++ why) last two) c.push_fragments.ensures
