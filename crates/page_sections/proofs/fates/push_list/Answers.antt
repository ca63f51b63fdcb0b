-- The heading, the items and the end, one after another.
use Rattle.std.proofs.Common.{◌∷◌, [], ◌++◌, List}
use Rattle.std.specs.List.{enumerate_from, flat_map}
use Rattle.std.proofs.lemmas.Result.{on_ok_weaker}
use Rattle.html.specs.Fragment.{Fragment, Tag}
use Rattle.page_sections.specs.Fates.{fate_item}
use Rattle.page_sections.specs.declared.wording.TheConstants.{DEAD_END, DEAD_START}
use Rattle.page_sections.proofs.GroupLemmas.{then_written}
use Rattle.page_sections.proofs.fates.push_list.Goals as goal

pub returns : goal.returns
returns c =
    let old = c.args.text.now in
    let start : List Fragment = Tag DEAD_START.now ∷ [] in
    let items = flat_map (fate_item c.args.x.now) (enumerate_from 0 c.args.fates.now) in
    let last : List Fragment = Tag DEAD_END.now ∷ [] in
    let two = then_written old c.push_fragments.new.text c.push_items.new.text start items c.in_ok-push_fragments.ensures c.in_ok-push_items.ensures in
    on_ok_weaker c.push_fragments-2.result (then_written old c.push_items.new.text c.push_fragments-2.new.text (start ++ items) last two) c.push_fragments-2.ensures
