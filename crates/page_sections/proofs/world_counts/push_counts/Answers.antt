-- The heads, the rows and the end are the table.
use Rattle.std.proofs.Common.{◌≡◌, ◌∷◌, [], ◌++◌, List}
use Rattle.std.specs.List.{enumerate_from, flat_map}
use Rattle.std.proofs.lemmas.Result.{on_ok_weaker}
use Rattle.html.specs.Fragment.{Fragment, Tag, as_html}
use Rattle.html.specs.declared.wording.TheConstants.{TABLE_END}
use Rattle.page_sections.specs.WorldSection.{count_item}
use Rattle.page_sections.specs.declared.wording.TheConstants.{COUNTS_START}
use Rattle.page_sections.proofs.GroupLemmas.{then_written}
use Rattle.page_sections.proofs.world_counts.push_counts.Goals as goal

pub returns : goal.returns
returns c = on_ok_weaker c.push_fragments-2.result
    (λ ends run are.
    let old = c.args.text.now in
    let start : List Fragment = Tag COUNTS_START.now ∷ [] in
    let rows = flat_map (count_item run) (enumerate_from 0 c.args.x.now.messages) in
    let last : List Fragment = Tag TABLE_END.now ∷ [] in
    let wrote : c.push_rows.new.text ≡ c.push_fragments.new.text ++ as_html rows = (rw c.as_slice.ensures at c.in_ok-push_rows.ensures) run are in
    let two = then_written old c.push_fragments.new.text c.push_rows.new.text start rows c.in_ok-push_fragments.ensures wrote in
    then_written old c.push_rows.new.text c.push_fragments-2.new.text (start ++ rows) last two ends)
    c.push_fragments-2.ensures
