-- The caption and the heads are written one after another.
use Rattle.std.proofs.Common.{◌≡◌, ◌∷◌, [], ◌++◌, List}
use Rattle.std.specs.List.{flat_map}
use Rattle.std.proofs.lemmas.Result.{on_ok_weaker}
use Rattle.html.specs.Fragment.{Fragment, Tag, as_html}
use Rattle.page_sections.specs.WorldSection.{param_head}
use Rattle.page_sections.specs.declared.wording.TheConstants.{HEADS_END, VALUES_START}
use Rattle.page_sections.proofs.GroupLemmas.{then_written}
use Rattle.page_sections.proofs.world_values.push_heads.Goals as goal

pub returns : goal.returns
returns c =
    let old = c.args.text.now in
    let start : List Fragment = Tag VALUES_START.now ∷ [] in
    let heads = flat_map param_head c.args.x.now.params in
    let last : List Fragment = Tag HEADS_END.now ∷ [] in
    let wrote : c.push_params.new.text ≡ c.push_fragments.new.text ++ as_html heads = rw c.as_slice.ensures at c.in_ok-push_params.ensures in
    let two = then_written old c.push_fragments.new.text c.push_params.new.text start heads c.in_ok-push_fragments.ensures wrote in
    on_ok_weaker c.push_fragments-2.result (then_written old c.push_params.new.text c.push_fragments-2.new.text (start ++ heads) last two) c.push_fragments-2.ensures
