-- The dead messages, both tables, and the end.
use Rattle.std.proofs.Common.{◌∷◌, [], ◌++◌, List, map}
use Rattle.std.proofs.lemmas.Result.{on_ok_weaker}
use Rattle.html.specs.Fragment.{Fragment, Tag}
use Rattle.html.specs.Tables.{message_table, source_table}
use Rattle.page_sections.specs.Fates.{fates_section, is_never_sent}
use Rattle.page_sections.specs.declared.wording.TheConstants.{PAGE_END}
use Rattle.page_sections.proofs.GroupLemmas.{then_written}
use Rattle.page_sections.proofs.page.push_tables.Goals as goal

pub returns : goal.returns
returns c =
    let old = c.args.text.now in
    let x = c.args.x.now in
    let dead = fates_section x c.args.fates.now in
    let messages = message_table x in
    let sources = source_table x (map is_never_sent c.args.fates.now) in
    let last : List Fragment = Tag PAGE_END.now ∷ [] in
    let two = then_written old c.push_fates.new.text c.push_messages.new.text dead messages c.in_ok-push_fates.ensures c.in_ok-push_messages.ensures in
    let three = then_written old c.push_messages.new.text c.push_sources.new.text (dead ++ messages) sources two (rw (c.as_slice.ensures, c.in_ok-dead.ensures) at c.in_ok-push_sources.ensures) in
    on_ok_weaker c.push_fragments.result (then_written old c.push_sources.new.text c.push_fragments.new.text (dead ++ messages ++ sources) last three) c.push_fragments.ensures
