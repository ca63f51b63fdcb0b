-- The heads, the rows and the end are the table.
use Rattle.std.proofs.Common.{◌≡◌, ◌++◌, [], List, ℕ, OnOk, subst, ◌∙◌}
use Rattle.std.specs.List.{enumerate_from, flat_map}
use Rattle.html.specs.declared.wording.TheConstants as wording
use Rattle.html.specs.Fragment.{fitted}
use Rattle.html.specs.Tables.{source_head, source_row}
use Rattle.html.proofs.WritingLemmas.{then_written}
use Rattle.html.proofs.sources.push_sources.Goals as goal

pub returns : goal.returns
returns c =
    let old = c.args.text.now in
    let x = c.args.x.now in
    let first = source_head x in
    let middle = flat_map (source_row x c.args.dead.now) (enumerate_from 0 x.params) in
    let last = fitted wording.TABLE_END.now [] in
    let two = (rw c.as_slice.ensures at c.in_ok-push_rows.ensures) ∙ then_written old _ first middle c.in_ok-push_head.ensures in
    subst (λ (text : List ℕ). OnOk c.fill.result (c.fill.new.text ≡ text)) (then_written old _ (first ++ middle) last two) c.fill.ensures
