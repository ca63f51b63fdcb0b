-- The heads, the rows and the end are the table.
use Rattle.std.proofs.Common.{◌≡◌, ◌++◌, [], List, ℕ, OnOk, subst, ◌∙◌}
use Rattle.std.specs.List.{flat_map}
use Rattle.html.specs.declared.wording.TheConstants as wording
use Rattle.html.specs.Fragment.{fitted}
use Rattle.html.specs.Tables.{message_row}
use Rattle.html.proofs.WritingLemmas.{then_written}
use Rattle.html.proofs.messages.push_messages.Goals as goal

pub returns : goal.returns
returns c =
    let old = c.args.text.now in
    let x = c.args.x.now in
    let first = fitted wording.MESSAGES.now [] in
    let middle = flat_map (message_row x) x.messages in
    let last = fitted wording.TABLE_END.now [] in
    let two = (rw c.as_slice.ensures at c.in_ok-push_rows.ensures) ∙ then_written old _ first middle c.in_ok-fill.ensures in
    subst (λ (text : List ℕ). OnOk c.fill-2.result (c.fill-2.new.text ≡ text)) (then_written old _ (first ++ middle) last two) c.fill-2.ensures
