-- The names, the parameters and the end are the row.
use Rattle.std.proofs.Common.{◌≡◌, ◌++◌, [], ◌∷◌, List, ℕ, OnOk, subst, ◌∙◌}
use Rattle.std.specs.List.{flat_map}
use Rattle.html.specs.declared.wording.TheConstants as wording
use Rattle.html.specs.Fragment.{Words, fitted}
use Rattle.html.specs.Tables.{param_item, role_words}
use Rattle.html.proofs.WritingLemmas.{then_written}
use Rattle.html.proofs.messages.push_row.Goals as goal

pub returns : goal.returns
returns c =
    let old = c.args.text.now in
    let x = c.args.x.now in
    let first = fitted wording.MESSAGE.now (Words c.args.message.now.name ∷ role_words x c.args.message.now.sender ∷ role_words x c.args.message.now.receiver ∷ []) in
    let middle = flat_map (param_item x) c.args.message.now.carried in
    let last = fitted wording.MESSAGE_END.now [] in
    let two = (rw c.as_slice-2.ensures at c.in_ok-push_params.ensures) ∙ then_written old _ first middle (rw (c.as_slice.ensures, c.role_name.ensures, c.role_name-2.ensures) at c.in_ok-fill.ensures) in
    subst (λ (text : List ℕ). OnOk c.fill-2.result (c.fill-2.new.text ≡ text)) (then_written old _ (first ++ middle) last two) c.fill-2.ensures
