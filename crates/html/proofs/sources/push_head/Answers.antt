-- The caption and the heads are written one after another.
use Rattle.std.proofs.Common.{◌≡◌, ◌++◌, [], List, ℕ, OnOk, subst, ◌∙◌}
use Rattle.std.specs.List.{flat_map}
use Rattle.html.specs.declared.wording.TheConstants as wording
use Rattle.html.specs.Fragment.{fitted}
use Rattle.html.specs.Tables.{role_head}
use Rattle.html.proofs.WritingLemmas.{then_written}
use Rattle.html.proofs.sources.push_head.Goals as goal

pub returns : goal.returns
returns c =
    let old = c.args.text.now in
    let x = c.args.x.now in
    let first = fitted wording.KNOWLEDGE.now [] in
    let middle = flat_map role_head x.roles in
    let last = fitted wording.HEADS_END.now [] in
    let two = (rw c.as_slice.ensures at c.in_ok-push_roles.ensures) ∙ then_written old _ first middle c.in_ok-fill.ensures in
    subst (λ (text : List ℕ). OnOk c.fill-2.result (c.fill-2.new.text ≡ text)) (then_written old _ (first ++ middle) last two) c.fill-2.ensures
