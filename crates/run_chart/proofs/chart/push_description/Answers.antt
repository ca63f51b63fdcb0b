-- The names stand between the words.
use Rattle.std.proofs.Common.{◌≡◌, [], ◌++◌, List, ℕ, OnOk, subst, ◌∙◌}
use Rattle.std.specs.List.{flat_map}
use Rattle.html.specs.Fragment.{fitted}
use Rattle.run_chart.proofs.WritingLemmas.{then_written}
use Rattle.run_chart.specs.declared.wording.TheConstants as wording
use Rattle.run_chart.specs.Frame.{described}
use Rattle.run_chart.proofs.chart.push_description.Goals as goal

pub returns : goal.returns
returns c =
    let old = c.args.text.now in
    let first = fitted wording.DESCRIPTION.now [] in
    let names = flat_map described c.args.x.now.roles in
    let last = fitted wording.DESCRIPTION_END.now [] in
    let two = (rw c.as_slice.ensures at c.in_ok-push_described.ensures) ∙ then_written old _ first names c.in_ok-fill.ensures in
    subst (λ (text : List ℕ). OnOk c.fill-2.result (c.fill-2.new.text ≡ text)) (then_written old _ (first ++ names) last two) c.fill-2.ensures
