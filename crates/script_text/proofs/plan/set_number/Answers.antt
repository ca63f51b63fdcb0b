-- The number is that of the setting.
use Rattle.std.proofs.Common.{sym, subst, ◌∙◌}
use Rattle.agent_scripts.specs.Table.{IsSetting}
use Rattle.script_text.proofs.StatedLemmas.{each_has_numbers, same_setting}
use Rattle.script_text.proofs.plan.set_number.Goals as goal

pub returns-then-is_same-clause-within : goal.returns-then-is_same-clause-within
returns-then-is_same-clause-within c =
    let numbers = each_has_numbers c.args.stated.now c.loop-s.s-index c.s-item.result c.requires.numbers c.loop-s-test.true c.s-item.is in
    let within = rw c.in-Set.is at numbers in
    subst (λ s. IsSetting s c.in-Set.number) (sym (same_setting c.args.setting c.in-Set.other (sym c.is_same.ensures ∙ c.if-is_same.true))) within
