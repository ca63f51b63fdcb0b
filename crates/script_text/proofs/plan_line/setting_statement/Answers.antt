-- A line with another rest has not the form.
use Rattle.std.proofs.Common.{◌≡◌, [], ◌∷◌, sym, subst, ◌∙◌}
use Rattle.std.specs.Fmt.{decimal}
use Rattle.std.proofs.lemmas.Bool.{true≢false}
use Rattle.agent_scripts.specs.Table.{IsSetting}
use Rattle.script_text.proofs.FormLemmas.{setting_form}
use Rattle.script_text.proofs.NumberLemmas.{one_number, setting_small}
use Rattle.script_text.proofs.plan_line.setting_statement.Goals as goal

pub returns-in_default : goal.returns-in_default
returns-in_default c = λ x form.
    let has = setting_form x c.args.setting _ form in
    c.in_default.ensures has.number (setting_small c.args.setting has.number has.has) has.fields_are

pub returns-then-not-allows_number : goal.returns-then-not-allows_number
returns-then-not-allows_number c = λ x form.
    let has = setting_form x c.args.setting _ form in
    let n = c.in-Some.number in
    let both : decimal has.number ∷ [] ≡ decimal n ∷ [] = sym has.fields_are ∙ c.in-Some.ensures in
    let words : decimal has.number ≡ decimal n = cc in
    let one : has.number ≡ n = one_number has.number n (setting_small c.args.setting has.number has.has) c.allows_number.ensures.number words in
    true≢false (sym (c.allows_number.ensures.exact.1 (subst (IsSetting c.args.setting) one has.has)) ∙ c.if-not-allows_number.true)
