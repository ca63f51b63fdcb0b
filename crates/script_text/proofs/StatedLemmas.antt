-- What holds of each statement that was read.
use Rattle.std.proofs.Common.{◌≡◌, ◌<◌, ℕ, true, List, [], ◌∷◌, length, get_or, refl, sym, subst}
use Rattle.std.specs.List.{All, flat_map}
use Rattle.std.proofs.lemmas.Bool.{true≢false}
use Rattle.std.proofs.lemmas.List.Elements.{All-nil, All-cons, All-head, All-tail, All-append}
use Rattle.list_base.proofs.Mapped.{all_of_mapped}
use Rattle.agent_scripts.specs.declared.rules.ValueRule.{ValueRule}
use Rattle.agent_scripts.specs.declared.statement.Setting.{Setting}
use Rattle.agent_scripts.specs.declared.statement.Setting.TheVariants as settings
use Rattle.agent_scripts.specs.declared.statement.Stated.{Stated}
use Rattle.agent_scripts.specs.declared.statement.Statement.{Statement}
use Rattle.agent_scripts.specs.declared.statement.Statement.TheVariants.{Set, Key, Order, Decline, Bind}
use Rattle.agent_scripts.specs.StatedScript.{is_setting, rule_in}
use Rattle.agent_scripts.specs.Rules.{RuleFits, ValueFits}
use Rattle.agent_scripts.specs.ScriptText.{statements_of}
use Rattle.script_text.specs.Reading.{HasNumbers}

-- each has numbers of the table
pub each_has_numbers : (stated : List Stated) (i : ℕ) (s : Stated) → All HasNumbers (statements_of stated) → i < length stated → s ≡ get_or stated i s → HasNumbers s.statement
each_has_numbers stated i s all within is_item =
    subst (λ (t : Stated). HasNumbers t.statement) (sym is_item) (all_of_mapped HasNumbers (λ (t : Stated). t.statement) stated all i s within)

-- the test tells settings apart
pub same_setting : (s t : Setting) → is_setting s t ≡ true → s ≡ t
same_setting settings.Keys settings.Keys same = refl
same_setting settings.Keys settings.Seed same = absurd (true≢false (sym same))
same_setting settings.Keys settings.Loss same = absurd (true≢false (sym same))
same_setting settings.Keys settings.Repeat same = absurd (true≢false (sym same))
same_setting settings.Seed settings.Keys same = absurd (true≢false (sym same))
same_setting settings.Seed settings.Seed same = refl
same_setting settings.Seed settings.Loss same = absurd (true≢false (sym same))
same_setting settings.Seed settings.Repeat same = absurd (true≢false (sym same))
same_setting settings.Loss settings.Keys same = absurd (true≢false (sym same))
same_setting settings.Loss settings.Seed same = absurd (true≢false (sym same))
same_setting settings.Loss settings.Loss same = refl
same_setting settings.Loss settings.Repeat same = absurd (true≢false (sym same))
same_setting settings.Repeat settings.Keys same = absurd (true≢false (sym same))
same_setting settings.Repeat settings.Seed same = absurd (true≢false (sym same))
same_setting settings.Repeat settings.Loss same = absurd (true≢false (sym same))
same_setting settings.Repeat settings.Repeat same = refl

-- where values fit, so do those of their rules
rule_fits : (c : ℕ) (s : Statement) → ValueFits c s → All (λ (r : ValueRule). RuleFits c r.rule) (rule_in s)
rule_fits c (Bind m p rule) fits = All-cons (λ (r : ValueRule). RuleFits c r.rule) (record { message = m; param = p; rule = rule }) [] fits (All-nil (λ (r : ValueRule). RuleFits c r.rule))
rule_fits c (Set s n) fits = All-nil (λ (r : ValueRule). RuleFits c r.rule)
rule_fits c (Key k) fits = All-nil (λ (r : ValueRule). RuleFits c r.rule)
rule_fits c (Order r ms) fits = All-nil (λ (r : ValueRule). RuleFits c r.rule)
rule_fits c (Decline m e) fits = All-nil (λ (r : ValueRule). RuleFits c r.rule)

pub rules_fit : (c : ℕ) (stated : List Stated) → All (λ s. ValueFits c s.statement) stated → All (λ (r : ValueRule). RuleFits c r.rule) (flat_map rule_in (statements_of stated))
rules_fit c [] all = All-nil (λ (r : ValueRule). RuleFits c r.rule)
rules_fit c (s ∷ stated) all =
    All-append (λ (r : ValueRule). RuleFits c r.rule) (rule_in s.statement) (flat_map rule_in (statements_of stated))
    (rule_fits c s.statement (All-head (λ (t : Stated). ValueFits c t.statement) s stated all))
    (rules_fit c stated (All-tail (λ (t : Stated). ValueFits c t.statement) s stated all))
