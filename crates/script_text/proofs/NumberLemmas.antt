-- What a field spells is one number, and no text.
use Rattle.std.proofs.Common.{◌≡◌, ℕ, ◌<◌, List, sym, ap, ◌∙◌, arith}
use Rattle.std.specs.Prelude.{◌^◌, ◌≢◌}
use Rattle.std.specs.Fmt.{decimal}
use Rattle.std.specs.Str.Parse.{digits_value}
use Rattle.std.proofs.lemmas.Fmt.{decimal_is_IsNumeral}
use Rattle.bspl_types.specs.declared.value.Value.TheVariants.{Number, Text}
use Rattle.bspl_types.specs.ValueSpelling.{SpellsValue, ValuesAreSpelledOnce}
use Rattle.agent_scripts.specs.declared.statement.Setting.{Setting}
use Rattle.agent_scripts.specs.declared.statement.Setting.TheVariants as settings
use Rattle.agent_scripts.specs.Table.{IsSetting}

-- no number is spelled by what spells a text
pub text_is_no_number : ValuesAreSpelledOnce → (field text : List ℕ) → SpellsValue field (Text text) → (n : ℕ) → n < 2 ^ 64 → field ≢ decimal n
text_is_no_number once field text spells n small is =
    let same : Text text ≡ Number n = once (Text text) (Number n) spells.value small (sym spells.spelled ∙ is) in
    absurd (cc)

-- numbers of one spelling are one
pub one_number : (m n : ℕ) → m < 2 ^ 64 → n < 2 ^ 64 → decimal m ≡ decimal n → m ≡ n
one_number m n small also same = sym (decimal_is_IsNumeral m small).1 ∙ ap (digits_value 10) same ∙ (decimal_is_IsNumeral n also).1

-- a setting has a number of 64 bits
pub setting_small : (s : Setting) (n : ℕ) → IsSetting s n → n < 2 ^ 64
setting_small settings.Keys n is = omega (arith, is.1)
setting_small settings.Seed n is = is
setting_small settings.Loss n is = omega arith
setting_small settings.Repeat n is = omega arith
