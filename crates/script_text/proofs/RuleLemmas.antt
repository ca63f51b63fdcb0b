-- The fields of a rule begin with a value, which tells which kind it is of.
use Rattle.std.proofs.Common.{◌≡◌, ◌≢◌, ℕ, ◌<◌, List, [], ◌∷◌, sym, ◌∙◌}
use Rattle.std.specs.Prelude.{◌^◌}
use Rattle.std.specs.Fmt.{decimal}
use Rattle.bspl_types.specs.declared.value.Value.{Value}
use Rattle.bspl_types.specs.declared.value.Value.TheVariants.{Number, Text}
use Rattle.bspl_types.specs.ValueSpelling.{SpellsValue, ValuesAreSpelledOnce, value_spelling}
use Rattle.agent_scripts.specs.declared.statement.Rule.{Rule}
use Rattle.agent_scripts.specs.declared.statement.Rule.TheVariants.{Linear, Fixed}
use Rattle.agent_scripts.specs.Table.{IsRule, rule_fields}
use Rattle.text_lines.specs.Fields.{Field}

-- its value, and what follows
pub record BeginsRule (first : Field) (after : List Field) (factor : ℕ) (offset : ℕ) : Type 0 where
  pub spells : SpellsValue first (Number factor)
  pub small : offset < 2 ^ 64
  pub after_is : after ≡ decimal offset ∷ []

pub record IsTextRule (first : Field) (after : List Field) (text : List ℕ) : Type 0 where
  pub spells : SpellsValue first (Text text)
  pub after_is : after ≡ []

linear : (first : Field) (after : List Field) (a b : ℕ) → IsRule (Linear a b) → first ∷ after ≡ rule_fields (Linear a b) → BeginsRule first after a b
linear first after a b is same = record { spells = record { value = is.0; spelled = cc }; small = is.1; after_is = cc }

fixed : (first : Field) (after : List Field) (text : List ℕ) → IsRule (Fixed text) → first ∷ after ≡ rule_fields (Fixed text) → IsTextRule first after text
fixed first after text is same =
    let spelled : first ≡ value_spelling (Text text) = cc in
    record { spells = record { value = is; spelled = spelled }; after_is = cc }

-- a rule begins with a value
pub unread : (first : Field) (after : List Field) → ((v : Value) → ¬ SpellsValue first v) → (rule : Rule) → IsRule rule → first ∷ after ≢ rule_fields rule
unread first after none (Linear a b) is same = none (Number a) (linear first after a b is same).spells
unread first after none (Fixed text) is same = none (Text text) (fixed first after text is same).spells

-- after a number comes one other number
pub no_offset : ValuesAreSpelledOnce → (first : Field) (after : List Field) (n : ℕ) → SpellsValue first (Number n) → ((b : ℕ) → b < 2 ^ 64 → after ≢ decimal b ∷ []) → (rule : Rule) → IsRule rule → first ∷ after ≢ rule_fields rule
no_offset once first after n spells none (Linear a b) is same =
    let parts = linear first after a b is same in
    none b parts.small parts.after_is
no_offset once first after n spells none (Fixed text) is same =
    let other = (fixed first after text is same).spells in
    let one : Number n ≡ Text text = once (Number n) (Text text) spells.value other.value (sym spells.spelled ∙ other.spelled) in
    absurd (cc)

-- and after a text nothing
pub not_alone : ValuesAreSpelledOnce → (first : Field) (after : List Field) (text : List ℕ) → SpellsValue first (Text text) → (after ≡ [] → ⊥) → (rule : Rule) → IsRule rule → first ∷ after ≢ rule_fields rule
not_alone once first after text spells some (Linear a b) is same =
    let other = (linear first after a b is same).spells in
    let one : Text text ≡ Number a = once (Text text) (Number a) spells.value other.value (sym spells.spelled ∙ other.spelled) in
    absurd (cc)
not_alone once first after text spells some (Fixed other) is same = some (fixed first after other is same).after_is
