-- A field spells one value.
use Rattle.std.proofs.Common.{◌≡◌, ℕ, List, [], ◌∷◌, ◌++◌, sym, ap, ◌∙◌, drop}
use Rattle.std.proofs.lemmas.Fmt.{decimal_injective}
use Rattle.bspl_types.specs.declared.value.Value.{Value}
use Rattle.bspl_types.specs.declared.value.Value.TheVariants.{Number, Text}
use Rattle.bspl_types.specs.ValueSpelling.{SpellsValue, value_spelling}
use Rattle.bspl_types.specs.inner.Spelling.{spelled_bytes, SpellsText}
use Rattle.bspl_types.specs.Value.{IsValue}
use Rattle.bspl_types.proofs.NumberLemmas.{no_text}
use Rattle.bspl_types.proofs.SpellingLemmas.{text_once}

-- a field that begins with a quote spells no number, nor a text if what follows spells none
pub no_value : (field after : List ℕ) → field ≡ 34 ∷ after → ((text : List ℕ) → ¬ SpellsText after text) → (v : Value) → ¬ SpellsValue field v
no_value field after quoted none (Number n) spells = no_text n after spells.value (sym spells.spelled ∙ quoted)
no_value field after quoted none (Text text) spells =
    none text (record { text = spells.value; spelled = ap (drop 1) (sym quoted ∙ spells.spelled) })

-- values of one spelling are one
pub one_value : (v w : Value) → IsValue v → IsValue w → value_spelling v ≡ value_spelling w → v ≡ w
one_value (Number m) (Number n) fits_m fits_n same = ap Number (decimal_injective m n fits_m fits_n same)
one_value (Text one) (Text other) is_text is_other same = ap Text (text_once one other (ap (drop 1) same))
one_value (Number m) (Text other) fits is_text same = absurd (no_text m (spelled_bytes other ++ 34 ∷ []) fits same)
one_value (Text one) (Number n) is_text fits same = absurd (no_text n (spelled_bytes one ++ 34 ∷ []) fits (sym same))
