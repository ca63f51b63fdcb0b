-- What spells no value, or a text, spells no number.
use Rattle.bspl_types.specs.declared.value.Value.TheVariants.{Number}
use Rattle.script_text.proofs.NumberLemmas.{text_is_no_number}
use Rattle.script_text.proofs.numbers.number_of.Goals as goal

pub returns-in-None : goal.returns-in-None
returns-in-None c = λ n small is. c.in-None.ensures (Number n) (record { value = small; spelled = is })

pub returns-in-Some-Text : goal.returns-in-Some-Text
returns-in-Some-Text c =
    let spells = rw c.in-Some-Text.field-0-is at c.in-Some-Text.ensures in
    text_is_no_number c.spells_once.ensures c.args.field.now c.in-Some-Text.field-0-0 spells
