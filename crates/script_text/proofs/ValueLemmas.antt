-- Fields that spell values, one after the other.
use Rattle.std.proofs.Common.{◌≡◌, ◌≢◌, ℕ, ◌<◌, List, [], ◌∷◌, ◌++◌, length, map, drop, ap, arith, length-append}
use Rattle.std.specs.List.{All}
use Rattle.std.proofs.lemmas.List.{length-map}
use Rattle.std.proofs.lemmas.List.Elements.{All-head, All-tail}
use Rattle.bspl_types.specs.declared.value.Value.{Value}
use Rattle.bspl_types.specs.Value.{IsValue}
use Rattle.bspl_types.specs.ValueSpelling.{SpellsValue, value_spelling}

-- the first of the fields spells a value
pub record SpellsFirst (fields : List (List ℕ)) : Type 0 where
  pub value : Value
  pub others : List (List ℕ)
  pub is_value : IsValue value
  pub fields_are : fields ≡ value_spelling value ∷ others

-- after fewer values than all comes one more
pub next_value : (done values : List Value) (fields : List (List ℕ)) → All IsValue values → length done < length values → map value_spelling done ++ fields ≡ map value_spelling values → SpellsFirst fields
next_value done [] fields good fewer whole = absurd (omega arith)
next_value [] (v ∷ values) fields good fewer whole = record {
  value = v;
  others = map value_spelling values;
  is_value = All-head IsValue v values good;
  fields_are = whole;
}
next_value (d ∷ done) (v ∷ values) fields good fewer whole = next_value done values fields (All-tail IsValue v values good) (omega arith) (ap (drop 1) whole)

-- what spells no value, or no field, is not first
pub no_next_value : (field : List ℕ) (after : List (List ℕ)) → ((v : Value) → ¬ SpellsValue field v) → ¬ SpellsFirst (field ∷ after)
no_next_value field after none = λ next.
    let same : field ≡ value_spelling next.value = let is : field ∷ after ≡ value_spelling next.value ∷ next.others = next.fields_are in cc in
    none next.value (record { value = next.is_value; spelled = same })

pub no_next_field : ¬ SpellsFirst []
no_next_field = λ next. let is : [] ≡ value_spelling next.value ∷ next.others = next.fields_are in absurd (cc)

-- after all values comes nothing
pub no_more : (done values : List Value) (field : List ℕ) (after : List (List ℕ)) → length done ≡ length values → map value_spelling done ++ field ∷ after ≢ map value_spelling values
no_more done values field after all = λ whole.
    let long : length (map value_spelling done ++ field ∷ after) ≡ length (map value_spelling values) = ap length whole in
    absurd (omega (arith, length-append (map value_spelling done) (field ∷ after), length-map done value_spelling, length-map values value_spelling))
