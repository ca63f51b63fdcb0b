-- The fields of a body give back the entry whose body it is.
use Rattle.std.proofs.Common.{◌≡◌, ℕ, zero, suc, ◌-◌, ◌*◌, min, List, [], ◌∷◌, ◌++◌, length, take, drop, replicate, refl, sym, ap, ◌∙◌, arith, All, append_assoc, length-append}
use Rattle.std.specs.List.{flat_map}
use Rattle.std.proofs.lemmas.List.{drop_at, length-replicate, take_at}
use Rattle.std.proofs.lemmas.Nat.{from_le_bytes-to_le_bytes_8}
use Rattle.bspl_types.specs.declared.value.Value.{Value}
use Rattle.bspl_types.specs.declared.value.Value.TheVariants.{Number, Text}
use Rattle.bspl_types.specs.Value.{IsValue}
use Rattle.role_journal.specs.EntryBody.{value_body}
use Rattle.role_journal.specs.inner.Reading.{value_in, values_in}

-- a field has 34 bytes
pub length-value_body : (v : Value) → IsValue v → length (value_body v) ≡ 34
length-value_body (Number n) good = refl
length-value_body (Text bytes) good =
    let zeros : length (replicate {A = ℕ} (32 - length bytes) 0) ≡ 32 - length bytes = length-replicate (32 - length bytes) 0 in
    omega (arith, length-append bytes (replicate (32 - length bytes) 0), zeros, good.few)

-- and its value is read again
pub value_again : (v : Value) → IsValue v → value_in (value_body v) ≡ v
value_again (Number n) good = ap (λ (m : ℕ). let made : Value = Number m in made) (from_le_bytes-to_le_bytes_8 n good)
value_again (Text bytes) good =
    let few : min (length bytes) 32 ≡ length bytes = omega (arith, good.few) in
    ap (λ (text : List ℕ). let made : Value = Text text in made) (ap (λ (k : ℕ). take k (bytes ++ replicate (32 - length bytes) 0)) few ∙ take_at bytes (replicate (32 - length bytes) 0) (length bytes) refl)

-- each value is one
first_good : (v : Value) (vs : List Value) → All IsValue (v ∷ vs) → IsValue v
first_good v vs good = good 0 v (omega arith)

rest_good : (v : Value) (vs : List Value) → All IsValue (v ∷ vs) → All IsValue vs
rest_good v vs good = λ k d within. good (suc k) d (omega arith)

-- the fields of several values
pub length-fields : (vs : List Value) → All IsValue vs → length (flat_map value_body vs) ≡ 34 * length vs
length-fields [] good = refl
length-fields (v ∷ vs) good = omega (arith, length-append (value_body v) (flat_map value_body vs), length-value_body v (first_good v vs good), length-fields vs (rest_good v vs good))

-- so are the values of several fields
pub values_again : (vs : List Value) (rest : List ℕ) → All IsValue vs → values_in (length vs) (flat_map value_body vs ++ rest) ≡ vs
values_again [] rest good = refl
values_again (v ∷ vs) rest good =
    let is = first_good v vs good in
    let whole : (value_body v ++ flat_map value_body vs) ++ rest ≡ value_body v ++ (flat_map value_body vs ++ rest) = append_assoc (value_body v) (flat_map value_body vs) rest in
    let size = length-value_body v is in
    let first : value_in (take 34 ((value_body v ++ flat_map value_body vs) ++ rest)) ≡ v =
    ap (λ (l : List ℕ). value_in (take 34 l)) whole ∙ ap value_in (take_at (value_body v) (flat_map value_body vs ++ rest) 34 size) ∙ value_again v is in
    let others : values_in (length vs) (drop 34 ((value_body v ++ flat_map value_body vs) ++ rest)) ≡ vs =
    ap (λ (l : List ℕ). values_in (length vs) (drop 34 l)) whole ∙ ap (values_in (length vs)) (drop_at (value_body v) (flat_map value_body vs ++ rest) 34 size) ∙ values_again vs rest (rest_good v vs good) in
    cc

-- one value more of the fields that are left
pub values_step : (values : List Value) (k n : ℕ) (fields field rest : List ℕ) (v : Value) → k ≡ suc n → field ≡ take 34 fields → rest ≡ drop 34 fields → v ≡ value_in field → (values ++ v ∷ []) ++ values_in n rest ≡ values ++ values_in k fields
values_step values k n fields field rest v counts front back is =
    append_assoc values (v ∷ []) (values_in n rest)
    ∙ ap (λ (w : Value). values ++ w ∷ values_in n rest) (is ∙ ap value_in front)
    ∙ ap (λ (r : List ℕ). values ++ value_in (take 34 fields) ∷ values_in n r) back
    ∙ ap (λ (j : ℕ). values ++ values_in j fields) (sym counts)

-- as many values as fields
pub length-values_in : (count : ℕ) (fields : List ℕ) → length (values_in count fields) ≡ count
length-values_in zero fields = refl
length-values_in (suc count) fields = ap (λ (n : ℕ). suc n) (length-values_in count (drop 34 fields))
