-- No field has a space or an LF, so a line is split_once into the fields that it was joined of.
use Rattle.std.proofs.Common.{◌≡◌, ◌≢◌, ℕ, ◌<◌, ◌≤◌, Bool, true, false, cond, eqb, List, [], ◌∷◌, drop, map, All, Result, Ok, Err, codes, refl, sym, ap, ◌∙◌, arith}
use Rattle.std.specs.List.{flat_map, join_with_byte, slice_split, onto_first, AllByRecursion}
use Rattle.std.proofs.lemmas.Bool.{cond_both}
use Rattle.std.proofs.lemmas.List.Elements.{All-weaker, All-from_recursion, All-cons}
use Rattle.std.proofs.lemmas.List.Splits.{join_with_byte-slice_split}
use Rattle.refutation_log.specs.declared.line_error.LineError.{LineError}
use Rattle.refutation_log.specs.declared.line_error.LineError.TheVariants as errors
use Rattle.refutation_log.specs.declared.refutation.Link.{Link}
use Rattle.refutation_log.specs.declared.refutation.Chain.{Chain}
use Rattle.refutation_log.specs.declared.refutation.Entry.{Entry}
use Rattle.refutation_log.specs.declared.refutation.Entry.TheVariants.{Step, Drop}
use Rattle.refutation_log.specs.LogText.{link_fields, step_fields, drop_fields, entry_fields}
use Rattle.refutation_log.specs.NumberRange.{IsInRange, StepInRange}
use Rattle.list_base.specs.Numeral.{numeral}
use Rattle.refutation_log.specs.LineParts.{IsReading, IsReadingAmong}
use Rattle.list_base.proofs.Numerals.{has_digits}
use Rattle.list_base.proofs.Separators.{Lacks, parts-join}
use Rattle.refutation_log.proofs.Links.{chain_fields}

numeral_lacks : (c n : ℕ) → c < 48 → Lacks c (numeral n)
numeral_lacks c n small = All-weaker (λ byte. (48 ≤ byte) × (byte ≤ 57)) (λ byte. byte ≢ c) (λ byte digit e. omega (arith, digit.0)) (numeral n) (has_digits (numeral n) (n, refl))

pivot_lacks : (c var : ℕ) (positive : Bool) → c < 45 → Lacks c (cond positive (numeral var) (45 ∷ numeral var))
pivot_lacks c var true small = numeral_lacks c var (omega arith)
pivot_lacks c var false small = All-cons (λ byte. byte ≢ c) 45 (numeral var) (λ e. omega arith) (numeral_lacks c var (omega arith))

links_lack : (c : ℕ) (links : List Link) → c < 45 → AllByRecursion (Lacks c) (flat_map link_fields links)
links_lack c [] small = tt
links_lack c (link ∷ links) small =
    (pivot_lacks c link.pivot.var link.pivot.positive small, (numeral_lacks c link.clause (omega arith), links_lack c links small))

name_lacks : (c : ℕ) → c < 45 → Lacks c (codes "step")
name_lacks c small = All-from_recursion (λ byte. byte ≢ c) (codes "step") ((λ e. omega arith), ((λ e. omega arith), ((λ e. omega arith), ((λ e. omega arith), tt))))

pub step_lacks : (c : ℕ) (step : Chain) → c < 45 → AllByRecursion (Lacks c) (step_fields step)
step_lacks c step small = (name_lacks c small, (numeral_lacks c step.first (omega arith), links_lack c step.links small))

abbrev pub step_body : Chain → List ℕ
step_body step = join_with_byte 32 (step_fields step)

pub parts-step : (step : Chain) → slice_split (λ byte. eqb byte 32) (step_body step) ≡ step_fields step
parts-step step = parts-join 32 (codes "step") (chain_fields step) (step_lacks 32 step (omega arith))

-- the parts of a line are a step's fields where the line is the step's
pub fields_of_step : (line : List ℕ) (parts : List (List ℕ)) (step : Chain) → slice_split (λ byte. eqb byte 32) line ≡ parts → line ≡ step_body step → parts ≡ step_fields step
fields_of_step line parts step are e = sym are ∙ ap (slice_split (λ byte. eqb byte 32)) e ∙ parts-step step

pub step_of_fields : (line : List ℕ) (parts : List (List ℕ)) (step : Chain) → slice_split (λ byte. eqb byte 32) line ≡ parts → parts ≡ step_fields step → line ≡ step_body step
step_of_fields line parts step are e = sym (join_with_byte-slice_split 32 line) ∙ ap (join_with_byte 32) (are ∙ e)

-- what is read of a step's fields after its name is read of its line
pub step_read : (line : List ℕ) (rest : List (List ℕ)) (r : Result Chain LineError) → slice_split (λ byte. eqb byte 32) line ≡ codes "step" ∷ rest
    → IsReading chain_fields StepInRange rest r → IsReading step_body StepInRange line r
step_read line rest (Ok step) are read = (step_of_fields line (codes "step" ∷ rest) step are (ap (λ (xs : List (List ℕ)). codes "step" ∷ xs) read.0), read.1)
step_read line rest (Err errors.Form) are read = λ step e. read step (ap (drop 1) (fields_of_step line (codes "step" ∷ rest) step are e))
step_read line rest (Err errors.Number) are read =
    (read.0, step_of_fields line (codes "step" ∷ rest) read.0 are (ap (λ (xs : List (List ℕ)). codes "step" ∷ xs) read.1), read.2)
step_read line rest (Err errors.NoMemory) are read = tt

-- ---- removals and entries

drop_name_lacks : (c : ℕ) → c < 45 → Lacks c (codes "drop")
drop_name_lacks c small = All-from_recursion (λ byte. byte ≢ c) (codes "drop") ((λ e. omega arith), ((λ e. omega arith), ((λ e. omega arith), ((λ e. omega arith), tt))))

numbers_lack : (c : ℕ) (numbers : List ℕ) → c < 48 → AllByRecursion (Lacks c) (map numeral numbers)
numbers_lack c [] small = tt
numbers_lack c (number ∷ numbers) small = (numeral_lacks c number small, numbers_lack c numbers small)

pub entry_lacks : (c : ℕ) (entry : Entry) → c < 45 → AllByRecursion (Lacks c) (entry_fields entry)
entry_lacks c (Step step) small = step_lacks c step small
entry_lacks c (Drop numbers) small = (drop_name_lacks c small, numbers_lack c numbers (omega (arith, small)))

abbrev pub entry_body : Entry → List ℕ
entry_body entry = join_with_byte 32 (entry_fields entry)

abbrev pub drop_body : List ℕ → List ℕ
drop_body numbers = join_with_byte 32 (drop_fields numbers)

pub parts-entry : (entry : Entry) → slice_split (λ byte. eqb byte 32) (entry_body entry) ≡ entry_fields entry
parts-entry (Step step) = parts-step step
parts-entry (Drop numbers) = parts-join 32 (codes "drop") (map numeral numbers) (entry_lacks 32 (Drop numbers) (omega arith))

-- the parts of a line are a removal's fields where the line is the removal's
pub fields_of_drop : (line : List ℕ) (parts : List (List ℕ)) (numbers : List ℕ) → slice_split (λ byte. eqb byte 32) line ≡ parts → line ≡ drop_body numbers → parts ≡ drop_fields numbers
fields_of_drop line parts numbers are e = sym are ∙ ap (slice_split (λ byte. eqb byte 32)) e ∙ parts-entry (Drop numbers)

drop_of_fields : (line : List ℕ) (parts : List (List ℕ)) (numbers : List ℕ) → slice_split (λ byte. eqb byte 32) line ≡ parts → parts ≡ drop_fields numbers → line ≡ drop_body numbers
drop_of_fields line parts numbers are e = sym (join_with_byte-slice_split 32 line) ∙ ap (join_with_byte 32) (are ∙ e)

abbrev pub NamesSome : List ℕ → Type 0
NamesSome numbers = numbers ≢ []

-- there is a part between separators
pub some_parts : (c : ℕ) (bytes : List ℕ) → slice_split (λ byte. eqb byte c) bytes ≢ []
some_parts c [] e = absurd (cc)
some_parts c (x ∷ xs) e = absurd (cond_both (eqb x c) _ _ (λ (parts : List (List ℕ)). parts ≢ []) (λ _ none. absurd (cc)) (λ _. put (slice_split (λ byte. eqb byte c) xs)) e)
  where
    put : (parts : List (List ℕ)) → onto_first x parts ≢ []
    put [] none = absurd (cc)
    put (part ∷ parts) none = absurd (cc)

some_numbers : (rest : List (List ℕ)) (numbers : List ℕ) → rest ≢ [] → rest ≡ map numeral numbers → numbers ≢ []
some_numbers rest numbers some are none = some (are ∙ ap (map numeral) none)

-- what is read of the numbers after the name is read of the line
pub drop_read : (line : List ℕ) (rest : List (List ℕ)) (r : Result (List ℕ) LineError) → rest ≢ [] → slice_split (λ byte. eqb byte 32) line ≡ codes "drop" ∷ rest
    → IsReading (map numeral) (All IsInRange) rest r → IsReadingAmong NamesSome drop_body (All IsInRange) line r
drop_read line rest (Ok numbers) some are read =
    (some_numbers rest numbers some read.0, drop_of_fields line (codes "drop" ∷ rest) numbers are (ap (λ (xs : List (List ℕ)). codes "drop" ∷ xs) read.0), read.1)
drop_read line rest (Err errors.Form) some are read = λ numbers named e. read numbers (ap (drop 1) (fields_of_drop line (codes "drop" ∷ rest) numbers are e))
drop_read line rest (Err errors.Number) some are read =
    (read.0, some_numbers rest read.0 some read.1, drop_of_fields line (codes "drop" ∷ rest) read.0 are (ap (λ (xs : List (List ℕ)). codes "drop" ∷ xs) read.1), read.2)
drop_read line rest (Err errors.NoMemory) some are read = tt

-- a line of another name is no removal, nor is one that is a name alone
pub no_drop : (line name : List ℕ) (rest : List (List ℕ)) → slice_split (λ byte. eqb byte 32) line ≡ name ∷ rest → name ≢ codes "drop" → (numbers : List ℕ) → line ≢ drop_body numbers
no_drop line name rest are other numbers e = let same : name ∷ rest ≡ codes "drop" ∷ map numeral numbers = fields_of_drop line (name ∷ rest) numbers are e in other (cc)

pub no_number : (line name : List ℕ) → slice_split (λ byte. eqb byte 32) line ≡ name ∷ [] → (numbers : List ℕ) → numbers ≢ [] → line ≢ drop_body numbers
no_number line name are [] some e = some refl
no_number line name are (number ∷ numbers) some e =
    let same : name ∷ [] ≡ codes "drop" ∷ numeral number ∷ map numeral numbers = fields_of_drop line (name ∷ []) (number ∷ numbers) are e in absurd (cc)
