-- The rows of the matches: one for each argument that was used.
use Rattle.std.proofs.Common.{◌≡◌, ◌++◌, ℕ, zero, suc, true, false, List, [], ◌∷◌, Option, Some, None, inl, inr, refl, ap, codes}
use Rattle.std.specs.List.{find}
use Rattle.std.specs.Str.{bytes_eq}
use Rattle.std.proofs.lemmas.Bool.{cases_Bool}
use Rattle.clap.specs.Walk.{Row, Text, has_row, with_values, without}
use Rattle.clap.specs.declared.builder.value_parser.Reading.TheVariants.{AsWritten}
use Rattle.clap.specs.declared.parser.matches.ValueSource.TheVariants.{CommandLine}
use Rattle.command_line.specs.ParsedArgs.{ParsedArgs, HasNoRepeats}

-- the row of an id with one value from the arguments
abbrev pub row : Text → Text → Row
row id value = record { id = id; values = value ∷ []; count = None; source = Some CommandLine; reading = AsWritten }

-- the row of an id
abbrev pub found : Text → List Row → Option Row
found id rows = find (λ r. bytes_eq r.id id) rows

-- the row of the first value
abbrev pub value_row : Text → List Text → Option Row
value_row id [] = None
value_row id (value ∷ values) = Some (row id value)

abbrev pub flag_row : ℕ → Option Row
flag_row zero = None
flag_row (suc n) = Some (row (codes "brief") (codes "true"))

abbrev pub rest_of : List Text → List Text
rest_of [] = []
rest_of (x ∷ xs) = xs

-- the rows hold what is parsed
pub record Rows (rows : List Row) (s : ParsedArgs) : Type 0 where
  pub brief : found (codes "brief") rows ≡ flag_row s.briefs
  pub conflicts : found (codes "conflicts") rows ≡ value_row (codes "conflicts") s.conflicts
  pub threads : found (codes "threads") rows ≡ value_row (codes "threads") s.threads
  pub command : found (codes "command") rows ≡ value_row (codes "command") s.positional
  pub name : found (codes "name") rows ≡ value_row (codes "name") (rest_of s.positional)
  pub lean : HasNoRepeats s

-- a row is there, or it is not
pub no_row : (id : Text) (rows : List Row) → found id rows ≡ None → has_row id rows ≡ false
no_row id [] none = refl
no_row id (r ∷ rows) none = elim (cases_Bool (bytes_eq r.id id)) [
  | inl hit ↦ absurd (let bad : Some r ≡ None = rw hit at none in cc)
  | inr miss ↦ rw miss (no_row id rows (rw miss at none))
]

pub none_found : (id : Text) (rows : List Row) → has_row id rows ≡ false → found id rows ≡ None
none_found id [] none = refl
none_found id (r ∷ rows) none = elim (cases_Bool (bytes_eq r.id id)) [
  | inl hit ↦ absurd (let bad : true ≡ false = rw hit at none in cc)
  | inr miss ↦ rw miss (none_found id rows (rw miss at none))
]

-- a new row stands after the others
pub new_row : (id value : Text) (rows : List Row) → has_row id rows ≡ false → with_values id AsWritten CommandLine (value ∷ []) (without id rows) ≡ rows ++ row id value ∷ []
new_row id value [] none = refl
new_row id value (r ∷ rows) none = elim (cases_Bool (bytes_eq r.id id)) [
  | inl hit ↦ absurd (let bad : true ≡ false = rw hit at none in cc)
  | inr miss ↦ rw (miss, miss) (ap (λ rs. r ∷ rs) (new_row id value rows (rw miss at none)))
]

pub found_new : (id : Text) (rows : List Row) (r : Row) → found id rows ≡ None → bytes_eq r.id id ≡ true → found id (rows ++ r ∷ []) ≡ Some r
found_new id [] r none hit = rw hit refl
found_new id (x ∷ rows) r none hit = elim (cases_Bool (bytes_eq x.id id)) [
  | inl here ↦ absurd (let bad : Some x ≡ None = rw here at none in cc)
  | inr miss ↦ rw miss (found_new id rows r (rw miss at none) hit)
]

pub found_other : (id : Text) (rows : List Row) (r : Row) → bytes_eq r.id id ≡ false → found id (rows ++ r ∷ []) ≡ found id rows
found_other id [] r other = rw other refl
found_other id (x ∷ rows) r other = elim (cases_Bool (bytes_eq x.id id)) [
  | inl here ↦ rw here refl
  | inr miss ↦ rw miss (found_other id rows r other)
]
