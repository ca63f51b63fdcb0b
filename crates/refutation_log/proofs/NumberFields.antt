-- The fields of numbers, read one by one.
use Rattle.std.proofs.Common.{◌≡◌, ◌≢◌, ℕ, Bool, true, false, List, [], ◌∷◌, ◌++◌, length, drop, map, All, Ok, Err, refl, sym, ap, subst, ◌∙◌, arith}
use Rattle.std.proofs.lemmas.List.{append_assoc, append-nil, map-append, get_or_append_left, get_or_push, length_push}
use Rattle.std.proofs.lemmas.List.Elements.{All-nil, All-push}
use Rattle.refutation_log.specs.declared.line_error.LineError.{LineError}
use Rattle.refutation_log.specs.declared.line_error.LineError.TheVariants as errors
use Rattle.refutation_log.specs.NumberRange.{IsInRange}
use Rattle.list_base.specs.Numeral.{numeral}
use Rattle.refutation_log.specs.LineParts.{IsReading}

-- some numbers were read, and this is left; they are kept while all are in range
pub record NumbersRead (all rest : List (List ℕ)) (numbers : List ℕ) (in_range : Bool) : Type 0 where
  pub read : List ℕ
  pub whole : all ≡ map numeral read ++ rest
  pub good : in_range ≡ true → (read ≡ numbers) × All IsInRange read
  pub bad : in_range ≡ false → All IsInRange read → ⊥

pub no_number_read : (all : List (List ℕ)) → NumbersRead all all [] true
no_number_read all = record { read = []; whole = refl; good = λ _. (refl, All-nil IsInRange); bad = λ e. absurd (cc) }

-- what is left after numbers is the fields of the numbers after them
rest_is_numbers : (read numbers : List ℕ) (rest : List (List ℕ)) → map numeral read ++ rest ≡ map numeral numbers → (more : List ℕ) × (rest ≡ map numeral more)
rest_is_numbers [] numbers rest e = (numbers, e)
rest_is_numbers (number ∷ read) [] rest e = absurd (cc)
rest_is_numbers (number ∷ read) (other ∷ numbers) rest e = rest_is_numbers read numbers rest (ap (drop 1) e)

one_more : (read : List ℕ) (number : ℕ) (field : List ℕ) (rest : List (List ℕ)) → field ≡ numeral number → map numeral read ++ field ∷ rest ≡ map numeral (read ++ number ∷ []) ++ rest
one_more read number field rest e =
    ap (λ (f : List ℕ). map numeral read ++ f ∷ rest) e ∙ sym (append_assoc (map numeral read) (numeral number ∷ []) rest)
    ∙ ap (λ (xs : List (List ℕ)). xs ++ rest) (sym (map-append numeral read (number ∷ [])))

All-front : (read : List ℕ) (number : ℕ) → All IsInRange (read ++ number ∷ []) → All IsInRange read
All-front read number good = λ k d short. subst IsInRange (get_or_append_left read (number ∷ []) d k short) (good k d (omega (arith, short, length_push read number)))

All-last : (read : List ℕ) (number : ℕ) → All IsInRange (read ++ number ∷ []) → IsInRange number
All-last read number good = subst IsInRange (get_or_push read number number (length read) refl) (good (length read) number (omega (arith, length_push read number)))

pub number_read : (all rest : List (List ℕ)) (numbers : List ℕ) (in_range : Bool) (field : List ℕ) (number : ℕ)
    → NumbersRead all (field ∷ rest) numbers in_range → IsReading numeral IsInRange field (Ok number) → NumbersRead all rest (numbers ++ number ∷ []) in_range
number_read all rest numbers in_range field number so_far read = record {
  read = so_far.read ++ number ∷ [];
  whole = so_far.whole ∙ one_more so_far.read number field rest read.0;
  good = λ t. let g = so_far.good t in (ap (λ (xs : List ℕ). xs ++ number ∷ []) g.0, All-push IsInRange so_far.read number g.1 read.1);
  bad = λ f good. so_far.bad f (All-front so_far.read number good);
}

pub bad_number_read : (all rest : List (List ℕ)) (numbers : List ℕ) (in_range : Bool) (field : List ℕ)
    → NumbersRead all (field ∷ rest) numbers in_range → IsReading numeral IsInRange field (Err errors.Number) → NumbersRead all rest numbers false
bad_number_read all rest numbers in_range field so_far read = record {
  read = so_far.read ++ read.0 ∷ [];
  whole = so_far.whole ∙ one_more so_far.read read.0 field rest read.1;
  good = λ t. absurd (cc);
  bad = λ _ good. read.2 (All-last so_far.read read.0 good);
}

none_begins : (field : List ℕ) (rest : List (List ℕ)) → ((number : ℕ) → field ≡ numeral number → ⊥) → (more : List ℕ) → field ∷ rest ≡ map numeral more → ⊥
none_begins field rest other [] e = absurd (cc)
none_begins field rest other (number ∷ more) e = other number (cc)

pub no_field : (all rest : List (List ℕ)) (numbers : List ℕ) (in_range : Bool) (field : List ℕ) (error : LineError) → NumbersRead all (field ∷ rest) numbers in_range
    → error ≢ errors.Number → IsReading numeral IsInRange field (Err error) → IsReading (map numeral) (All IsInRange) all (Err error)
no_field all rest numbers in_range field errors.Form so_far other read = λ others e.
    let more = rest_is_numbers so_far.read others (field ∷ rest) (sym so_far.whole ∙ e) in
    none_begins field rest read more.0 more.1
no_field all rest numbers in_range field errors.Number so_far other read = absurd (other refl)
no_field all rest numbers in_range field errors.NoMemory so_far other read = tt

pub all_numbers_read : (all : List (List ℕ)) (numbers : List ℕ) → NumbersRead all [] numbers true → IsReading (map numeral) (All IsInRange) all (Ok numbers)
all_numbers_read all numbers so_far =
    let good = so_far.good refl in
    (so_far.whole ∙ append-nil _ ∙ ap (map numeral) good.0, subst (All IsInRange) good.0 good.1)

pub numbers_read_badly : (all : List (List ℕ)) (numbers : List ℕ) → NumbersRead all [] numbers false → IsReading (map numeral) (All IsInRange) all (Err errors.Number)
numbers_read_badly all numbers so_far = (so_far.read, so_far.whole ∙ append-nil _, so_far.bad refl)
