-- What a name is: a plain name, and any number of groups of `#`, a number, `.` and a plain name.
use Rattle.std.specs.Prelude.{ℕ, Bool, true, false, not, ◌==◌, ◌&&◌, ◌||◌, List, [], ◌∷◌, codes}
use Rattle.std.specs.Char.{is_ascii_digit, is_ascii_alphabetic, is_ascii_alphanumeric}
use Rattle.std.specs.List.{list_any, list_all, before_first, after_first, slice_split}
use Rattle.std.specs.Str.{bytes_eq}

-- an ASCII letter or `_`
abbrev pub begins_name : ℕ → Bool
begins_name b = is_ascii_alphabetic b || b == 95

-- a letter, a digit or `_`, or a `-` that a letter or a digit follows at once
abbrev pub goes_on : ℕ → List ℕ → Bool
goes_on b [] = is_ascii_alphanumeric b || b == 95
goes_on b (next ∷ rest) =
    (is_ascii_alphanumeric b || b == 95) || (b == 45 && is_ascii_alphanumeric next)

-- each byte goes on
abbrev pub is_name_rest : List ℕ → Bool
is_name_rest [] = true
is_name_rest (b ∷ rest) = goes_on b rest && is_name_rest rest

-- begins as a name and goes on as one
abbrev pub is_plain_name : List ℕ → Bool
is_plain_name [] = false
is_plain_name (b ∷ rest) = begins_name b && is_name_rest rest

-- digits, the first of them not 0
abbrev pub is_positive_number : List ℕ → Bool
is_positive_number [] = false
is_positive_number (d ∷ digits) =
    (is_ascii_digit d && not (d == 48)) && list_all is_ascii_digit digits

-- a number, `.` and a plain name
abbrev pub is_group : List ℕ → Bool
is_group text =
    is_positive_number (before_first (λ b. b == 46) text) &&
    is_plain_name (after_first (λ b. b == 46) text)

-- a plain name, and groups after it
abbrev pub is_grouped : List (List ℕ) → Bool
is_grouped [] = false
is_grouped (plain ∷ groups) = is_plain_name plain && list_all is_group groups

-- the words that are tokens of their own
abbrev pub reserved_words : List (List ℕ)
reserved_words =
    codes "roles" ∷ codes "role" ∷ codes "parameters" ∷ codes "parameter" ∷ codes "private" ∷
    codes "in" ∷ codes "out" ∷ codes "nil" ∷ codes "any" ∷ codes "opt" ∷ codes "key" ∷ []

-- one of these words as a whole
abbrev pub is_reserved : List ℕ → Bool
is_reserved text = list_any (bytes_eq text) reserved_words

-- a name: its pieces round `#` are a plain name and groups, and it is no reserved word
unfoldable pub is_name : List ℕ → Bool
is_name text = is_grouped (slice_split (λ b. b == 35) text) && not (is_reserved text)
