-- The length of a name, or of a reserved word, at the start of some bytes.
use Rattle.std.specs.Prelude.{ℕ, ◌+◌, Bool, true, false, not, ◌==◌, ◌&&◌, ◌||◌, if◌then◌else◌, List}
use Rattle.std.specs.Prelude.{[], ◌∷◌, Option, Some, None}
use Rattle.std.specs.Char.{is_ascii_digit, is_ascii_alphanumeric}
use Rattle.std.specs.Option.{option_map_or}
use Rattle.bspl_types.specs.Name.{begins_name}
use Rattle.bspl_parser.specs.declared.name_length.State.{State}
use Rattle.bspl_parser.specs.declared.name_length.State.TheVariants.{Start, Plain, Dash, Hash}
use Rattle.bspl_parser.specs.declared.name_length.State.TheVariants.{Number}

-- a plain name may begin with the first byte
abbrev pub has_begin : List ℕ → Bool
has_begin [] = false
has_begin (b ∷ bs) = begins_name b

-- a plain name may go on with the byte
abbrev pub is_plain : ℕ → Bool
is_plain b = is_ascii_alphanumeric b || b == 95

-- a plain name may go on with the first byte
abbrev pub has_plain : List ℕ → Bool
has_plain [] = false
has_plain (b ∷ bs) = is_plain b

-- a name may go on with the bytes after a plain one
abbrev pub goes_on : List ℕ → Bool
goes_on [] = false
goes_on (b ∷ []) = b == 35
goes_on (b ∷ c ∷ bs) = if b == 45 then is_ascii_alphanumeric c else b == 35

-- the state after a byte that follows a letter, a digit or `_`
abbrev pub after_plain : ℕ → Option State
after_plain b =
    if is_plain b
    then Some Plain
    else (if b == 45 then Some Dash else (if b == 35 then Some Hash else None))

-- the state after a byte that follows a digit of a number
abbrev pub after_digit : ℕ → Option State
after_digit b = if is_ascii_digit b then Some Number else (if b == 46 then Some Start else None)

-- the state after a further byte
abbrev pub next_state : State → ℕ → Option State
next_state Start b = if begins_name b then Some Plain else None
next_state Plain b = after_plain b
next_state Dash b = if is_ascii_alphanumeric b then Some Plain else None
next_state Hash b = if is_ascii_digit b && not (b == 48) then Some Number else None
next_state Number b = after_digit b

-- a name may end there
abbrev pub is_final : State → Bool
is_final Start = false
is_final Plain = true
is_final Dash = false
is_final Hash = false
is_final Number = false

-- where the last name among the bytes ends, or the end that was found before them
abbrev pub last_end : State → ℕ → ℕ → List ℕ → ℕ
last_end state found offset [] = found
last_end state found offset (b ∷ bs) =
    option_map_or
    (λ next. last_end next (if is_final next then offset + 1 else found) (offset + 1) bs)
    (next_state state b) found

-- the length of the longest name that the bytes begin with, or 0
unfoldable pub name_len : List ℕ → ℕ
name_len bytes = last_end Start 0 0 bytes
