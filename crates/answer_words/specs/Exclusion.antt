-- Lines of a part that leave no room for another one.
use Rattle.std.specs.Prelude.{ℕ, ◌+◌, Bool, nat_lt, ◌&&◌, ◌||◌, cond, if◌then◌else◌}
use Rattle.std.specs.Prelude.{List, [], ◌∷◌, codes, take, Option, None, Some}
use Rattle.std.specs.List.{list_any}
use Rattle.std.specs.Option.{option_or}
use Rattle.std.specs.Str.{bytes_eq}
use Rattle.text_lines.specs.Fields.{Field, fields_of}
use Rattle.answer_words.specs.Place.{Spot}
use Rattle.answer_words.specs.ScriptRule.{line_fields, word_of}
use lib.Pointwise.{pointwise}

-- with how many of its first fields no other line of its part begins, by its first word; none, if
-- it may be there again. A line `role` or `key` has fewer, and is compared as a whole
abbrev pub own_fields : Field → ℕ
own_fields word =
    if list_any (bytes_eq word) (fields_of (codes "keys seed loss repeat run histories log"))
    then 1
    else if list_any (bytes_eq word) (fields_of (codes "order decline"))
    then 2
    else if list_any (bytes_eq word) (fields_of (codes "value role"))
    then 3
    else if bytes_eq word (codes "key") then 6 else 0

-- so many of the first fields are equal, and there are some
abbrev pub begins_alike : ℕ → List Field → List Field → Bool
begins_alike n fields others = nat_lt 0 n && pointwise bytes_eq (take n fields) (take n others)

-- after the line there is no room for the other one: it ends its part, or both begin alike
abbrev pub excludes : List ℕ → List ℕ → Bool
excludes line other =
    bytes_eq line (codes "end") ||
    begins_alike (own_fields (word_of (line_fields other))) (line_fields line) (line_fields other)

-- the line with that number, if it excludes the other one
abbrev pub excluding_spot : List ℕ → ℕ → List ℕ → Option Spot
excluding_spot other number text =
    cond (excludes text other) (Some (record { line = number; column = 1; shown = text })) None

-- the last of these lines that excludes the other one; the first of them has that number
abbrev pub last_excluding : List ℕ → ℕ → List (List ℕ) → Option Spot
last_excluding other number [] = None
last_excluding other number (text ∷ more) =
    option_or (last_excluding other (number + 1) more) (excluding_spot other number text)
