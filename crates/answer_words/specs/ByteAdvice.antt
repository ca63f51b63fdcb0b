-- What to do about a byte at which no token begins, by the bytes there.
use Rattle.std.specs.Prelude.{ℕ, Bool, false, nat_eq, nat_le, ◌||◌, if◌then◌else◌}
use Rattle.std.specs.Prelude.{List, [], ◌∷◌, codes}
use Rattle.std.specs.List.{starts_with}
use Rattle.answer_words.specs.declared.wording.refusals.TheConstants as refusals

-- the bytes begin with what others write for a comment: `#`, `/*`, or a single `/`
abbrev pub begins_comment : List ℕ → Bool
begins_comment bytes = starts_with nat_eq bytes (codes "#") || starts_with nat_eq bytes (codes "/")

-- the bytes begin with what others write for an arrow: `=>`, `-->`, `<-`, or an arrow of Unicode
abbrev pub begins_arrow : List ℕ → Bool
begins_arrow bytes =
    (starts_with nat_eq bytes (codes "=>") || starts_with nat_eq bytes (codes "-")) ||
    (starts_with nat_eq bytes (codes "<") || starts_with nat_eq bytes (226 ∷ 134 ∷ []))

-- the bytes begin with an en dash or an em dash, which editors put in place of `-`
abbrev pub begins_dash : List ℕ → Bool
begins_dash bytes =
    starts_with nat_eq bytes (226 ∷ 128 ∷ 147 ∷ []) ||
    starts_with nat_eq bytes (226 ∷ 128 ∷ 148 ∷ [])

-- the bytes begin with one that is not of ASCII
abbrev pub begins_beyond_ascii : List ℕ → Bool
begins_beyond_ascii [] = false
begins_beyond_ascii (byte ∷ bytes) = nat_le 128 byte

-- the advice for a sign that the language lacks, or for what begins no name
abbrev pub sign_advice : List ℕ → List ℕ
sign_advice bytes =
    if starts_with nat_eq bytes (codes ";")
    then refusals.SEMICOLON_ADVICE.now
    else if starts_with nat_eq bytes (codes "=")
    then refusals.EQUALS_ADVICE.now
    else if begins_beyond_ascii bytes
    then refusals.ASCII_ADVICE.now
    else refusals.NAME_ADVICE.now

-- the advice for the bytes from there on
abbrev pub byte_advice : List ℕ → List ℕ
byte_advice bytes =
    if begins_comment bytes then refusals.COMMENT_ADVICE.now
    else if starts_with nat_eq bytes (codes "%")
    then refusals.PART_LINE_ADVICE.now
    else if starts_with nat_eq bytes (239 ∷ 187 ∷ 191 ∷ [])
    then refusals.BYTE_ORDER_ADVICE.now
    else if begins_arrow bytes then refusals.ARROW_ADVICE.now
    else if begins_dash bytes then refusals.DASH_ADVICE.now
    else sign_advice bytes
