-- The parts of a page, and how they are written.
use Rattle.std.specs.Prelude.{ℕ, nat_le, Bool, ◌==◌, ◌&&◌, ◌||◌, if◌then◌else◌, List, [], ◌∷◌}
use Rattle.std.specs.List.{after_first, before_first, flat_map}
use Rattle.list_base.specs.Numeral.{numeral}
use Rattle.html.specs.declared.fragment.Fragment as lent
use Rattle.html.specs.declared.fragment.Fragment.TheVariants as lent_variants
use Rattle.html.specs.declared.wording.TheConstants as wording

-- markup as it is written, words that are shown, or a number
pub data Fragment : Type 0 where
  Tag : List ℕ → Fragment
  Words : List ℕ → Fragment
  Number : ℕ → Fragment

-- the quotes, `&`, `<` and `>` are written as entities, and so is the sign for an unknown character
-- in place of a byte that is neither printable nor a line end
abbrev pub escaped_byte : ℕ → List ℕ
escaped_byte b =
    if b == 34 then wording.QUOTE.now else if b == 38 then wording.AMPERSAND.now
    else if b == 39 then wording.APOSTROPHE.now else if b == 60 then wording.LESS.now
    else if b == 62 then wording.GREATER.now
    else if (nat_le 32 b && nat_le b 126) || b == 10 then b ∷ [] else wording.UNKNOWN.now

-- words as they are written
abbrev pub escaped : List ℕ → List ℕ
escaped text = flat_map escaped_byte text

-- a part as it is written
abbrev pub fragment_text : Fragment → List ℕ
fragment_text (Tag text) = text
fragment_text (Words text) = escaped text
fragment_text (Number n) = numeral n

-- a page is written part by part
abbrev pub as_html : List Fragment → List ℕ
as_html parts = flat_map fragment_text parts

-- a `$` in a template
abbrev pub is_hole : ℕ → Bool
is_hole b = b == 36

-- a template with these fragments in its holes
unfoldable pub fitted : List ℕ → List Fragment → List Fragment
fitted template [] = Tag template ∷ []
fitted template (part ∷ parts) =
    Tag (before_first is_hole template) ∷ part ∷ fitted (after_first is_hole template) parts

-- the fragment that the code lends
abbrev pub fragment_of : lent.Fragment → Fragment
fragment_of (lent_variants.Tag text) = Tag text.now
fragment_of (lent_variants.Words text) = Words text.now
fragment_of (lent_variants.Number n) = Number n
