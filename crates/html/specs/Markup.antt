-- Words and numbers add no markup to a page. Each statement is the contract of a function.
use Rattle.std.specs.Prelude.{◌≡◌, ℕ, Bool, ◌==◌, ◌||◌, ◌⊎◌, IsTrue, not, List, [], ◌∷◌, codes}
use Rattle.std.specs.List.{filter, flat_map, list_any}
use Rattle.std.specs.Str.{bytes_eq}
use Rattle.html.specs.Fragment.{Number, Fragment, Tag, Words, escaped_byte, fitted, as_html}

-- a byte that begins or ends a tag or a quoted text: a quote, `<` or `>`
abbrev pub is_mark : ℕ → Bool
is_mark b = (b == 34 || b == 39) || (b == 60 || b == 62)

-- the markup of a part
abbrev pub tag_text : Fragment → List ℕ
tag_text (Tag text) = text
tag_text (Words text) = []
tag_text (Number n) = []

-- a page has the marks of its tags, in order, and no others, whatever its words are
abbrev pub MarksAreThoseOfTags : Type 0
MarksAreThoseOfTags =
    (parts : List Fragment) →
    filter is_mark (as_html parts) ≡ filter is_mark (flat_map tag_text parts)

-- a template that is filled with words and numbers has its own marks, in order, and no others
abbrev pub TemplatesKeepTheirMarks : Type 0
TemplatesKeepTheirMarks =
    (template : List ℕ) (parts : List Fragment) → flat_map tag_text parts ≡ [] →
    filter is_mark (as_html (fitted template parts)) ≡ filter is_mark template

-- the entities of words, in letters
abbrev pub entities : List (List ℕ)
entities =
    codes "&quot;" ∷ codes "&amp;" ∷ codes "&#39;" ∷ codes "&lt;" ∷ codes "&gt;" ∷
    codes "&#65533;" ∷ []

-- a byte of words is written as an entity, or as itself, and then it is neither a mark nor `&`
abbrev pub BytesAreShown : Type 0
BytesAreShown =
    (b : ℕ) → IsTrue (list_any (bytes_eq (escaped_byte b)) entities) ⊎
    ((escaped_byte b ≡ b ∷ []) × IsTrue (not (is_mark b || b == 38)))
