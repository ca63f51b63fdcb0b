-- The texts of JSON values that are strings.
use Rattle.std.specs.Prelude.{ℕ, List, [], map, unwrap_or, is_some, IsTrue}
use Rattle.std.specs.Borrow.{Bor}
use Rattle.serde_json.specs.Find.{as_str}
use Rattle.serde_json.specs.View.{view}
use Rattle.serde_json.specs.declared.value.Value.{Value}

-- the value is a string
abbrev pub IsStringItem : Value → Type 0
IsStringItem value = IsTrue (is_some (as_str (view value)))

-- the text of a string
abbrev pub text_in : Value → List ℕ
text_in value = unwrap_or (as_str (view value)) []

-- the texts of strings
abbrev pub texts_in : List Value → List (List ℕ)
texts_in values = map text_in values

-- each text
abbrev pub texts_of : List (Bor (List ℕ)) → List (List ℕ)
texts_of texts = map (λ text. text.now) texts
