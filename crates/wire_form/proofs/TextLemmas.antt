-- The texts of values that are strings, and the values of fields.
use Rattle.std.proofs.lemmas.List.{length-map}
use Rattle.std.proofs.Common.{◌≡◌, ℕ, List, [], ◌∷◌, length, map, All, String, Global, is_some, unwrap_or, string_bytes, refl, sym, ap₂, subst}
use Rattle.std.specs.Prelude.{IsTrue}
use Rattle.std.proofs.lemmas.List.Elements.{All-nil, All-cons, All-head, All-tail}
use Rattle.serde_json.specs.Data.{Data, Items, null, boolean, number, string, array, object, item, member}
use Rattle.serde_json.specs.Find.{as_str}
use Rattle.serde_json.specs.View.{view, items_of, items_view, members_view}
use Rattle.serde_json.specs.declared.value.Value.{Value}
use Rattle.wire_form.specs.Request.{NamedField, fields_data}
use Rattle.wire_form.specs.Texts.{IsStringItem, texts_in}
use Rattle.wire_form.specs.declared.asked.Field.{Field as TextField}
use Rattle.wire_form.specs.inner.Asked.{fields_of}
use Rattle.wire_form.specs.inner.Found.{fields_in}

-- an entry of an object
abbrev pub Entry : Type 0
Entry = String Global × Value

-- a string is known by its text
string_is : (d : Data) → IsTrue (is_some (as_str d)) → string (unwrap_or (as_str d) []) ≡ d
string_is null some = absurd (cc)
string_is (boolean b) some = absurd (cc)
string_is (number n) some = absurd (cc)
string_is (string s) some = refl
string_is (array ds) some = absurd (cc)
string_is (object ms) some = absurd (cc)

-- the data is a string
string_some : (d : Data) (text : List ℕ) → d ≡ string text → IsTrue (is_some (as_str d))
string_some d text is = subst (λ e. IsTrue (is_some (as_str e))) (sym is) refl

-- texts are the strings
pub texts_are : (vs : List Value) → All IsStringItem vs → items_of (map string (texts_in vs)) ≡ items_view vs
texts_are [] each = refl
texts_are (v ∷ vs) each = ap₂ item (string_is (view v) (All-head IsStringItem v vs each)) (texts_are vs (All-tail IsStringItem v vs each))

-- an array of texts has strings
pub items_are_texts : (vs : List Value) (texts : List (List ℕ)) → items_view vs ≡ items_of (map string texts) → All IsStringItem vs
items_are_texts [] texts same = All-nil IsStringItem
items_are_texts (v ∷ vs) [] same = absurd (cc)
items_are_texts (v ∷ vs) (text ∷ texts) same =
    let first : view v ≡ string text = cc in
    let rest : items_view vs ≡ items_of (map string texts) = cc in
    All-cons IsStringItem v vs (string_some (view v) text first) (items_are_texts vs texts rest)

-- arrays are known by their items
pub array_items : (one other : Items) → array one ≡ array other → one ≡ other
array_items one other same = cc

-- fields are the members
pub fields_are : (es : List Entry) → All (λ e. IsStringItem e.1) es → fields_data (fields_in es) ≡ members_view es
fields_are [] each = refl
fields_are (e ∷ es) each = ap₂ (member (string_bytes e.0)) (string_is (view e.1) (All-head (λ (f : Entry). IsStringItem f.1) e es each)) (fields_are es (All-tail (λ (f : Entry). IsStringItem f.1) e es each))

-- an object of fields has strings
pub members_are_texts : (es : List Entry) (fields : List NamedField) → members_view es ≡ fields_data fields → All (λ e. IsStringItem e.1) es
members_are_texts [] fields same = All-nil (λ (f : Entry). IsStringItem f.1)
members_are_texts (e ∷ es) [] same = absurd (cc)
members_are_texts (e ∷ es) (field ∷ fields) same =
    let first : view e.1 ≡ string field.1 = cc in
    let rest : members_view es ≡ fields_data fields = cc in
    All-cons (λ (f : Entry). IsStringItem f.1) e es (string_some (view e.1) field.1 first) (members_are_texts es fields rest)

-- as many fields as there are
pub fields_long : (fields : List TextField) → length (fields_of fields) ≡ length fields
fields_long fields = length-map fields (λ (f : TextField). (f.name.now, f.text.now))
