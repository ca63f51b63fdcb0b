-- The message of a name, and the values that fields give.
use Rattle.std.proofs.Common.{◌≡◌, ◌≢◌, ℕ, ◌+◌, ◌<◌, List, [], ◌∷◌, ◌++◌, length, map, take, drop, get_or, Contains, Option, Some, None, Bool, true, false, Ordering, Less, Equal, Greater, nat_cmp, is_eq, refl, sym, ap, subst, ◌∙◌, inl, inr, arith}
use Rattle.std.specs.Borrow.{Bor}
use Rattle.std.specs.List.{AllZip, position}
use Rattle.std.specs.Str.{bytes_eq}
use Rattle.std.specs.Cmp.Lexicographic.{slice_cmp}
use Rattle.std.specs.Ordering.{match_ordering}
use Rattle.std.proofs.lemmas.Bool.{cases_order, cond-false, cond-true, true≢false}
use Rattle.std.proofs.lemmas.Cmp.{nat_list_cmp_total, tied_itself}
use Rattle.std.proofs.lemmas.Map.Text.{is_eq-slice_cmp}
use Rattle.std.proofs.lemmas.List.{append-nil, drop_more, get_or_default, get_or-map, length-map, take_more}
use Rattle.std.proofs.lemmas.List.Elements.{filter-append}
use Rattle.std.proofs.lemmas.List.Quantifiers.{position-Some}
use Rattle.std.proofs.lemmas.Option.{none-some}
use Rattle.std.proofs.lemmas.Slice.Eq.{bytes_eq-Decides}
use Rattle.bspl_types.specs.declared.expanded.Expanded.{Expanded}
use Rattle.bspl_types.specs.declared.protocol.Message.{Message}
use Rattle.std.specs.Prelude.{MatchOption}
use Rattle.bspl_types.specs.declared.protocol.Carried.{Carried}
use Rattle.bspl_types.specs.Adornment.{has_value, valued}
use Rattle.bspl_types.specs.Expansion.{message_of, no_message, param_name}
use Rattle.bspl_types.specs.declared.value.Value.{Value}
use Rattle.bspl_types.specs.ValueSpelling.{SpellsValue}
use Rattle.list_base.proofs.Filtered.{kept_member}
use Rattle.list_base.proofs.FirstIndex.{named_index}
use Rattle.list_base.proofs.Zipped.{none_at, paired_more, zip_append}
use Rattle.serde_json.specs.Data.{Data, string}
use Rattle.serde_json.specs.Find.{get_member}
use Rattle.bspl_types.specs.ValueSpelling.{value_spelling}
use Rattle.wire_form.specs.Meaning.{IsGiven}
use Rattle.wire_form.specs.Request.{NamedField, fields_data}
use Rattle.wire_form.specs.declared.asked.Field.{Field as TextField}
use Rattle.wire_form.specs.Texts.{texts_of}
use Rattle.wire_form.specs.inner.Asked.{fields_of}

-- the index of the message of that name
abbrev pub index_named : Expanded → List ℕ → Option ℕ
index_named x name = position (λ m. bytes_eq m.name name) x.messages

-- the message that was found, and its name
pub message_found : (x : Expanded) (name : List ℕ) (m : ℕ) → Some m ≡ index_named x name → (m < length x.messages) × ((message_of x m).name ≡ name)
message_found x name m is =
    let found = position-Some (λ (n : Message). bytes_eq n.name name) x.messages m no_message (sym is) in
    (found.0, (bytes_eq-Decides (message_of x m).name name).0 found.1)

-- two messages of one name are one
pub same_message : (x : Expanded) (m n : ℕ) → m < length x.messages → n < length x.messages → (message_of x m).name ≡ (message_of x n).name → m ≡ n
same_message x m n known also same =
    elim (cases_order m n) [
      | inl is ↦ is
      | inr (inl less) ↦ absurd (x.shape.message_names.distinct m n no_message less also same)
      | inr (inr more) ↦ absurd (x.shape.message_names.distinct n m no_message more known (sym same))
    ]

-- no message has the name
pub no_message_named : (x : Expanded) (name : List ℕ) (m : ℕ) → None ≡ index_named x name → m < length x.messages → (message_of x m).name ≢ name
no_message_named x name m none known same =
    let among : Contains (map (λ (n : Message). n.name) x.messages) (message_of x m).name = (m, omega (arith, known, length-map x.messages (λ (n : Message). n.name)), get_or-map (λ (n : Message). n.name) x.messages m no_message (message_of x m).name known) in
    let found = named_index (λ (n : Message). n.name) x.messages name (subst (Contains (map (λ (n : Message). n.name) x.messages)) same among) in
    none-some found.0 (none ∙ found.2)

-- the text spells the value
abbrev pub SpellsItem : Bor (List ℕ) → Value → Type 0
SpellsItem text v = SpellsValue text.now v

-- texts spell values one by one
pub unzipped : (items : List (Bor (List ℕ))) (vs : List Value) → AllZip SpellsValue (texts_of items) vs → AllZip SpellsItem items vs
unzipped [] [] all = tt
unzipped [] (v ∷ vs) all = absurd all
unzipped (i ∷ items) [] all = absurd all
unzipped (i ∷ items) (v ∷ vs) all = (all.0, unzipped items vs all.1)

-- one text more spells its value
pub spelled_more : (texts : List (Bor (List ℕ))) (values new : List Value) (i : ℕ) (d : Bor (List ℕ)) (bytes : List ℕ) (v : Value) → i < length texts → bytes ≡ (get_or texts i d).now → AllZip SpellsItem (take i texts) values → SpellsValue bytes v → new ≡ values ++ v ∷ [] → AllZip SpellsItem (take (i + 1) texts) new
spelled_more texts values new i d bytes v within is all spells pushed =
    let text : Bor (List ℕ) = get_or texts i d in
    paired_more SpellsItem texts values new i text v within (get_or_default texts i d text within) all (subst (λ (b : List ℕ). SpellsValue b v) is spells) pushed

-- one that spells no value
pub spelled_none : (texts : List (Bor (List ℕ))) (values : List Value) (i : ℕ) (d : Bor (List ℕ)) (bytes : List ℕ) → i < length texts → bytes ≡ (get_or texts i d).now → ((v : Value) → ¬ SpellsValue bytes v) → ¬ AllZip SpellsValue (texts_of texts) values
spelled_none texts values i d bytes within is none all =
    let text : Bor (List ℕ) = get_or texts i d in
    none_at SpellsItem texts values i text within (get_or_default texts i d text within) (unzipped texts values all) (λ v spells. none v (subst (λ (b : List ℕ). SpellsValue b v) (sym is) spells))

-- ---- the field of a name

passed : (o : Ordering) (a b : Option Data) → is_eq o ≡ false → match_ordering o a b a ≡ a
passed Less a b differs = refl
passed Equal a b differs = absurd (true≢false differs)
passed Greater a b differs = refl

differ : (xs ys : List ℕ) (b : Bool) → bytes_eq xs ys ≡ b → (xs ≡ ys → ⊥) → b ≡ false
differ xs ys true is other = absurd (other ((bytes_eq-Decides xs ys).0 is))
differ xs ys false is other = refl

-- a field of another name is passed over
pub field_later : (name k text : List ℕ) (fields : List NamedField) → (k ≡ name → ⊥) → get_member name (fields_data ((k, text) ∷ fields)) ≡ get_member name (fields_data fields)
field_later name k text fields other = passed (slice_cmp nat_cmp name k) _ _ (is_eq-slice_cmp name k ∙ differ name k _ refl (λ same. other (sym same)))

-- the field of the name is found
pub field_here : (name k text : List ℕ) (fields : List NamedField) → k ≡ name → get_member name (fields_data ((k, text) ∷ fields)) ≡ Some (string text)
field_here name k text fields is =
    ap (λ (o : Ordering). match_ordering o (get_member name (fields_data fields)) (Some (string text)) (get_member name (fields_data fields)))
    (ap (slice_cmp nat_cmp name) is ∙ tied_itself nat_list_cmp_total name)

-- the value that the field's text spells is given
pub given_by : (x : Expanded) (fields : List NamedField) (c : Carried) (text : List ℕ) (r : Option Value) → get_member (param_name x c.param) (fields_data fields) ≡ Some (string text) → MatchOption r ((v : Value) → ¬ SpellsValue text v) (SpellsValue text)
    → MatchOption r ((v : Value) → ¬ IsGiven x fields c v) (IsGiven x fields c)
given_by x fields c text None at none = λ v given. none v (record { value = given.value; spelled = text_is v (sym at ∙ given.given) })
  where
    text_is : (v : Value) → Some (string text) ≡ Some (string (value_spelling v)) → text ≡ value_spelling v
    text_is v same = cc
given_by x fields c text (Some v) at spells = record { value = spells.value; given = at ∙ ap (λ (t : List ℕ). Some (string t)) spells.spelled }

-- those before the index have other names, and so has the one at it
pub field_passed : (fields : List TextField) (i : ℕ) (d : TextField) (name : List ℕ) → i < length fields → get_member name (fields_data (fields_of fields)) ≡ get_member name (fields_data (fields_of (drop i fields))) → ((get_or fields i d).name.now ≡ name → ⊥) → get_member name (fields_data (fields_of fields)) ≡ get_member name (fields_data (fields_of (drop (i + 1) fields)))
field_passed fields i d name within before other =
    before ∙ ap (λ (fs : List TextField). get_member name (fields_data (fields_of fs))) (drop_more fields i d within)
    ∙ field_later name (get_or fields i d).name.now (get_or fields i d).text.now (fields_of (drop (i + 1) fields)) other

-- the one at the index has the name
pub field_found : (fields : List TextField) (i : ℕ) (d : TextField) (name bytes : List ℕ) → i < length fields → get_member name (fields_data (fields_of fields)) ≡ get_member name (fields_data (fields_of (drop i fields))) → (get_or fields i d).name.now ≡ name → bytes ≡ (get_or fields i d).text.now → get_member name (fields_data (fields_of fields)) ≡ Some (string bytes)
field_found fields i d name bytes within before named is =
    before ∙ ap (λ (fs : List TextField). get_member name (fields_data (fields_of fs))) (drop_more fields i d within)
    ∙ field_here name (get_or fields i d).name.now (get_or fields i d).text.now (fields_of (drop (i + 1) fields)) named
    ∙ ap (λ (t : List ℕ). Some (string t)) (sym is)

-- ---- a loop over parameters

-- one that can have no value
pub none_valued : (R : Carried → Value → Type 0) (carried : List Carried) (i : ℕ) (d : Carried) (values : List Value) → i < length carried → has_value (get_or carried i d).adornment ≡ true → ((v : Value) → ¬ R (get_or carried i d) v) → ¬ AllZip R (valued carried) values
none_valued R carried i d values within has none all =
    let c : Carried = get_or carried i d in
    let among = kept_member (λ e. has_value e.adornment) carried c has (i, within, get_or_same carried i d within) in
    none_at R (valued carried) values among.0 c among.1 (sym among.2) all none
  where
    get_or_same : (cs : List Carried) (k : ℕ) (e : Carried) → k < length cs → get_or cs k (get_or cs k e) ≡ get_or cs k e
    get_or_same cs k e bound = get_or_default cs k (get_or cs k e) e bound

-- one more that has a value
pub valued_more : (R : Carried → Value → Type 0) (carried : List Carried) (i : ℕ) (d : Carried) (values : List Value) (v : Value) → i < length carried → has_value (get_or carried i d).adornment ≡ true → AllZip R (valued (take i carried)) values → R (get_or carried i d) v → AllZip R (valued (take (i + 1) carried)) (values ++ v ∷ [])
valued_more R carried i d values v within has all one =
    let c : Carried = get_or carried i d in
    let more : valued (take (i + 1) carried) ≡ valued (take i carried) ++ c ∷ [] =
    ap valued (take_more carried i d within) ∙ filter-append (λ e. has_value e.adornment) (take i carried) (c ∷ []) ∙ ap (λ cs. valued (take i carried) ++ cs) (cond-true _ (c ∷ []) [] has) in
    subst (λ cs. AllZip R cs (values ++ v ∷ [])) (sym more) (zip_append R (valued (take i carried)) values (c ∷ []) (v ∷ []) all (one, tt))

-- one more that has none
pub bare_more : (R : Carried → Value → Type 0) (carried : List Carried) (i : ℕ) (d : Carried) (values : List Value) → i < length carried → has_value (get_or carried i d).adornment ≡ false → AllZip R (valued (take i carried)) values → AllZip R (valued (take (i + 1) carried)) values
bare_more R carried i d values within bare all =
    let c : Carried = get_or carried i d in
    let more : valued (take (i + 1) carried) ≡ valued (take i carried) =
    ap valued (take_more carried i d within) ∙ filter-append (λ e. has_value e.adornment) (take i carried) (c ∷ []) ∙ ap (λ cs. valued (take i carried) ++ cs) (cond-false _ (c ∷ []) [] bare) ∙ append-nil (valued (take i carried)) in
    subst (λ cs. AllZip R cs values) (sym more) all
