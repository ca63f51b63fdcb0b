-- The values that a line's fields spell, one field after another.
use Rattle.std.proofs.Common.{◌≡◌, ◌≢◌, ℕ, Bor, ◌+◌, ◌<◌, ◌≤◌, List, [], ◌∷◌, ◌++◌, length, get_or, drop, true, false, All, Option, Some, None, codes, refl, sym, ap, subst, ◌∙◌, arith}
use Rattle.std.specs.Prelude.{IsTrue, MatchOption, is_some}
use Rattle.std.specs.Option.{option_copied}
use Rattle.std.proofs.lemmas.Bool.{cond-false, cond-true}
use Rattle.std.proofs.lemmas.List.{append_assoc, append_cancel_left, append-nil, drop_more}
use Rattle.std.proofs.Math.ListN.{drop_of_length-le}
use Rattle.std.proofs.lemmas.List.Elements.{All-cons, All-head, All-nil, All-tail}
use Rattle.bspl_types.specs.declared.protocol.Carried.{Carried}
use Rattle.bspl_types.specs.declared.protocol.ParamInfo.{ParamInfo}
use Rattle.bspl_types.specs.declared.value.Value.{Value}
use Rattle.bspl_types.specs.Adornment.{has_value, valued}
use Rattle.bspl_types.specs.Name.{is_name}
use Rattle.bspl_types.specs.Value.{IsValue}
use Rattle.bspl_types.specs.ValueSpelling.{SpellsValue, ValuesAreSpelledOnce, value_spelling}
use Rattle.run_text.specs.RunText.{value_field, no_param}
use Rattle.run_text.specs.inner.LineFields.{SpellsValues, tail_of, value_fields}
use Rattle.run_text.proofs.BreakLemmas.{IsBreak, lacks_both, lacks_more, lacks_none, name_lacks, space_breaks, value_lacks}
use Rattle.list_base.proofs.Separators.{Lacks}
use Rattle.run_text.proofs.Separators.{field_then_tail, same_field, spaced_is, tail_is}

-- each parameter has a name
abbrev pub AreNames : List ParamInfo → Type 0
AreNames params = All (λ p. IsTrue (is_name p.name)) params

-- each parameter that is carried exists
abbrev pub AreKnown : List ParamInfo → List Carried → Type 0
AreKnown params carried = All (λ c. c.param < length params) carried

-- no field has a space or an LF
pub field_lacks : (b : ℕ) (params : List ParamInfo) (c : Carried) (v : Value) → IsBreak b → AreNames params → c.param < length params → IsValue v → Lacks b (value_field params (c, v))
field_lacks b params c v breaks names known good =
    let name = name_lacks b breaks _ (names c.param no_param known) in
    let sign : Lacks b (codes "=") = lacks_more b 61 [] (λ e. absurd (omega (arith, e, breaks.low))) (lacks_none b) in
    lacks_both b _ (value_spelling v) (lacks_both b _ (codes "=") name sign) (value_lacks b v breaks good)

-- nor have several
pub fields_lack : (b : ℕ) (params : List ParamInfo) (carried : List Carried) (values : List Value) → b ≢ 32 → IsBreak b → AreNames params → AreKnown params carried → All IsValue values → Lacks b (value_fields params carried values)
fields_lack b params [] values other breaks names known good = lacks_none b
fields_lack b params (c ∷ carried) [] other breaks names known good = lacks_none b
fields_lack b params (c ∷ carried) (v ∷ values) other breaks names known good =
    let first = field_lacks b params c v breaks names (All-head (λ d. d.param < length params) c carried known) (All-head IsValue v values good) in
    let rest = fields_lack b params carried values other breaks names (All-tail (λ d. d.param < length params) c carried known) (All-tail IsValue v values good) in
    lacks_more b 32 (value_field params (c, v) ++ value_fields params carried values) (λ e. other (sym e)) (lacks_both b (value_field params (c, v)) (value_fields params carried values) first rest)

-- a parameter whose fields spell two values has one
same_value : (params : List ParamInfo) (c : Carried) (v w : Value) → ValuesAreSpelledOnce → IsValue v → IsValue w → value_field params (c, v) ≡ value_field params (c, w) → v ≡ w
same_value params c v w once good also same = once v w good also (append_cancel_left _ (value_spelling v) (value_spelling w) same)

-- the first of several fields, and the others
pub record FirstField (params : List ParamInfo) (c : Carried) (carried : List Carried) (tail : List ℕ) (values : List Value) : Type 0 where
  pub value : Value
  pub rest : List Value
  pub values_are : values ≡ value ∷ rest
  pub good : IsValue value
  pub spelled : tail ≡ 32 ∷ (value_field params (c, value) ++ value_fields params carried rest)
  pub others : SpellsValues params carried (value_fields params carried rest) rest

-- a tail that spells values for some parameters begins with the field of the first
first_field : (params : List ParamInfo) (c : Carried) (carried : List Carried) (tail : List ℕ) (values : List Value) → SpellsValues params (c ∷ carried) tail values → FirstField params c carried tail values
first_field params c carried tail [] spells = absurd (omega (arith, spells.each))
first_field params c carried tail (v ∷ rest) spells =
    record {
      value = v;
      rest = rest;
      values_are = refl;
      good = All-head IsValue v rest spells.good;
      spelled = spells.spelled;
      others = record { each = omega (arith, spells.each); good = All-tail IsValue v rest spells.good; spelled = refl };
    }

-- a tail that spells values for no parameter is empty
no_field : (params : List ParamInfo) (tail : List ℕ) (values : List Value) → SpellsValues params [] tail values → (values ≡ []) × (tail ≡ [])
no_field params tail [] spells = (refl, spells.spelled)
no_field params tail (v ∷ rest) spells = absurd (omega (arith, spells.each))

-- these values were read, and the rest spells values for these parameters exactly if the whole spells them all
pub record FieldsRead (params : List ParamInfo) (all : List Carried) (tail : List ℕ) (read : List Value) (carried : List Carried) (left : List ℕ) : Type 0 where
  pub whole : (rest : List Value) → SpellsValues params carried left rest → SpellsValues params all tail (read ++ rest)
  pub part : (values : List Value) → SpellsValues params all tail values → (rest : List Value) × (values ≡ read ++ rest) × SpellsValues params carried left rest

-- nothing was read
pub nothing_read : (params : List ParamInfo) (all : List Carried) (tail : List ℕ) → FieldsRead params all tail [] all tail
nothing_read params all tail = record { whole = λ rest spells. spells; part = λ values spells. (values, refl, spells) }

-- a field's text, and what is split off it
pub record IsSplit (text field : List ℕ) (more : Option (List ℕ)) : Type 0 where
  pub whole : text ≡ field ++ tail_of more
  pub first : Lacks 32 field

-- what was split at the first space
pub split_of : (text field : List ℕ) (more : Option (Bor (List ℕ))) → Lacks 32 field → MatchOption more (text ≡ field) (λ rest. text ≡ field ++ 32 ∷ rest.now) → IsSplit text field (option_copied more)
split_of text field more lacks whole = record { whole = field_then_tail text field more whole; first = lacks }

-- the first field of a text that was split
field_is : (params : List ParamInfo) (c : Carried) (carried : List Carried) (text field : List ℕ) (more : Option (List ℕ)) (values : List Value) → AreNames params → c.param < length params → IsSplit text field more
    → (first : FirstField params c carried (32 ∷ text) values) → (field ≡ value_field params (c, first.value)) × (tail_of more ≡ value_fields params carried first.rest)
field_is params c carried text field more values names known split first =
    same_field field (value_field params (c, first.value)) (tail_of more) (value_fields params carried first.rest) split.first
    (field_lacks 32 params c first.value space_breaks names known first.good) (tail_is more) (spaced_is _)
    (sym split.whole ∙ ap (drop 1) first.spelled)

-- one field more
pub field_read : (params : List ParamInfo) (all : List Carried) (tail : List ℕ) (read : List Value) (c : Carried) (carried : List Carried) (text field : List ℕ) (more : Option (List ℕ)) (v : Value) → ValuesAreSpelledOnce → AreNames params → c.param < length params
    → FieldsRead params all tail read (c ∷ carried) (32 ∷ text) → IsSplit text field more → IsValue v → field ≡ value_field params (c, v) → FieldsRead params all tail (read ++ v ∷ []) carried (tail_of more)
field_read params all tail read c carried text field more v once names known so_far split good is =
    record {
      whole = λ rest spells.
          let next : SpellsValues params (c ∷ carried) (32 ∷ text) (v ∷ rest) = record {
            each = omega (arith, spells.each);
            good = All-cons IsValue v rest good spells.good;
            spelled = ap (λ (bytes : List ℕ). 32 ∷ bytes) (split.whole ∙ ap (λ (front : List ℕ). front ++ tail_of more) is ∙ ap (λ (back : List ℕ). value_field params (c, v) ++ back) spells.spelled);
          } in
          subst (SpellsValues params all tail) (sym (append_assoc read (v ∷ []) rest)) (so_far.whole (v ∷ rest) next);
      part = λ values spells.
          let before = so_far.part values spells in
          let first = first_field params c carried (32 ∷ text) before.0 before.2 in
          let next = field_is params c carried text field more before.0 names known split first in
          let same : v ≡ first.value = same_value params c v first.value once good first.good (sym is ∙ next.0) in
          let values_are : values ≡ read ++ v ∷ first.rest = before.1 ∙ ap (λ (back : List Value). read ++ back) (first.values_are ∙ ap (λ (u : Value). u ∷ first.rest) (sym same)) in
          (first.rest, values_are ∙ sym (append_assoc read (v ∷ []) first.rest), subst (λ left. SpellsValues params carried left first.rest) (sym next.1) first.others);
    }

-- a field is missing
pub field_missing : (params : List ParamInfo) (all : List Carried) (tail : List ℕ) (read : List Value) (c : Carried) (carried : List Carried) → FieldsRead params all tail read (c ∷ carried) [] → (values : List Value) → ¬ SpellsValues params all tail values
field_missing params all tail read c carried so_far values spells =
    let before = so_far.part values spells in
    let spelled = (first_field params c carried [] before.0 before.2).spelled in
    cc

-- a field spells no value of its parameter
pub field_differs : (params : List ParamInfo) (all : List Carried) (tail : List ℕ) (read : List Value) (c : Carried) (carried : List Carried) (text field : List ℕ) (more : Option (List ℕ)) → AreNames params → c.param < length params → FieldsRead params all tail read (c ∷ carried) (32 ∷ text)
    → IsSplit text field more → ((v : Value) → IsValue v → field ≢ value_field params (c, v)) → (values : List Value) → ¬ SpellsValues params all tail values
field_differs params all tail read c carried text field more names known so_far split none values spells =
    let before = so_far.part values spells in
    let first = first_field params c carried (32 ∷ text) before.0 before.2 in
    none first.value first.good (field_is params c carried text field more before.0 names known split first).0

-- a field is left over
pub field_left : (params : List ParamInfo) (all : List Carried) (tail : List ℕ) (read : List Value) (text : List ℕ) → FieldsRead params all tail read [] (32 ∷ text) → (values : List Value) → ¬ SpellsValues params all tail values
field_left params all tail read text so_far values spells =
    let before = so_far.part values spells in
    let spelled = (no_field params (32 ∷ text) before.0 before.2).1 in
    cc

-- each field was read, and no other is left
pub fields_read : (params : List ParamInfo) (all : List Carried) (tail : List ℕ) (read : List Value) → FieldsRead params all tail read [] [] → SpellsValues params all tail read
fields_read params all tail read so_far =
    subst (SpellsValues params all tail) (append-nil read) (so_far.whole [] (record { each = refl; good = All-nil IsValue; spelled = refl }))

-- a tail spells one list of values
pub same_values : (params : List ParamInfo) (carried : List Carried) (tail : List ℕ) (values others : List Value) → ValuesAreSpelledOnce → AreNames params → AreKnown params carried → SpellsValues params carried tail values → SpellsValues params carried tail others → values ≡ others
same_values params [] tail values others once names known spells also = (no_field params tail values spells).0 ∙ sym (no_field params tail others also).0
same_values params (c ∷ carried) tail values others once names known spells also =
    let here : c.param < length params = All-head (λ d. d.param < length params) c carried known in
    let one = first_field params c carried tail values spells in
    let other = first_field params c carried tail others also in
    let same = same_field (value_field params (c, one.value)) (value_field params (c, other.value)) (value_fields params carried one.rest) (value_fields params carried other.rest)
    (field_lacks 32 params c one.value space_breaks names here one.good) (field_lacks 32 params c other.value space_breaks names here other.good) (spaced_is _) (spaced_is _)
    (ap (drop 1) (sym one.spelled ∙ other.spelled)) in
    let firsts : one.value ≡ other.value = same_value params c one.value other.value once one.good other.good same.0 in
    let rest : one.rest ≡ other.rest = same_values params carried (value_fields params carried other.rest) one.rest other.rest once names (All-tail (λ d. d.param < length params) c carried known)
    (subst (λ left. SpellsValues params carried left one.rest) same.1 one.others) other.others in
    one.values_are ∙ ap (λ (v : Value). v ∷ one.rest) firsts ∙ ap (λ (vs : List Value). other.value ∷ vs) rest ∙ sym other.values_are

-- ---- the parameter at an index

-- one that has a value is the next to take one
pub next_valued : (carried : List Carried) (i : ℕ) (d : Carried) → i < length carried → has_value (get_or carried i d).adornment ≡ true → valued (drop i carried) ≡ get_or carried i d ∷ valued (drop (i + 1) carried)
next_valued carried i d within has = ap valued (drop_more carried i d within) ∙ cond-true _ _ (valued (drop (i + 1) carried)) has

-- another is passed over
pub next_bare : (carried : List Carried) (i : ℕ) (d : Carried) → i < length carried → has_value (get_or carried i d).adornment ≡ false → valued (drop i carried) ≡ valued (drop (i + 1) carried)
next_bare carried i d within bare = ap valued (drop_more carried i d within) ∙ cond-false _ (get_or carried i d ∷ valued (drop (i + 1) carried)) _ bare

-- nothing is left if no text is
none_left : (left : Option (Bor (List ℕ))) → is_some left ≡ false → tail_of (option_copied left) ≡ []
none_left None none = refl
none_left (Some text) none = absurd (cc)

-- a text is left
some_left : (left : Option (Bor (List ℕ))) → is_some left ≡ true → (text : List ℕ) × (tail_of (option_copied left) ≡ 32 ∷ text)
some_left None some = absurd (cc)
some_left (Some text) some = (text.now, refl)

-- past the last parameter all are read, unless a field is left
pub all_read : (params : List ParamInfo) (carried : List Carried) (tail : List ℕ) (read : List Value) (i : ℕ) (left : Option (Bor (List ℕ))) → FieldsRead params (valued carried) tail read (valued (drop i carried)) (tail_of (option_copied left)) → length carried ≤ i → is_some left ≡ false → SpellsValues params (valued carried) tail read
all_read params carried tail read i left so_far past none =
    fields_read params (valued carried) tail read
    (subst (FieldsRead params (valued carried) tail read []) (none_left left none)
    (subst (λ (cs : List Carried). FieldsRead params (valued carried) tail read (valued cs) (tail_of (option_copied left))) (drop_of_length-le carried past) so_far))

-- then the tail spells no values
pub more_left : (params : List ParamInfo) (carried : List Carried) (tail : List ℕ) (read : List Value) (i : ℕ) (left : Option (Bor (List ℕ))) → FieldsRead params (valued carried) tail read (valued (drop i carried)) (tail_of (option_copied left)) → length carried ≤ i → is_some left ≡ true
    → (values : List Value) → ¬ SpellsValues params (valued carried) tail values
more_left params carried tail read i left so_far past some =
    let text = some_left left some in
    field_left params (valued carried) tail read text.0
    (subst (FieldsRead params (valued carried) tail read []) text.1
    (subst (λ (cs : List Carried). FieldsRead params (valued carried) tail read (valued cs) (tail_of (option_copied left))) (drop_of_length-le carried past) so_far))

-- ---- the value of one field

-- a field that does not begin with the parameter's name spells no value of it
pub other_name : (params : List ParamInfo) (c : Carried) (field name : List ℕ) → name ≡ (get_or params c.param no_param).name → ((rest : List ℕ) → field ≢ name ++ rest) → (v : Value) → IsValue v → field ≢ value_field params (c, v)
other_name params c field name is other v good same =
    other (codes "=" ++ value_spelling v) (same ∙ append_assoc _ (codes "=") (value_spelling v) ∙ ap (λ (front : List ℕ). front ++ (codes "=" ++ value_spelling v)) (sym is))

-- nor does one that has no `=` after it
pub other_sign : (params : List ParamInfo) (c : Carried) (field name rest : List ℕ) → name ≡ (get_or params c.param no_param).name → field ≡ name ++ rest → ((text : List ℕ) → rest ≢ codes "=" ++ text) → (v : Value) → IsValue v → field ≢ value_field params (c, v)
other_sign params c field name rest is begins other v good same =
    other (value_spelling v) (append_cancel_left name rest (codes "=" ++ value_spelling v)
    (sym begins ∙ same ∙ append_assoc _ (codes "=") (value_spelling v) ∙ ap (λ (front : List ℕ). front ++ (codes "=" ++ value_spelling v)) (sym is)))

-- after the name and `=` comes the value
pub value_read : (params : List ParamInfo) (c : Carried) (field name rest text : List ℕ) (read : Option Value) → name ≡ (get_or params c.param no_param).name → field ≡ name ++ rest → rest ≡ codes "=" ++ text → MatchOption read ((v : Value) → ¬ SpellsValue text v) (SpellsValue text)
    → MatchOption read ((v : Value) → IsValue v → field ≢ value_field params (c, v)) (λ v. IsValue v × (field ≡ value_field params (c, v)))
value_read params c field name rest text None is begins sign none = λ v good same.
    none v (record {
      value = good;
      spelled = ap (drop 1) (append_cancel_left name (codes "=" ++ text) (codes "=" ++ value_spelling v)
          (ap (λ (back : List ℕ). name ++ back) (sym sign) ∙ sym begins ∙ same ∙ append_assoc _ (codes "=") (value_spelling v) ∙ ap (λ (front : List ℕ). front ++ (codes "=" ++ value_spelling v)) (sym is)));
    })
value_read params c field name rest text (Some v) is begins sign spells = (
  spells.value,
  begins ∙ ap (λ (front : List ℕ). front ++ rest) is ∙ ap (λ (back : List ℕ). (get_or params c.param no_param).name ++ back) (sign ∙ ap (λ (back : List ℕ). codes "=" ++ back) spells.spelled)
      ∙ sym (append_assoc _ (codes "=") (value_spelling v)),
)
