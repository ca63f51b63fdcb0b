-- A line whose fields are written one after another.
use Rattle.std.proofs.Common.{◌≡◌, ℕ, All, length, arith, List, [], ◌∷◌, ◌++◌, sym, ap, ◌∙◌, subst}
use Rattle.std.specs.List.{join_with_byte}
use Rattle.std.proofs.lemmas.List.{append_assoc, append-nil}
use Rattle.std.proofs.lemmas.List.Elements.{All-cons, All-nil}
use Rattle.bspl_types.specs.declared.event.Instance.{Instance}
use Rattle.bspl_types.specs.declared.expanded.Expanded.{Expanded}
use Rattle.bspl_types.specs.declared.protocol.Carried.{Carried}
use Rattle.bspl_types.specs.declared.protocol.Message.{Message}
use Rattle.bspl_types.specs.declared.protocol.ParamInfo.{ParamInfo}
use Rattle.bspl_types.specs.declared.value.Value.{Value}
use Rattle.bspl_types.specs.Adornment.{valued}
use Rattle.bspl_types.specs.Expansion.{message_of}
use Rattle.bspl_types.specs.Value.{IsValue}
use Rattle.list_base.specs.Lines.{line_of}
use Rattle.run_text.specs.RunText.{value_field, instance_fields}
use Rattle.run_text.specs.inner.LineFields.{spaced_fields, value_fields}

-- fields with a space between them are the first one and the others, each after a space
pub join-spaced : (field : List ℕ) (fields : List (List ℕ)) → join_with_byte 32 (field ∷ fields) ≡ field ++ spaced_fields fields
join-spaced field [] = sym (append-nil field)
join-spaced field (next ∷ fields) = ap (λ (rest : List ℕ). field ++ 32 ∷ rest) (join-spaced next fields)

-- a word, a space and a line's other fields
line_spaced : (old word name : List ℕ) (fields : List (List ℕ)) → ((((old ++ word) ++ 32 ∷ []) ++ name) ++ spaced_fields fields) ++ 10 ∷ [] ≡ old ++ line_of (word ∷ name ∷ fields)
line_spaced old word name fields = rw (join-spaced name fields) (simp append_assoc)

-- the line that is written of an instance
pub written_line : (x : Expanded) (i : Instance) (m : Message) (old word : List ℕ) → message_of x i.message ≡ m → ((((old ++ word) ++ 32 ∷ []) ++ m.name) ++ value_fields x.params (valued m.carried) i.values) ++ 10 ∷ [] ≡ old ++ line_of (word ∷ instance_fields x i)
written_line x i m old word is =
    let P : Message → Type 0 = λ n. ((((old ++ word) ++ 32 ∷ []) ++ n.name) ++ value_fields x.params (valued n.carried) i.values) ++ 10 ∷ [] ≡ old ++ line_of (word ∷ instance_fields x i) in
    subst P is (line_spaced old word (message_of x i.message).name _)

-- with the fields of the values that remain the text is whole, and all are values if these are
pub record IsWritten (params : List ParamInfo) (whole : List ℕ) (values : List Value) (so_far : List ℕ) (carried : List Carried) (remaining : List Value) : Type 0 where
  pub text : so_far ++ value_fields params carried remaining ≡ whole
  pub each : length remaining ≡ length carried
  pub good : All IsValue remaining → All IsValue values

-- one value more is written
pub value_written : (params : List ParamInfo) (whole : List ℕ) (values : List Value) (so_far : List ℕ) (c : Carried) (carried : List Carried) (v : Value) (rest : List Value) → IsWritten params whole values so_far (c ∷ carried) (v ∷ rest) → IsValue v
    → IsWritten params whole values (so_far ++ 32 ∷ value_field params (c, v)) carried rest
value_written params whole values so_far c carried v rest before good = record {
  text = append_assoc so_far (32 ∷ value_field params (c, v)) (value_fields params carried rest) ∙ before.text;
  each = omega (arith, before.each);
  good = λ others. before.good (All-cons IsValue v rest good others);
}

-- no value remains
pub all_written : (params : List ParamInfo) (whole : List ℕ) (values : List Value) (so_far : List ℕ) (carried : List Carried) (remaining : List Value) → IsWritten params whole values so_far carried remaining → length remaining ≡ 0 → (so_far ≡ whole) × All IsValue values
all_written params whole values so_far [] [] before none = (sym (append-nil so_far) ∙ before.text, before.good (All-nil IsValue))
all_written params whole values so_far carried (v ∷ rest) before none = absurd (omega (arith, none))
all_written params whole values so_far (c ∷ carried) [] before none = absurd (omega (arith, before.each))
