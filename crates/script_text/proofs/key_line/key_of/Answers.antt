-- The next field spells the next value, or there is no key.
use Rattle.std.proofs.Common.{◌≡◌, ◌<◌, ◌+◌, ◌++◌, set, ◌∷◌, [], List, ℕ, map, take, length, arith, ◌∙◌, append_assoc, length-take}
use Rattle.std.specs.List.{All}
use Rattle.std.proofs.lemmas.List.{take_more_set, length-set, map-append}
use Rattle.std.proofs.lemmas.List.Elements.{All-push}
use Rattle.bspl_types.specs.declared.value.Value.{Value}
use Rattle.bspl_types.specs.Value.{IsValue}
use Rattle.bspl_types.specs.ValueSpelling.{value_spelling}
use Rattle.script_text.proofs.ValueLemmas.{next_value, no_next_value}
use Rattle.script_text.proofs.key_line.key_of.Goals as goal

pub returns-in_err-cells : goal.returns-in_err-cells
returns-in_err-cells c = rw c.from_residual-in_err-cells.ensures (λ values wide good same.
    let done = take c.loop-index.index c.loop-index.cells in
    let whole = rw c.in_ok-field.ensures at c.loop-index.invariant.spelled in
    let fewer : length done < length values = omega (arith, length-take c.loop-index.index c.loop-index.cells, c.loop-index.invariant.room, c.loop-index-test.true) in
    no_next_value c.in_ok-field.field.now _ c.in_err-cells.ensures (next_value done values _ good fewer (whole ∙ same)))

-- one value more
one_more : (cells : List Value) (i : ℕ) (v : Value) (field : List ℕ) (left whole : List (List ℕ)) → i < length cells → map value_spelling (take i cells) ++ field ∷ left ≡ whole → field ≡ value_spelling v → map value_spelling (take (i + 1) (set cells i v)) ++ left ≡ whole
one_more cells i v field left whole within before is =
    rw (take_more_set cells i v within, map-append value_spelling (take i cells) (v ∷ []), append_assoc (map value_spelling (take i cells)) (value_spelling v ∷ []) left, ← is) before

good_more : (cells : List Value) (i : ℕ) (v : Value) → i < length cells → All IsValue (take i cells) → IsValue v → All IsValue (take (i + 1) (set cells i v))
good_more cells i v within before good = rw (take_more_set cells i v within) (All-push IsValue (take i cells) v before good)

pub loop-index-preserved : goal.loop-index-preserved
loop-index-preserved c =
    let cells = c.loop-index.cells in
    let i = c.loop-index.index in
    let v = c.in_ok-cells.field-0 in
    let whole = rw c.in_ok-field.ensures at c.loop-index.invariant.spelled in
    let within : i < length cells = omega (arith, c.loop-index.invariant.room, c.loop-index-test.true) in
    record {
      room = length-set cells i v ∙ c.loop-index.invariant.room;
      spelled = one_more cells i v c.in_ok-field.field.now _ _ within whole c.in_ok-cells.ensures.spelled;
      good = good_more cells i v within c.loop-index.invariant.good c.in_ok-cells.ensures.value;
    }
