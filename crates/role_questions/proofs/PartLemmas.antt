-- Parts of lists, as they are written item by item.
use Rattle.std.proofs.Common.{◌≡◌, ℕ, ◌+◌, ◌<◌, ◌≤◌, min, Bool, true, List, [], ◌∷◌, ◌++◌, Some, length, map, take, drop, get_or, slice_get, sym, ap, ◌∙◌, arith}
use Rattle.std.proofs.lemmas.List.{append_assoc, drop-take, drop_all, drop_more, get_or-take, length-take, take_min}
use Rattle.std.proofs.lemmas.Option.{get_or_from_slice_get}
use Rattle.serde_json.specs.Data.{Data}
use Rattle.serde_json.specs.View.{items_of}
use Rattle.serde_json.specs.Written.{comma_if, compact_text, items_text}
use Rattle.role_questions.specs.Answers.{items_from}
use Rattle.role_questions.specs.inner.Written.{between}

-- where a part ends
pub part_between : {X : Type 0} (from most end : ℕ) (list : List X) → end ≡ min (from + most) (length list) → between from end list ≡ items_from from most list
part_between from most end list is = ap (λ n. drop from (take n list)) is ∙ ap (λ l. drop from l) (take_min (from + most) list) ∙ drop-take from most list

-- the next item comes first in what is left
next_first : {X : Type 0} (index end : ℕ) (list : List X) (x : X) → index < end → end ≤ length list → slice_get list index ≡ Some x → between index end list ≡ x ∷ between (index + 1) end list
next_first index end list x before within at =
    let item : get_or (take end list) index x ≡ x = get_or-take end list index x before ∙ get_or_from_slice_get list index x x at in
    drop_more (take end list) index x (omega (arith, before, within, length-take end list)) ∙ ap (λ y. y ∷ between (index + 1) end list) item

module _ {X : Type 0} (written_as : X → Data) (list : List X) (index end : ℕ) where
  -- one item is written
  pub item_written : (x : X) (text joined written whole : List ℕ) (later : Bool) → index < end → end ≤ length list → slice_get list index ≡ Some x → joined ≡ text ++ comma_if later → written ≡ joined ++ compact_text (written_as x)
      → text ++ items_text later (items_of (map written_as (between index end list))) ≡ whole → written ++ items_text true (items_of (map written_as (between (index + 1) end list))) ≡ whole
  item_written x text joined written whole later before within at joins writes all =
      let rest = items_text true (items_of (map written_as (between (index + 1) end list))) in
      ap (λ t. t ++ rest) (writes ∙ ap (λ t. t ++ compact_text (written_as x)) joins)
      ∙ append_assoc (text ++ comma_if later) (compact_text (written_as x)) rest
      ∙ append_assoc text (comma_if later) (compact_text (written_as x) ++ rest)
      ∙ ap (λ l. text ++ items_text later (items_of (map written_as l))) (sym (next_first index end list x before within at))
      ∙ all

  -- all are written
  pub all_written : (text whole : List ℕ) (later : Bool) → end ≤ index → text ++ items_text later (items_of (map written_as (between index end list))) ≡ whole → text ++ 93 ∷ [] ≡ whole
  all_written text whole later past all = ap (λ l. text ++ items_text later (items_of (map written_as l))) (sym (drop_all index (take end list) (omega (arith, past, length-take end list)))) ∙ all
