-- Lines whose fields are written one after another.
use Rattle.std.proofs.Common.{◌≡◌, ℕ, List, [], ◌∷◌, ◌++◌, map, codes, refl, sym, ap, ◌∙◌}
use Rattle.std.specs.List.{concat, flat_map, join_with_byte}
use Rattle.std.proofs.lemmas.List.{append_assoc, append-nil}
use Rattle.std.proofs.lemmas.Grind.{flat_map-append}
use Rattle.bspl_types.specs.declared.expanded.Expanded.{Expanded}
use Rattle.bspl_types.specs.declared.value.Value.{Value}
use Rattle.bspl_types.specs.ValueSpelling.{value_spelling}
use Rattle.refutation_log.specs.LogText.{line_of}
use Rattle.run_text.specs.inner.LineFields.{spaced_fields}
use Rattle.report.specs.declared.status.Status.{Status as KeyStatus}
use Rattle.report.specs.ReplayLines.{key_line, status_fields}

-- fields with a space between them are the first one and the others, each after a space
join_spaced : (field : List ℕ) (fields : List (List ℕ)) → join_with_byte 32 (field ∷ fields) ≡ field ++ spaced_fields fields
join_spaced field [] = sym (append-nil field)
join_spaced field (next ∷ fields) = ap (λ (rest : List ℕ). field ++ 32 ∷ rest) (join_spaced next fields)

-- a first field and those after it, each after a space, and LF
pub line_spaced : (before word : List ℕ) (fields : List (List ℕ)) → ((before ++ word) ++ spaced_fields fields) ++ 10 ∷ [] ≡ before ++ line_of (word ∷ fields)
line_spaced before word fields = rw (join_spaced word fields) (simp append_assoc)

-- a field for each item is the items' fields, each after a space
pub spaced_map : {X : Type 0} (f : X → List ℕ) (xs : List X) → flat_map (λ x. 32 ∷ f x) xs ≡ spaced_fields (map f xs)
spaced_map f [] = refl
spaced_map f (x ∷ xs) = ap (λ (rest : List ℕ). (32 ∷ f x) ++ rest) (spaced_map f xs)

-- the fields of two lists, one list after the other
pub spaced_append : (one other : List (List ℕ)) → spaced_fields (one ++ other) ≡ spaced_fields one ++ spaced_fields other
spaced_append one other = flat_map-append (λ (field : List ℕ). 32 ∷ field) one other

-- three fields, each after a space
pub three_fields : (before one two three : List ℕ) → ((before ++ 32 ∷ one) ++ 32 ∷ two) ++ 32 ∷ three ≡ before ++ spaced_fields (one ∷ two ∷ three ∷ [])
three_fields before one two three = simp (append_assoc, append-nil)

-- the line that is written of a protocol that is not live
pub not_live_written : (before name : List ℕ) → ((before ++ codes "liveness not-live") ++ 32 ∷ name) ++ 10 ∷ [] ≡ before ++ line_of (codes "liveness" ∷ codes "not-live" ∷ name ∷ [])
not_live_written before name = simp append_assoc

-- the line that is written of a key
pub key_written : (x : Expanded) (before : List ℕ) (key : List Value) (status : KeyStatus) → (((before ++ codes "key") ++ flat_map (λ value. 32 ∷ value_spelling value) key) ++ spaced_fields (status_fields x status)) ++ 10 ∷ [] ≡ before ++ key_line x key status
key_written x before key status =
    let front = before ++ codes "key" in
    let fields = status_fields x status in
    let values = flat_map (λ value. 32 ∷ value_spelling value) key in
    let whole = ap (λ (ys : List ℕ). ys ++ spaced_fields fields) (spaced_map value_spelling key) ∙ sym (spaced_append (map value_spelling key) fields) in
    ap (λ (ys : List ℕ). ys ++ 10 ∷ []) (append_assoc front values (spaced_fields fields) ∙ ap (λ (ys : List ℕ). front ++ ys) whole)
    ∙ line_spaced before (codes "key") (map value_spelling key ++ fields)

-- lines end to end with one line more
concat_push : (lines : List (List ℕ)) (line : List ℕ) → concat (lines ++ line ∷ []) ≡ concat lines ++ line
concat_push [] line = append-nil line
concat_push (first ∷ lines) line = ap (λ (ys : List ℕ). first ++ ys) (concat_push lines line) ∙ sym (append_assoc first (concat lines) line)

-- one line more is written
pub lines_push : (before : List ℕ) (lines : List (List ℕ)) (line : List ℕ) → (before ++ concat lines) ++ line ≡ before ++ concat (lines ++ line ∷ [])
lines_push before lines line = append_assoc before (concat lines) line ∙ ap (λ (ys : List ℕ). before ++ ys) (sym (concat_push lines line))
