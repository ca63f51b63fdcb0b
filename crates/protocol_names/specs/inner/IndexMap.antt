-- A map from names to their first indices in a list.
use Rattle.std.specs.Prelude.{◌≡◌, ℕ, ◌+◌, ◌-◌, ◌*◌, ◌%◌, ◌^◌, ◌<◌, Bool, cond, get_or}
use Rattle.std.specs.Prelude.{List, [], map, length, drop, Option, Some, None}
use denote.Ref.{Bor}
use Rattle.std.specs.List.{fold, position}
use Rattle.std.specs.Option.{unwrap_or}
use Rattle.std.specs.Ordering.{nat_cmp}
use Rattle.std.specs.Str.{bytes_eq}
use Rattle.std.specs.Cmp.Lexicographic.{slice_cmp}
use Rattle.std.specs.BTreeMap.{BTreeMap, get, get_by}

-- the bytes of names that are lent
abbrev pub bytes_of : List (Bor (List ℕ)) → List (List ℕ)
bytes_of names = map (λ n. n.now) names

-- minus the bytes as digits to the base 257, of which 64 bits are kept
abbrev pub number_to_base : List ℕ → ℕ
number_to_base bytes =
    fold (λ number byte. (number * 257 % 2 ^ 64 + (2 ^ 64 - byte)) % 2 ^ 64) 0 bytes

-- the number of a name: that of its last sixteen bytes
abbrev pub number_of : List ℕ → ℕ
number_of name = number_to_base (drop (length name - 16) name)

-- the index at a number
abbrev pub at_number : BTreeMap ℕ ℕ → ℕ → Option ℕ
at_number map number = get nat_cmp map number

-- the index at a name
abbrev pub at_name : BTreeMap (Bor (List ℕ)) ℕ → List ℕ → Option ℕ
at_name map name = get_by (λ key. slice_cmp nat_cmp name key.now) map

-- the key keeps the index that it has, or else gets this one, and the other keys keep theirs
pub record KeepsIndex {K : Type 0} (same : K → K → Bool) (key : K) (index : ℕ)
    (old new : K → Option ℕ) (first : ℕ) : Type 0 where
  pub first_is : first ≡ unwrap_or (old key) index
  pub others : (other : K) → new other ≡ cond (same key other) (Some first) (old other)

-- the index at the name's number, if that is an index of the name, and else the index at the name
abbrev pub chosen : List (List ℕ) → List ℕ → Option ℕ → Option ℕ → Option ℕ
chosen names name None other = None
chosen names name (Some i) other = cond (bytes_eq (get_or names i []) name) (Some i) other

-- the first index of each name of the list is found, and nothing for another name
pub record IsIndexMap (names : List (List ℕ)) (numbers : ℕ → Option ℕ)
    (others : List ℕ → Option ℕ) : Type 0 where
  pub finds : (name : List ℕ) → chosen names name (numbers (number_of name)) (others name)
      ≡ position (λ n. bytes_eq n name) names
  pub within : (number i : ℕ) → numbers number ≡ Some i → i < length names
  pub taken : (name : List ℕ) → numbers (number_of name) ≡ None → others name ≡ None
