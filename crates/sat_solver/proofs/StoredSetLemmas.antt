-- What the slots and cells of a set keep when a literal is put in or taken out.
use Rattle.std.proofs.Common.{◌≡◌, ◌≢◌, ℕ, ◌+◌, ◌-◌, ◌<◌, ◌≤◌, List, [], ◌∷◌, ◌++◌, ◌⊎◌, inl, inr, length, take, get_or, set, sym, ap, refl, ◌∙◌, subst, arith, Contains, length-set, get_or-take, get_or-set_same, get_or-set_other}
use Rattle.std.proofs.lemmas.Bool.{cases_eq}
use Rattle.std.proofs.lemmas.List.{length-take-le, take_more_set, same_lists, get_or_default}
use Rattle.std.proofs.lemmas.List.Elements.{All-contains, Contains-get_or}
use Rattle.std.proofs.lemmas.List.Sorted.{length_permutation}
use Rattle.clause_core.specs.declared.literal.Lit.{Lit}
use Rattle.sat_solver.specs.inner.LiteralSet.{LiteralSet, IsLiteralSet, TakesOut, HasCells, IsStoredSet}
use Rattle.sat_solver.proofs.CellLemmas.{position-of, HasCells-push, without, cells_without, length-without, get_or-without, HasCells-remove, IsLiteralSet-finds, TakesOut-without, full-lt}

-- the slots after the last literal moved
take-without : (slots : List Lit) (len i : ℕ) (last : Lit) → i < len → len ≤ length slots → take (len - 1) (set slots i last) ≡ without (take len slots) i last
take-without slots len i last within filled = same_lists (take (len - 1) (set slots i last)) (without (take len slots) i last)
    (omega (arith, many, length-without (take len slots) i last (omega (arith, all, within)), all)) (λ k d before. at k d (omega (arith, before, many)) (cases_eq k i))
  where
    all : length (take len slots) ≡ len
    all = length-take-le len slots filled

    many : length (take (len - 1) (set slots i last)) ≡ len - 1
    many = length-take-le (len - 1) (set slots i last) (omega (arith, length-set slots i last, filled))

    at : (k : ℕ) (d : Lit) → k < len - 1 → (k ≡ i) ⊎ (k ≢ i) → get_or (take (len - 1) (set slots i last)) k d ≡ get_or (without (take len slots) i last) k d
    at k d before (inl same) =
        rw (get_or-take (len - 1) (set slots i last) k d before, get_or-without (take len slots) i k last d (omega (arith, all, before)), same)
        (get_or-set_same slots i last d (omega (arith, within, filled)) ∙ sym (get_or-set_same (take len slots) i last d (omega (arith, within, all))))
    at k d before (inr other) =
        rw (get_or-take (len - 1) (set slots i last) k d before, get_or-without (take len slots) i k last d (omega (arith, all, before)))
        (get_or-set_other slots i k last d other ∙ sym (get_or-take len slots k d (omega (arith, before))) ∙ sym (get_or-set_other (take len slots) i k last d other))

-- an empty cell leaves a slot
pub slot_within : (slots : List Lit) (len : ℕ) (positions : List ℕ) (l : Lit) → IsStoredSet slots len positions → 0 < l.var → l.var ≤ length positions → get_or positions (l.var - 1) 0 ≡ 0 → len < length slots
slot_within slots len positions l stored from_one exists empty =
    omega (arith, full-lt positions (l.var - 1) (omega (arith, from_one, exists)) empty, stored.finds.counted, length-take-le len slots stored.filled, stored.room)

-- one more literal is stored after the others
pub IsStoredSet-push : (slots : List Lit) (len : ℕ) (positions : List ℕ) (l : Lit) → IsStoredSet slots len positions → 0 < l.var → l.var ≤ length positions → get_or positions (l.var - 1) 0 ≡ 0 → IsStoredSet (set slots len l) (len + 1) (set positions (l.var - 1) (len + 1))
IsStoredSet-push slots len positions l stored from_one exists empty = record {
  room = length-set slots len l ∙ stored.room ∙ sym (length-set positions (l.var - 1) (len + 1));
  few = rw (length-set positions (l.var - 1) (len + 1)) stored.few;
  filled = omega (arith, within, length-set slots len l);
  finds = rw (take_more_set slots len l within)
      (subst (λ n. HasCells (take len slots ++ l ∷ []) (set positions (l.var - 1) (n + 1))) (length-take-le len slots stored.filled) (HasCells-push (take len slots) positions l stored.finds from_one exists empty));
}
  where
    within : len < length slots
    within = slot_within slots len positions l stored from_one exists empty

-- the last slot that is used has the last literal
pub last-taken : (slots : List Lit) (len : ℕ) (last : Lit) → 0 < len → len ≤ length slots → last ≡ get_or slots (len - 1) last → last ≡ get_or (take len slots) (length (take len slots) - 1) last
last-taken slots len last some filled at_end =
    rw (length-take-le len slots filled) (at_end ∙ sym (get_or-take len slots (len - 1) last (omega (arith, some))))

-- one literal less is stored
pub IsStoredSet-remove : (slots : List Lit) (len : ℕ) (positions : List ℕ) (i : ℕ) (l last : Lit) → IsStoredSet slots len positions → i < len → ((d : Lit) → get_or (take len slots) i d ≡ l) → last ≡ get_or slots (len - 1) last → IsStoredSet (set slots i last) (len - 1) (cells_without positions i l last)
IsStoredSet-remove slots len positions i l last stored within is_l at_end = record {
  room = length-set slots i last ∙ stored.room ∙ sym (length-set (set positions (last.var - 1) (i + 1)) (l.var - 1) 0 ∙ length-set positions (last.var - 1) (i + 1));
  few = rw (length-set (set positions (last.var - 1) (i + 1)) (l.var - 1) 0, length-set positions (last.var - 1) (i + 1)) stored.few;
  filled = omega (arith, length-set slots i last, stored.filled);
  finds = rw (take-without slots len i last within stored.filled)
      (HasCells-remove (take len slots) positions i l last stored.finds (omega (arith, within, all)) is_l (last-taken slots len last (omega (arith, within)) stored.filled at_end));
}
  where
    all : length (take len slots) ≡ len
    all = length-take-le len slots stored.filled

-- what is stored is a set
pub IsLiteralSet-stored : (slots : List Lit) (len : ℕ) (positions : List ℕ) → IsStoredSet slots len positions → IsLiteralSet (record { vars = length positions; lits = take len slots })
IsLiteralSet-stored slots len positions stored =
    IsLiteralSet-finds (take len slots) positions stored.finds (omega (arith, length-take-le len slots stored.filled, stored.filled, stored.room, stored.few))

-- what contracts see of one more literal
pub set_after-push : (slots : List Lit) (len : ℕ) (positions : List ℕ) (l : Lit) (v n : ℕ) → len < length slots → ◌≡◌ {A = LiteralSet} (record { vars = length (set positions v n); lits = take (len + 1) (set slots len l) }) (record { vars = length positions; lits = take len slots ++ l ∷ [] })
set_after-push slots len positions l v n within = rw (length-set positions v n, take_more_set slots len l within) refl

-- a cell that was read, with another default
read-cell : (positions : List ℕ) (l : Lit) (position : ℕ) → 0 < l.var → l.var ≤ length positions → position ≡ get_or positions (l.var - 1) position → get_or positions (l.var - 1) 0 ≡ position
read-cell positions l position from_one exists read = get_or_default positions (l.var - 1) 0 position (omega (arith, from_one, exists)) ∙ sym read

-- a position that was read has a slot
pub position-within : (slots : List Lit) (len : ℕ) (positions : List ℕ) (l : Lit) (position : ℕ) → IsStoredSet slots len positions → 0 < l.var → l.var ≤ length positions → position ≡ get_or positions (l.var - 1) position → position ≢ 0 → position - 1 < len
position-within slots len positions l position stored from_one exists read some =
    let next : position ≡ position - 1 + 1 = omega (arith, some) in
    let there = stored.finds.back (l.var - 1) (position - 1) l (read-cell positions l position from_one exists read ∙ next) in
    omega (arith, there.0, length-take-le len slots stored.filled)

-- the literal is in the set where its position has it
pub has-at : (slots : List Lit) (len : ℕ) (positions : List ℕ) (l found : Lit) (position : ℕ) → IsStoredSet slots len positions → 0 < l.var → l.var ≤ length positions → position ≡ get_or positions (l.var - 1) position → position ≢ 0 → found ≡ get_or slots (position - 1) found → ((found ≡ l) → Contains (take len slots) l) × (Contains (take len slots) l → found ≡ l)
has-at slots len positions l found position stored from_one exists read some at_position = (
  λ same. (position - 1, omega (arith, within, all), get_or-take len slots (position - 1) l within ∙ get_or_default slots (position - 1) l found (omega (arith, within, stored.filled)) ∙ sym at_position ∙ same),
  λ among.
      let at = position-of (take len slots) positions l stored.finds among in
      let first : position ≡ at.0 + 1 = sym (read-cell positions l position from_one exists read) ∙ at.2 in
      let same : position - 1 ≡ at.0 = omega (arith, first) in
      at_position ∙ ap (λ k. get_or slots k found) same ∙ sym (get_or-take len slots at.0 found (omega (arith, at.1, all))) ∙ at.3 found,
)
  where
    within : position - 1 < len
    within = position-within slots len positions l position stored from_one exists read some

    all : length (take len slots) ≡ len
    all = length-take-le len slots stored.filled

-- the position of a member that was read
pub record IsPlaceOf (lits : List Lit) (l : Lit) (position : ℕ) : Type 0 where
  pub from_one : 0 < position
  pub within : position - 1 < length lits
  pub is_l : (d : Lit) → get_or lits (position - 1) d ≡ l

-- a member's position
pub position-read : (slots : List Lit) (len : ℕ) (positions : List ℕ) (l : Lit) (position : ℕ) → IsStoredSet slots len positions → Contains (take len slots) l → position ≡ get_or positions (l.var - 1) position → IsPlaceOf (take len slots) l position
position-read slots len positions l position stored among read =
    let at = position-of (take len slots) positions l stored.finds among in
    let exists : (0 < l.var) × (l.var ≤ length positions) = All-contains (λ m. (0 < m.var) × (m.var ≤ length positions)) (take len slots) l stored.finds.exist among in
    let first : position ≡ at.0 + 1 = sym (read-cell positions l position exists.0 exists.1 read) ∙ at.2 in
    let same : at.0 ≡ position - 1 = omega (arith, first) in
    record {
      from_one = omega (arith, first);
      within = omega (arith, same, at.1);
      is_l = λ d. subst (λ k. get_or (take len slots) k d ≡ l) same (at.3 d);
    }

-- one literal less is stored, by the position that was read
pub IsStoredSet-taken : (slots : List Lit) (len : ℕ) (positions : List ℕ) (l last : Lit) (position : ℕ) → IsStoredSet slots len positions → Contains (take len slots) l → position ≡ get_or positions (l.var - 1) position → last ≡ get_or slots (len - 1) last → IsStoredSet (set slots (position - 1) last) (len - 1) (set (set positions (last.var - 1) position) (l.var - 1) 0)
IsStoredSet-taken slots len positions l last position stored among read at_end =
    let at = position-read slots len positions l position stored among read in
    let whole : position - 1 + 1 ≡ position = omega (arith, at.from_one) in
    subst (λ n. IsStoredSet (set slots (position - 1) last) (len - 1) (set (set positions (last.var - 1) n) (l.var - 1) 0)) whole
    (IsStoredSet-remove slots len positions (position - 1) l last stored (omega (arith, at.within, length-take-le len slots stored.filled)) at.is_l at_end)

-- the literal is taken out of what is stored
pub TakesOut-stored : (slots : List Lit) (len : ℕ) (positions : List ℕ) (l last : Lit) (position : ℕ) → IsStoredSet slots len positions → Contains (take len slots) l → position ≡ get_or positions (l.var - 1) position → last ≡ get_or slots (len - 1) last → TakesOut (take len slots) l (take (len - 1) (set slots (position - 1) last))
TakesOut-stored slots len positions l last position stored among read at_end =
    let at = position-read slots len positions l position stored among read in
    let within : position - 1 < len = omega (arith, at.within, length-take-le len slots stored.filled) in
    rw (take-without slots len (position - 1) last within stored.filled)
    (TakesOut-without (take len slots) positions (position - 1) l last stored.finds at.within at.is_l (last-taken slots len last (omega (arith, within)) stored.filled at_end))

-- the last literal is one of the set
pub last-member : (slots : List Lit) (len : ℕ) (positions : List ℕ) (last : Lit) → IsStoredSet slots len positions → 0 < len → last ≡ get_or slots (len - 1) last → Contains (take len slots) last
last-member slots len positions last stored some at_end =
    subst (Contains (take len slots)) (get_or-take len slots (len - 1) last (omega (arith, some)) ∙ sym at_end)
    (Contains-get_or (take len slots) (len - 1) last (omega (arith, some, length-take-le len slots stored.filled)))

-- one literal less is left
pub fewer-taken : (old new : List Lit) (l : Lit) → TakesOut old l new → length new < length old
fewer-taken old new l taken = omega (arith, length_permutation old (l ∷ new) taken.others)
