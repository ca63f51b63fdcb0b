-- What the counts of blocks become as an envelope comes or leaves.
use Rattle.std.proofs.Common.{◌≡◌, ℕ, zero, suc, ◌+◌, ◌-◌, ◌*◌, ◌<◌, ◌≤◌, Bool, true, false, cond, List, [], ◌∷◌, ◌++◌, length, get_or, take, drop, slice_set, inl, inr, refl, sym, ap, ◌∙◌, subst, arith, length-append}
use Rattle.std.specs.Prelude.{◌==◌}
use Rattle.std.specs.List.{count_by, sum, sum_by}
use Rattle.std.proofs.Math.Nat.{mul-add, mul-zero}
use Rattle.std.proofs.Math.Seq.{take-nil}
use Rattle.std.proofs.lemmas.Bool.{cases_Bool, cases_lt, eqb-true}
use Rattle.std.proofs.lemmas.Bool.Decides.{nat_tests}
use Rattle.std.proofs.lemmas.List.{get_or-take, get_or_past, length-set, length-take, take-append-le, take-set-le, take_all, take-take}
use Rattle.std.proofs.lemmas.List.Sums.{count_by_more_yes, sum_by_more, sum_by-set, sum_by_push, sum_by-take-drop, sum_by-take-le, get_or-le-sum_by, count_by-le-length}
use Rattle.reorder_net.specs.inner.Slots.{is_held}
use Rattle.reorder_net.specs.inner.Counts.{AreCounts, IsAbove, lowered, raised}

-- of the first items one is changed, if it is among them
take_changed : {X : Type 0} (n : ℕ) (xs : List X) (i : ℕ) (y : X) → take n (slice_set xs i y) ≡ slice_set (take n xs) i y
take_changed zero xs i y = refl
take_changed (suc n) [] i y = refl
take_changed (suc n) (x ∷ xs) zero y = refl
take_changed (suc n) (x ∷ xs) (suc i) y = ap (λ l. x ∷ l) (take_changed n xs i y)

-- one item past the first ones changes nothing in their sum, and one among them changes it
sum_changed : {X : Type 0} (f : X → ℕ) (n : ℕ) (xs : List X) (i : ℕ) (y d : X) → i < length xs → i < n → sum_by f (take n (slice_set xs i y)) + f (get_or xs i d) ≡ sum_by f (take n xs) + f y
sum_changed f n xs i y d within among =
    let less : i < length (take n xs) = omega (arith, length-take n xs) in
    ap (λ l. sum_by f l + f (get_or xs i d)) (take_changed n xs i y)
    ∙ ap (λ x. sum_by f (slice_set (take n xs) i y) + f x) (sym (get_or-take n xs i d among))
    ∙ sum_by-set f (take n xs) i y d less

sum_kept : {X : Type 0} (f : X → ℕ) (n : ℕ) (xs : List X) (i : ℕ) (y : X) → n ≤ i → sum_by f (take n (slice_set xs i y)) ≡ sum_by f (take n xs)
sum_kept f n xs i y past = ap (sum_by f) (take-set-le n xs i y past)

-- of the first items with one more at the end
sum_longer : {X : Type 0} (f : X → ℕ) (n : ℕ) (xs : List X) (y : X) → length xs < n → sum_by f (take n (xs ++ y ∷ [])) ≡ sum_by f (take n xs) + f y
sum_longer f n xs y all =
    ap (sum_by f) (take_all n (xs ++ y ∷ []) (omega (arith, length-append xs (y ∷ []))))
    ∙ sum_by_push f xs y ∙ ap (λ l. sum_by f l + f y) (sym (take_all n xs (omega (arith, all))))

sum_before : {X : Type 0} (f : X → ℕ) (n : ℕ) (xs : List X) (y : X) → n ≤ length xs → sum_by f (take n (xs ++ y ∷ [])) ≡ sum_by f (take n xs)
sum_before f n xs y some = ap (sum_by f) (take-append-le n xs (y ∷ []) some)

-- the marks before a block's end are those of its index or before
abbrev pub IsBlockOf : ℕ → ℕ → ℕ → Type 0
IsBlockOf width q s = (b : ℕ) → (q < b → s < width * b) × (b ≤ q → width * b ≤ s)

-- of more first items the sum is larger
sum_grows : {X : Type 0} (f : X → ℕ) (a b : ℕ) (xs : List X) → a ≤ b → sum_by f (take a xs) ≤ sum_by f (take b xs)
sum_grows f a b xs less = subst (λ l. sum_by f l ≤ sum_by f (take b xs)) (take-take a b xs less) (sum_by-take-le f (take b xs) a)

-- all counts together
pub total : (width : ℕ) (marks : List Bool) (counts : List ℕ) → AreCounts width marks counts → sum counts ≡ count_by is_held marks
total width marks counts are =
    ap sum (sym (take_all (length counts) counts (omega arith))) ∙ are.sums (length counts) ∙ ap (count_by is_held) (take_all (width * length counts) marks are.all)

-- the slot's block is counted
pub block_within : (width : ℕ) (marks : List Bool) (counts : List ℕ) (q s : ℕ) → AreCounts width marks counts → IsBlockOf width q s → s < length marks → q < length counts
block_within width marks counts q s are block within = elim (cases_lt q (length counts)) [
  | inl less ↦ less
  | inr more ↦ let past = (block (length counts)).1 more in absurd (omega (arith, past, are.all, within))
]

-- and has a count, if the slot's envelope is held
pub block_some : (width : ℕ) (marks : List Bool) (counts : List ℕ) (q s : ℕ) → AreCounts width marks counts → IsBlockOf width q s → s < length marks → is_held (get_or marks s false) ≡ true → 0 < get_or counts q 0
block_some width marks counts q s are block within some =
    let counted : q < length counts = block_within width marks counts q s are block within in
    let here : count_by is_held (take (s + 1) marks) ≡ count_by is_held (take s marks) + 1 = count_by_more_yes is_held marks s false within some in
    let before : count_by is_held (take (width * q) marks) ≤ count_by is_held (take s marks) = sum_grows (λ mark. cond (is_held mark) 1 0) (width * q) s marks ((block q).1 (omega arith)) in
    let end : s < width * (q + 1) = (block (q + 1)).0 (omega arith) in
    let after : count_by is_held (take (s + 1) marks) ≤ count_by is_held (take (width * (q + 1)) marks) = sum_grows (λ mark. cond (is_held mark) 1 0) (s + 1) (width * (q + 1)) marks (omega (arith, end)) in
    let more : sum (take (q + 1) counts) ≡ sum (take q counts) + get_or counts q 0 = sum_by_more (λ x. x) counts q 0 counted in
    let first = are.sums q in
    let second = are.sums (q + 1) in
    omega (arith, here, before, after, more, first, second)

-- no count is larger than the number of marks
pub counts_small : (width : ℕ) (marks : List Bool) (counts : List ℕ) (q : ℕ) → AreCounts width marks counts → q ≤ length counts → get_or counts q 0 ≤ length marks
counts_small width marks counts q are within = elim (cases_lt q (length counts)) [
  | inl less ↦ let part : get_or counts q 0 ≤ sum counts = get_or-le-sum_by (λ x. x) counts q 0 less in omega (arith, part, total width marks counts are, count_by-le-length is_held marks)
  | inr more ↦ let none : get_or counts q 0 ≡ 0 = get_or_past counts q 0 more in omega (arith, none)
]

-- the counts of the first blocks, as an envelope comes into the next slot
sums_longer : (width b : ℕ) (marks : List Bool) (q : ℕ) (mark : Bool) → IsBlockOf width q (length marks) → is_held mark ≡ true → q < b → count_by is_held (take (width * b) (marks ++ mark ∷ [])) ≡ count_by is_held (take (width * b) marks) + 1
sums_longer width b marks q mark block some less =
    sum_longer (λ x. cond (is_held x) 1 0) (width * b) marks mark ((block b).0 less)
    ∙ ap (λ p. count_by is_held (take (width * b) marks) + cond p 1 0) some

sums_before : (width b : ℕ) (marks : List Bool) (q : ℕ) (mark : Bool) → IsBlockOf width q (length marks) → b ≤ q → count_by is_held (take (width * b) (marks ++ mark ∷ [])) ≡ count_by is_held (take (width * b) marks)
sums_before width b marks q mark block more = sum_before (λ x. cond (is_held x) 1 0) (width * b) marks mark ((block b).1 more)

-- a block begins with the envelope in the next slot
counts_begun : (width : ℕ) (marks : List Bool) (counts : List ℕ) (q : ℕ) (mark : Bool) → AreCounts width marks counts → IsBlockOf width q (length marks) → q ≡ length counts → is_held mark ≡ true → AreCounts width (marks ++ mark ∷ []) (counts ++ 1 ∷ [])
counts_begun width marks counts q mark are block last some =
    let long : length (marks ++ mark ∷ []) ≡ length marks + 1 = length-append marks (mark ∷ []) in
    let more : length (counts ++ 1 ∷ []) ≡ q + 1 = omega (arith, length-append counts (1 ∷ []), last) in
    let size : width * length (counts ++ 1 ∷ []) ≡ width * (q + 1) = ap (λ n. width * n) more in
    let wider : width * (q + 1) ≡ width * q + width * 1 = mul-add width q 1 in
    let end = (block (q + 1)).0 (omega arith) in
    let start = (block q).1 (omega arith) in
    record {
      all = omega (arith, long, size, end);
      few = omega (arith, long, size, wider, start);
      sums = λ b. elim (cases_lt q b) [
        | inl less ↦
            sum_longer (λ x. x) b counts 1 (omega (arith, less, last)) ∙ ap (λ n. n + 1) (are.sums b) ∙ sym (sums_longer width b marks q mark block some less)
        | inr past ↦
            sum_before (λ x. x) b counts 1 (omega (arith, past, last)) ∙ are.sums b ∙ sym (sums_before width b marks q mark block past)
      ];
    }

-- or has it in addition
counts_more : (width : ℕ) (marks : List Bool) (counts : List ℕ) (q : ℕ) (mark : Bool) → AreCounts width marks counts → IsBlockOf width q (length marks) → q < length counts → is_held mark ≡ true → AreCounts width (marks ++ mark ∷ []) (slice_set counts q (get_or counts q 0 + 1))
counts_more width marks counts q mark are block within some =
    let long : length (marks ++ mark ∷ []) ≡ length marks + 1 = length-append marks (mark ∷ []) in
    let same : length (slice_set counts q (get_or counts q 0 + 1)) ≡ length counts = length-set counts q (get_or counts q 0 + 1) in
    let size : width * length (slice_set counts q (get_or counts q 0 + 1)) ≡ width * length counts = ap (λ n. width * n) same in
    let end = (block (length counts)).0 within in
    record {
      all = omega (arith, long, size, end);
      few = omega (arith, long, size, are.few);
      sums = λ b. elim (cases_lt q b) [
        | inl less ↦
            let changed : sum (take b (slice_set counts q (get_or counts q 0 + 1))) + get_or counts q 0 ≡ sum (take b counts) + (get_or counts q 0 + 1) = sum_changed (λ x. x) b counts q (get_or counts q 0 + 1) 0 within less in
            let one : sum (take b (slice_set counts q (get_or counts q 0 + 1))) ≡ sum (take b counts) + 1 = omega (arith, changed) in
            one ∙ ap (λ n. n + 1) (are.sums b) ∙ sym (sums_longer width b marks q mark block some less)
        | inr past ↦
            sum_kept (λ x. x) b counts q (get_or counts q 0 + 1) past ∙ are.sums b ∙ sym (sums_before width b marks q mark block past)
      ];
    }

-- with an envelope in the next slot, its block counts one more
pub counts_raised : (width : ℕ) (marks : List Bool) (counts : List ℕ) (q : ℕ) (mark : Bool) → AreCounts width marks counts → IsBlockOf width q (length marks) → q ≤ length counts → is_held mark ≡ true → AreCounts width (marks ++ mark ∷ []) (raised counts q)
counts_raised width marks counts q mark are block within some = elim (cases_Bool (q == length counts)) [
  | inl is_yes ↦ rw is_yes (counts_begun width marks counts q mark are block (eqb-true q (length counts) is_yes) some)
  | inr is_no ↦ rw is_no (counts_more width marks counts q mark are block (below q (length counts) within is_no) some)
]
  where
    below : (m n : ℕ) → m ≤ n → (m == n) ≡ false → m < n
    below m n within is_no = grind (arith, nat_tests)

-- the next slot is in a block that is counted, or in the next one
pub next_block : (width : ℕ) (marks : List Bool) (counts : List ℕ) (q : ℕ) → AreCounts width marks counts → IsBlockOf width q (length marks) → q ≤ length counts
next_block width marks counts q are block = elim (cases_lt (length counts) q) [
  | inl past ↦
      let wider : width * (length counts + 1) ≡ width * length counts + width * 1 = mul-add width (length counts) 1 in
      let start = (block (length counts + 1)).1 (omega arith) in
      absurd (omega (arith, wider, start, are.all))
  | inr within ↦ within
]

-- as the last copy of a slot leaves, its block counts one less
pub counts_lowered : (width : ℕ) (marks : List Bool) (counts : List ℕ) (q s : ℕ) (mark : Bool) → AreCounts width marks counts → IsBlockOf width q s → s < length marks → is_held (get_or marks s false) ≡ true → is_held mark ≡ false → AreCounts width (slice_set marks s mark) (lowered counts q)
counts_lowered width marks counts q s mark are block within some none =
    let counted : q < length counts = block_within width marks counts q s are block within in
    let positive : 0 < get_or counts q 0 = block_some width marks counts q s are block within some in
    let less_one = get_or counts q 0 - 1 in
    let weight : Bool → ℕ = λ x. cond (is_held x) 1 0 in
    let was : weight (get_or marks s false) ≡ 1 = ap (λ p. cond p 1 0) some in
    let is : weight mark ≡ 0 = ap (λ p. cond p 1 0) none in
    let size : width * length (lowered counts q) ≡ width * length counts = ap (λ n. width * n) (length-set counts q less_one) in
    let long : length (slice_set marks s mark) ≡ length marks = length-set marks s mark in
    record {
      all = omega (arith, size, long, are.all);
      few = omega (arith, size, long, are.few);
      sums = λ b. elim (cases_lt q b) [
        | inl less ↦
            let count : sum (take b (lowered counts q)) + get_or counts q 0 ≡ sum (take b counts) + less_one = sum_changed (λ x. x) b counts q less_one 0 counted less in
            let held : sum_by weight (take (width * b) (slice_set marks s mark)) + weight (get_or marks s false) ≡ sum_by weight (take (width * b) marks) + weight mark = sum_changed weight (width * b) marks s mark false within ((block b).0 less) in
            let sums = are.sums b in
            omega (arith, count, held, was, is, positive, sums)
        | inr past ↦
            sum_kept (λ x. x) b counts q less_one past ∙ are.sums b ∙ sym (sum_kept weight (width * b) marks s mark ((block b).1 past))
      ];
    }

-- no marks have no counts
pub none_counted : (width : ℕ) → 0 < width → AreCounts width [] []
none_counted width wide = record {
  all = omega arith;
  few = let none : width * 0 ≡ 0 = mul-zero width in omega (arith, none, wide);
  sums = λ b. rw (take-nil b) (rw (take-nil (width * b)) refl);
}

-- the next search is within its list
pub next_blocks : (marks : List Bool) (blocks groups : List ℕ) (i g left : ℕ) → AreCounts 32 marks blocks → AreCounts 1024 marks groups → i < count_by is_held marks → IsAbove groups i g left → left < sum (drop (g * 32) blocks)
next_blocks marks blocks groups i g left are_blocks are_groups within above =
    let same : 32 * (g * 32) ≡ 1024 * g = omega arith in
    let first : sum (take (g * 32) blocks) ≡ sum (take g groups) = are_blocks.sums (g * 32) ∙ ap (λ n. count_by is_held (take n marks)) same ∙ sym (are_groups.sums g) in
    let both : sum (take (g * 32) blocks) + sum (drop (g * 32) blocks) ≡ sum blocks = sum_by-take-drop (λ x. x) blocks (g * 32) in
    let all = total 32 marks blocks are_blocks in
    omega (arith, first, both, all, within, above.before)

-- as many are held before the group and left there as the index says
pub all_before : (marks : List Bool) (blocks groups : List ℕ) (i g left : ℕ) → AreCounts 32 marks blocks → AreCounts 1024 marks groups → IsAbove groups i g left → sum (take (g * 32) blocks) + left ≡ i
all_before marks blocks groups i g left are_blocks are_groups above =
    let same : 32 * (g * 32) ≡ 1024 * g = omega arith in
    let first : sum (take (g * 32) blocks) ≡ sum (take g groups) = are_blocks.sums (g * 32) ∙ ap (λ n. count_by is_held (take n marks)) same ∙ sym (are_groups.sums g) in
    omega (arith, first, above.before)

pub next_slots : (marks : List Bool) (blocks : List ℕ) (i b left : ℕ) → AreCounts 32 marks blocks → i < count_by is_held marks → IsAbove blocks i b left → (left < count_by is_held (drop (b * 32) marks)) × (i ≡ count_by is_held (take (b * 32) marks) + left)
next_slots marks blocks i b left are within above =
    let first : sum (take b blocks) ≡ count_by is_held (take (b * 32) marks) = are.sums b ∙ ap (λ n. count_by is_held (take n marks)) (omega arith) in
    let both : count_by is_held (take (b * 32) marks) + count_by is_held (drop (b * 32) marks) ≡ count_by is_held marks = sum_by-take-drop (λ x. cond (is_held x) 1 0) marks (b * 32) in
    (omega (arith, first, both, within, above.before), omega (arith, first, above.before))
