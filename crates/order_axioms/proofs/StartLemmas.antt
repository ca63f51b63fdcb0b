-- Where the clauses of a kind start among those of the order.
use Rattle.std.proofs.Common.{◌≡◌, inl, inr, true, false, leb, ℕ, zero, suc, ◌+◌, ◌-◌, ◌*◌, ◌<◌, ◌≤◌, List, [], ◌∷◌, length, get_or, map, ◌++◌, ap, ◌∙◌, sym, subst, arith, length-append, refl}
use Rattle.std.specs.List.{flat_map, range_with_len}
use Rattle.std.specs.List.Sorted.{IsNonDecreasingBy, IsPartitionPoint}
use Rattle.std.proofs.lemmas.Bool.{cases_lt, leb-false, leb-true}
use Rattle.std.proofs.lemmas.List.FromFn.{get_or-map-range_with_len, length-map-range_with_len, length-range_with_len, map-range_with_len_more}
use Rattle.order_axioms.specs.declared.order.Order.{Order}
use Rattle.order_axioms.specs.Order.{cycles_of_one, cycles_of_three, cycles_of_two, kinds_after, order_list}
use Rattle.order_axioms.specs.inner.Starts.{AreCycleStarts, ArePairStarts, IsReached, cycle_start, pair_start}
use Rattle.order_axioms.proofs.PieceLemmas.{length_of_twos}

-- one kind more
pub pair_start_more : (kinds j : ℕ) → pair_start kinds (j + 1) ≡ pair_start kinds j + 2 * (kinds - (j + 1))
pair_start_more kinds j =
    let next : j + 1 ≡ suc j = omega arith in
    ap (pair_start kinds) next ∙ ap (λ (k : ℕ). pair_start kinds j + 2 * (kinds - k)) (sym next)

pub cycle_start_more : (kinds i : ℕ) → cycle_start kinds (i + 1) ≡ cycle_start kinds i + (pair_start kinds kinds - pair_start kinds (i + 1))
cycle_start_more kinds i =
    let next : i + 1 ≡ suc i = omega arith in
    ap (cycle_start kinds) next ∙ ap (λ (k : ℕ). cycle_start kinds i + (pair_start kinds kinds - pair_start kinds k)) (sym next)

-- later starts are not lower
rising : (f : ℕ → ℕ) (a n : ℕ) → ((k : ℕ) → f k ≤ f (k + 1)) → f a ≤ f (a + n)
rising f a zero step = let same : a ≡ a + zero = omega arith in omega (arith, ap f same)
rising f a (suc n) step =
    let next : a + suc n ≡ a + n + 1 = omega arith in
    omega (arith, rising f a n step, step (a + n), ap f next)

rising_to : (f : ℕ → ℕ) (a b : ℕ) → ((k : ℕ) → f k ≤ f (k + 1)) → a ≤ b → f a ≤ f b
rising_to f a b step before = subst (λ (c : ℕ). f a ≤ f c) (let whole : a + (b - a) ≡ b = omega (arith, before) in whole) (rising f a (b - a) step)

pub pair_starts_rise : (kinds a b : ℕ) → a ≤ b → pair_start kinds a ≤ pair_start kinds b
pair_starts_rise kinds a b before = rising_to (pair_start kinds) a b (λ k. omega (arith, pair_start_more kinds k)) before

pub cycle_starts_rise : (kinds a b : ℕ) → a ≤ b → cycle_start kinds a ≤ cycle_start kinds b
cycle_starts_rise kinds a b before = rising_to (cycle_start kinds) a b (λ k. omega (arith, cycle_start_more kinds k)) before

-- they are small
pub pair_start_small : (kinds j : ℕ) → kinds ≤ 128 → pair_start kinds j ≤ 256 * j
pair_start_small kinds zero few = omega arith
pair_start_small kinds (suc j) few = omega (arith, pair_start_small kinds j few, few)

pub cycle_start_small : (kinds i : ℕ) → kinds ≤ 128 → cycle_start kinds i ≤ 32768 * i
cycle_start_small kinds zero few = omega arith
cycle_start_small kinds (suc i) few = omega (arith, cycle_start_small kinds i few, pair_start_small kinds kinds few, few)

-- the clauses of two kinds
pub two_length : (order : Order) (i j : ℕ) → length (cycles_of_two order i j) ≡ 2 * (order.kinds - j)
two_length order i j =
    omega (arith, length_of_twos (cycles_of_three order i j) (kinds_after order j) (λ _. refl), length-range_with_len (j + 1) (order.kinds - j))

-- those of some kinds with the second kind among others
pub pairs_length : (order : Order) (i a n : ℕ) → length (flat_map (cycles_of_two order i) (range_with_len (a + 1) n)) + pair_start order.kinds a ≡ pair_start order.kinds (a + n)
pairs_length order i a zero = let same : a ≡ a + zero = omega arith in omega (arith, ap (pair_start order.kinds) same)
pairs_length order i a (suc n) =
    let whole : a + 1 + n ≡ a + suc n = omega arith in
    omega (arith, length-append (cycles_of_two order i (a + 1)) (flat_map (cycles_of_two order i) (range_with_len (a + 1 + 1) n)), two_length order i (a + 1), pairs_length order i (a + 1) n, pair_start_more order.kinds a, ap (pair_start order.kinds) whole)

-- those of one kind
pub one_length : (order : Order) (i : ℕ) → i ≤ order.kinds → length (cycles_of_one order i) + pair_start order.kinds i ≡ pair_start order.kinds order.kinds
one_length order i within =
    let whole : i + (order.kinds - i) ≡ order.kinds = omega (arith, within) in
    pairs_length order i i (order.kinds - i) ∙ ap (pair_start order.kinds) whole

-- those with the first kind among some
pub cycles_length : (order : Order) (a n : ℕ) → a + n ≤ order.kinds → length (flat_map (cycles_of_one order) (range_with_len (a + 1) n)) + cycle_start order.kinds a ≡ cycle_start order.kinds (a + n)
cycles_length order a zero within = let same : a ≡ a + zero = omega arith in omega (arith, ap (cycle_start order.kinds) same)
cycles_length order a (suc n) within =
    let whole : a + 1 + n ≡ a + suc n = omega arith in
    omega (arith, length-append (cycles_of_one order (a + 1)) (flat_map (cycles_of_one order) (range_with_len (a + 1 + 1) n)), one_length order (a + 1) (omega (arith, within)), cycles_length order (a + 1) n (omega (arith, within)), cycle_start_more order.kinds a, ap (cycle_start order.kinds) whole)

-- all
pub order_length : (order : Order) → length (order_list order) ≡ cycle_start order.kinds order.kinds
order_length order =
    let whole : 0 + (order.kinds - 0) ≡ order.kinds = omega arith in
    omega (arith, cycles_length order 0 (order.kinds - 0) (omega arith), ap (cycle_start order.kinds) whole)

-- the starts in a table
pub pair_at : (kinds j : ℕ) (starts : List ℕ) (d : ℕ) → ArePairStarts kinds starts → j ≤ kinds → get_or starts j d ≡ pair_start kinds j
pair_at kinds j starts d are within =
    ap (λ (xs : List ℕ). get_or xs j d) are.all ∙ get_or-map-range_with_len (pair_start kinds) 0 (kinds + 1) j j d (omega (arith, within)) (omega arith)

pub cycle_at : (kinds i : ℕ) (starts : List ℕ) (d : ℕ) → AreCycleStarts kinds starts → i ≤ kinds → get_or starts i d ≡ cycle_start kinds i
cycle_at kinds i starts d are within =
    ap (λ (xs : List ℕ). get_or xs i d) are.all ∙ get_or-map-range_with_len (cycle_start kinds) 0 (kinds + 1) i i d (omega (arith, within)) (omega arith)

pub pairs_many : (kinds : ℕ) (starts : List ℕ) → ArePairStarts kinds starts → length starts ≡ kinds + 1
pairs_many kinds starts are = ap length are.all ∙ length-map-range_with_len (pair_start kinds) 0 (kinds + 1)

pub cycles_many : (kinds : ℕ) (starts : List ℕ) → AreCycleStarts kinds starts → length starts ≡ kinds + 1
cycles_many kinds starts are = ap length are.all ∙ length-map-range_with_len (cycle_start kinds) 0 (kinds + 1)

-- ---- tables that are filled

-- one start more
pub starts_next : (f : ℕ → ℕ) (kind value : ℕ) (starts new : List ℕ) → starts ≡ map f (range_with_len 0 kind) → value ≡ f (kind + 1 - 1) → new ≡ starts ++ value ∷ [] → new ≡ map f (range_with_len 0 (kind + 1))
starts_next f kind value starts new so_far is is_new =
    let here : kind + 1 - 1 ≡ kind = omega arith in
    let at : value ≡ f kind = is ∙ ap f here in
    is_new ∙ (λ n. so_far n ++ at n ∷ []) ∙ sym (map-range_with_len_more f 0 kind kind (omega arith))

pub pair_start_next : (kinds kind start : ℕ) → 1 ≤ kind → start ≡ pair_start kinds (kind - 1) → start + 2 * (kinds - kind) ≡ pair_start kinds (kind + 1 - 1)
pair_start_next kinds kind start from is =
    let back : kind - 1 + 1 ≡ kind = omega (arith, from) in
    let here : kind + 1 - 1 ≡ kind = omega arith in
    omega (arith, is, pair_start_more kinds (kind - 1), ap (pair_start kinds) back, ap (pair_start kinds) here, back)

pub cycle_start_next : (kinds kind start : ℕ) (pairs : List ℕ) → 1 ≤ kind → kind ≤ kinds → ArePairStarts kinds pairs → start ≡ cycle_start kinds (kind - 1) → start + (get_or pairs kinds 0 - get_or pairs kind 0) ≡ cycle_start kinds (kind + 1 - 1)
cycle_start_next kinds kind start pairs from within are is =
    let back : kind - 1 + 1 ≡ kind = omega (arith, from) in
    let here : kind + 1 - 1 ≡ kind = omega arith in
    omega (arith, is, cycle_start_more kinds (kind - 1), ap (cycle_start kinds) back, ap (cycle_start kinds) here, ap (pair_start kinds) back, pair_at kinds kinds pairs 0 are (omega arith), pair_at kinds kind pairs 0 are within)

-- ---- a search in a table

-- up to the point the starts are at most the index, and from there on they are greater
pub reached_at : (kinds : ℕ) (f : ℕ → ℕ) (starts : List ℕ) (index point : ℕ) → starts ≡ map f (range_with_len 0 (kinds + 1)) → f 0 ≡ 0 → index < f kinds → point ≤ length starts → IsPartitionPoint (λ start. leb start index ≡ true) (λ start. leb start index ≡ false) starts point → IsReached kinds f index point
reached_at kinds f starts index point are zero_first below bound is = record { some = some; up_to = within; before = before; after = after }
  where
    many : length starts ≡ kinds + 1
    many = ap length are ∙ length-map-range_with_len f 0 (kinds + 1)

    at : (k : ℕ) → k ≤ kinds → get_or starts k 0 ≡ f k
    at k within = ap (λ (xs : List ℕ). get_or xs k 0) are ∙ get_or-map-range_with_len f 0 (kinds + 1) k k 0 (omega (arith, within)) (omega arith)

    some : 0 < point
    some = elim (cases_lt 0 point) [
      | inl less ↦ less
      | inr none ↦ absurd (omega (arith, zero_first, at 0 (omega arith), leb-false (get_or starts 0 0) index (is.1 0 0 none (omega (arith, many)))))
    ]

    within : point ≤ kinds
    within = elim (cases_lt kinds point) [
      | inl past ↦ absurd (omega (arith, below, at kinds (omega arith), leb-true (get_or starts kinds 0) index (is.0 kinds 0 (omega arith) past)))
      | inr less ↦ less
    ]

    before : f (point - 1) ≤ index
    before = omega (arith, at (point - 1) (omega (arith, within)), leb-true (get_or starts (point - 1) 0) index (is.0 (point - 1) 0 (omega arith) (omega (arith, some))))

    after : index < f point
    after = omega (arith, at point within, leb-false (get_or starts point 0) index (is.1 point 0 (omega arith) (omega (arith, within, many))))

-- a table of starts that rise does not fall
pub starts_rise : (kinds : ℕ) (f : ℕ → ℕ) (starts : List ℕ) → ((a b : ℕ) → a ≤ b → f a ≤ f b) → starts ≡ map f (range_with_len 0 (kinds + 1)) → IsNonDecreasingBy (λ start. start) starts
starts_rise kinds f starts rises are i j d before within =
    let many : length starts ≡ kinds + 1 = ap length are ∙ length-map-range_with_len f 0 (kinds + 1) in
    let at_i : get_or starts i d ≡ f i = ap (λ (xs : List ℕ). get_or xs i d) are ∙ get_or-map-range_with_len f 0 (kinds + 1) i i d (omega (arith, many, before, within)) (omega arith) in
    let at_j : get_or starts j d ≡ f j = ap (λ (xs : List ℕ). get_or xs j d) are ∙ get_or-map-range_with_len f 0 (kinds + 1) j j d (omega (arith, many, within)) (omega arith) in
    omega (arith, at_i, at_j, rises i j before)
