-- What rows tell as literals come and go.
use Rattle.std.proofs.Common.{◌≡◌, ◌≢◌, ◌⊎◌, inl, inr, ℕ, ◌+◌, ◌-◌, ◌<◌, ◌≤◌, min, max, List, [], ◌∷◌, ◌++◌, length, replicate, get_or, Contains, sym, ap, ◌∙◌, subst, arith}
use Rattle.std.proofs.lemmas.Bool.{cases_eq, cases_lt}
use Rattle.std.proofs.lemmas.List.{get_or-replicate, get_or_past, length-replicate}
use Rattle.std.proofs.lemmas.List.Elements.{Contains-append_left, Contains-push_cases}
use Rattle.std.proofs.lemmas.Nat.Bits.{bit_at-lt, bit_at-zero}
use Rattle.std.specs.Int.{bit_at}
use Rattle.list_base.proofs.Members.{end_same, nowhere}
use Rattle.clause_core.specs.declared.literal.Lit.{Lit}
use Rattle.order_axioms.specs.declared.kind_pair.KindPair.{KindPair}
use Rattle.order_axioms.specs.declared.order.Order.{Order}
use Rattle.order_axioms.specs.Cycles.{IsNoPair, IsPair}
use Rattle.order_axioms.specs.Order.{comes_before}
use Rattle.order_propagator.specs.declared.bit_rows.BitRows.{BitRows}
use Rattle.order_propagator.specs.inner.OrderRows.{IsComplete, IsCompleteFrom, IsNextMissing, RowState, Says}
use Rattle.order_propagator.specs.inner.Bits.{HasNoneFrom, IsLowestFrom, bit}
use Rattle.order_propagator.specs.inner.BitRows.{AreBlank, AreRows, HaveRow, HaveRows, SetsArc, Tells, missing_bit}

-- the kinds are those of the pair, or one of them is another
cases_pair : (x y a b : ℕ) → ((x ≡ a) × (y ≡ b)) ⊎ ((x ≢ a) ⊎ (y ≢ b))
cases_pair x y a b = elim (cases_eq x a) [
  | inr row ↦ inr (inl row)
  | inl same ↦ elim (cases_eq y b) [ inl equal ↦ inl (same, equal) | inr column ↦ inr (inr column) ]
]

-- rows without bits
abbrev blanks : Order → List ℕ
blanks order = replicate (order.kinds + 1) 0

-- rows with no bit tell that nothing is said
pub rows-none : (order : Order) (rows : BitRows) → AreBlank order.kinds rows → AreRows order [] rows
rows-none order rows blank = record {
  after_rows = ap length blank.after ∙ length-replicate (order.kinds + 1) 0;
  before_rows = ap length blank.before ∙ length-replicate (order.kinds + 1) 0;
  after = λ x y some up_to. tells x y (bit rows.after.items x y) (unset rows.after.items x y blank.after);
  before = λ x y some up_to. tells x y (bit rows.before.items y x) (unset rows.before.items y x blank.before);
}
  where
    unset : (items : List ℕ) (u v : ℕ) → items ≡ replicate (order.kinds + 1) 0 → bit items u v ≡ 0
    unset items u v is =
        let none : get_or (blanks order) u 0 ≡ 0 = elim (cases_lt u (order.kinds + 1)) [
          | inl within ↦ get_or-replicate (order.kinds + 1) u 0 0 within
          | inr past ↦ get_or_past (blanks order) u 0 (let over : length (blanks order) ≤ u = omega (arith, past, length-replicate (order.kinds + 1) (let none : ℕ = 0 in none)) in over)
        ] in
        ap (λ (ns : List ℕ). bit ns u v) is ∙ ap (λ (w : ℕ). bit_at w (v - 1)) none ∙ bit_at-zero (v - 1)

    tells : (x y value : ℕ) → value ≡ 0 → Tells value (Says order [] x y)
    tells x y value none = record { said = λ one. absurd (omega (arith, one, none)); set = λ says. absurd (nowhere (comes_before order x y) says.among) }

-- the rows of a pair's kinds are there
pub have-row : (order : Order) (lits : List Lit) (rows : BitRows) (kind : ℕ) → AreRows order lits rows → kind ≤ order.kinds → HaveRow rows kind
have-row order lits rows kind are within = record {
  after = omega (arith, are.after_rows, within);
  before = omega (arith, are.before_rows, within);
}

pub have-rows : (order : Order) (lits : List Lit) (rows : BitRows) (l : Lit) (pair : KindPair) → AreRows order lits rows → IsPair order l pair → HaveRows rows pair
have-rows order lits rows l pair are is = record {
  first = have-row order lits rows pair.first are is.kinds.up_to.0;
  second = have-row order lits rows pair.second are is.kinds.up_to.1;
  first_bit = (is.kinds.from_one.0, omega (arith, is.kinds.up_to.0, order.few_kinds));
  second_bit = (is.kinds.from_one.1, omega (arith, is.kinds.up_to.1, order.few_kinds));
}

-- a literal more says nothing of other kinds than its own
says-more : (order : Order) (lits : List Lit) (l : Lit) (x y : ℕ) → Says order lits x y → Says order (lits ++ l ∷ []) x y
says-more order lits l x y says = record { kinds = says.kinds; among = Contains-append_left lits (l ∷ []) (comes_before order x y) says.among }

says-fewer : (order : Order) (lits : List Lit) (l : Lit) (pair : KindPair) (x y : ℕ) → IsPair order l pair → (x ≢ pair.first) ⊎ (y ≢ pair.second) → Says order (lits ++ l ∷ []) x y → Says order lits x y
says-fewer order lits l pair x y is differ says = elim (Contains-push_cases lits l (comes_before order x y) says.among) [
  | inl before ↦ record { kinds = says.kinds; among = before }
  | inr last ↦
      let same = is.only x y says.kinds (sym last) in
      elim differ [ inl row ↦ absurd (row same.0) | inr column ↦ absurd (column same.1) ]
]

-- what is known of a pair is known of all kinds
tells-all : (order : Order) (before now : List Lit) (pair : KindPair) (value : ℕ) → (x y old new : ℕ) → Tells old (Says order before x y) → (((x ≢ pair.first) ⊎ (y ≢ pair.second)) → (new ≡ old) × (Says order before x y → Says order now x y) × (Says order now x y → Says order before x y)) → ((x ≡ pair.first) → (y ≡ pair.second) → Tells new (Says order now x y)) → Tells new (Says order now x y)
tells-all order before now pair value x y old new told others here = elim (cases_pair x y pair.first pair.second) [
  | inl same ↦ here same.0 same.1
  | inr differ ↦
      let other = others differ in
      record {
        said = λ one. other.1 (told.said (sym other.0 ∙ one));
        set = λ says. other.0 ∙ told.set (other.2 says);
      }
]

-- the rows tell of a literal more
pub rows-put : (order : Order) (lits : List Lit) (l : Lit) (pair : KindPair) (old new : BitRows) → AreRows order lits old → IsPair order l pair → SetsArc old new pair 1 → AreRows order (lits ++ l ∷ []) new
rows-put order lits l pair old new are is sets = record {
  after_rows = sets.after.rows ∙ are.after_rows;
  before_rows = sets.before.rows ∙ are.before_rows;
  after = λ x y some up_to. tells-all order lits (lits ++ l ∷ []) pair 1 x y (bit old.after.items x y) (bit new.after.items x y) (are.after x y some up_to)
      (λ differ. (sets.after.others x y some up_to differ, says-more order lits l x y, says-fewer order lits l pair x y is differ))
      (λ one other. said x y (bit new.after.items x y) one other (ap (λ (k : ℕ). bit new.after.items k y) one ∙ ap (bit new.after.items pair.first) other ∙ sets.after.here));
  before = λ x y some up_to. tells-all order lits (lits ++ l ∷ []) pair 1 x y (bit old.before.items y x) (bit new.before.items y x) (are.before x y some up_to)
      (λ differ. (sets.before.others y x some up_to (elim differ [ inl row ↦ inr row | inr column ↦ inl column ]), says-more order lits l x y, says-fewer order lits l pair x y is differ))
      (λ one other. said x y (bit new.before.items y x) one other (ap (λ (k : ℕ). bit new.before.items k x) other ∙ ap (bit new.before.items pair.second) one ∙ sets.before.here));
}
  where
    says : (x y : ℕ) → x ≡ pair.first → y ≡ pair.second → Says order (lits ++ l ∷ []) x y
    says x y one other =
        subst (λ k. Says order (lits ++ l ∷ []) k y) (sym one) (subst (λ k. Says order (lits ++ l ∷ []) pair.first k) (sym other)
        (record { kinds = is.kinds; among = end_same lits l (comes_before order pair.first pair.second) (sym is.says) }))

    said : (x y value : ℕ) → x ≡ pair.first → y ≡ pair.second → value ≡ 1 → Tells value (Says order (lits ++ l ∷ []) x y)
    said x y value one other is_one = record { said = λ _. says x y one other; set = λ _. is_one }

-- they tell of a literal less
pub rows-clear : (order : Order) (lits : List Lit) (l : Lit) (pair : KindPair) (old new : BitRows) → AreRows order (lits ++ l ∷ []) old → IsPair order l pair → ¬ Contains lits l → SetsArc old new pair 0 → AreRows order lits new
rows-clear order lits l pair old new are is gone sets = record {
  after_rows = sets.after.rows ∙ are.after_rows;
  before_rows = sets.before.rows ∙ are.before_rows;
  after = λ x y some up_to. tells-all order (lits ++ l ∷ []) lits pair 0 x y (bit old.after.items x y) (bit new.after.items x y) (are.after x y some up_to)
      (λ differ. (sets.after.others x y some up_to differ, says-fewer order lits l pair x y is differ, says-more order lits l x y))
      (λ one other. unsaid x y (bit new.after.items x y) one other (ap (λ (k : ℕ). bit new.after.items k y) one ∙ ap (bit new.after.items pair.first) other ∙ sets.after.here));
  before = λ x y some up_to. tells-all order (lits ++ l ∷ []) lits pair 0 x y (bit old.before.items y x) (bit new.before.items y x) (are.before x y some up_to)
      (λ differ. (sets.before.others y x some up_to (elim differ [ inl row ↦ inr row | inr column ↦ inl column ]), says-fewer order lits l pair x y is differ, says-more order lits l x y))
      (λ one other. unsaid x y (bit new.before.items y x) one other (ap (λ (k : ℕ). bit new.before.items k x) other ∙ ap (bit new.before.items pair.second) one ∙ sets.before.here));
}
  where
    none : (x y : ℕ) → x ≡ pair.first → y ≡ pair.second → Says order lits x y → ⊥
    none x y one other says = gone (subst (Contains lits) (ap (λ (k : ℕ). comes_before order k y) one ∙ ap (comes_before order pair.first) other ∙ is.says) says.among)

    unsaid : (x y value : ℕ) → x ≡ pair.first → y ≡ pair.second → value ≡ 0 → Tells value (Says order lits x y)
    unsaid x y value one other is_zero = record { said = λ is_one. absurd (omega (arith, is_one, is_zero)); set = λ says. absurd (none x y one other says) }

-- a literal that speaks of no kinds changes nothing
same-says : (order : Order) (before now : List Lit) (rows : BitRows) → AreRows order before rows → ((x y : ℕ) → Says order before x y → Says order now x y) → ((x y : ℕ) → Says order now x y → Says order before x y) → AreRows order now rows
same-says order before now rows are there back = record {
  after_rows = are.after_rows;
  before_rows = are.before_rows;
  after = λ x y some up_to. record { said = λ one. there x y ((are.after x y some up_to).said one); set = λ says. (are.after x y some up_to).set (back x y says) };
  before = λ x y some up_to. record { said = λ one. there x y ((are.before x y some up_to).said one); set = λ says. (are.before x y some up_to).set (back x y says) };
}

says-none : (order : Order) (lits : List Lit) (l : Lit) (x y : ℕ) → IsNoPair order l → Says order (lits ++ l ∷ []) x y → Says order lits x y
says-none order lits l x y none says = elim (Contains-push_cases lits l (comes_before order x y) says.among) [
  | inl before ↦ record { kinds = says.kinds; among = before }
  | inr last ↦ absurd (none x y says.kinds (sym last))
]

pub rows-more : (order : Order) (lits : List Lit) (l : Lit) (rows : BitRows) → IsNoPair order l → AreRows order lits rows → AreRows order (lits ++ l ∷ []) rows
rows-more order lits l rows none are = same-says order lits (lits ++ l ∷ []) rows are (says-more order lits l) (λ x y. says-none order lits l x y none)

pub rows-fewer : (order : Order) (lits : List Lit) (l : Lit) (rows : BitRows) → IsNoPair order l → AreRows order (lits ++ l ∷ []) rows → AreRows order lits rows
rows-fewer order lits l rows none are = same-says order (lits ++ l ∷ []) lits rows are (λ x y. says-none order lits l x y none) (says-more order lits l)

-- a word whose bits are those that are missing, and what its bit of a kind says
pub record IsMissingWord (rows : BitRows) (x y word : ℕ) : Type 0 where
  pub bits : (i : ℕ) → i < 128 → bit_at word i ≡ missing_bit rows x y i

-- a kind past the last one misses nothing
past-complete : (order : Order) (lits : List Lit) (x y z : ℕ) → order.kinds < z → IsComplete order lits x y z
past-complete order lits x y z past = record {
  after = λ says. absurd (omega (arith, says.kinds.up_to.1, past));
  before = λ says. absurd (omega (arith, says.kinds.up_to.0, past));
}

unset-complete : (order : Order) (lits : List Lit) (rows : BitRows) (x y z word : ℕ) → AreRows order lits rows → IsMissingWord rows x y word → Says order lits x y → 0 < z → z ≤ order.kinds → bit_at word (z - 1) ≡ 0 → IsComplete order lits x y z
unset-complete order lits rows x y z word are missing says some within unset =
    let few : z ≤ 128 = omega (arith, within, order.few_kinds) in
    let bits : bit_at word (z - 1) ≡ max (min (bit rows.after.items y z) (1 - bit rows.after.items x z)) (min (bit rows.before.items x z) (1 - bit rows.before.items y z)) = missing.bits (z - 1) (omega (arith, few, some)) in
    let first_bit = λ (kind : ℕ). bit_at-lt (get_or rows.after.items kind 0) (z - 1) in
    let second_bit = λ (kind : ℕ). bit_at-lt (get_or rows.before.items kind 0) (z - 1) in
    record {
      after = λ said. (are.after x z some few).said (let is : bit rows.after.items x z ≡ 1 = omega (arith, bits, unset, first_bit x, first_bit y, second_bit x, second_bit y, (are.after y z some few).set said) in is);
      before = λ said. (are.before z y some few).said (let is : bit rows.before.items y z ≡ 1 = omega (arith, bits, unset, first_bit x, first_bit y, second_bit x, second_bit y, (are.before z x some few).set said) in is);
    }

-- from past the last kind on nothing is missing
pub past-from : (r : RowState) (x y from : ℕ) → r.order.kinds < from → IsCompleteFrom r x y from
past-from r x y from past z from_on = past-complete r.order r.lits x y z (omega (arith, past, from_on))

-- where no bit is set nothing is missing
pub none-from : (r : RowState) (rows : BitRows) (x y from word : ℕ) → AreRows r.order r.lits rows → IsMissingWord rows x y word → Says r.order r.lits x y → 0 < from → HasNoneFrom word (from - 1) → IsCompleteFrom r x y from
none-from r rows x y from word are missing says some none z from_on = elim (cases_lt r.order.kinds z) [
  | inl past ↦ past-complete r.order r.lits x y z past
  | inr within ↦ unset-complete r.order r.lits rows x y z word are missing says (omega (arith, some, from_on)) within (none (z - 1) (omega (arith, from_on)) (omega (arith, within, r.order.few_kinds, from_on, some)))
]

-- what is missing: one of two facts is said, and what follows from it is not
set-missing : (order : Order) (lits : List Lit) (rows : BitRows) (x y z word : ℕ) → AreRows order lits rows → IsMissingWord rows x y word → 0 < z → z ≤ 128 → bit_at word (z - 1) ≡ 1 → (Says order lits y z × (¬ Says order lits x z)) ⊎ (Says order lits z x × (¬ Says order lits z y))
set-missing order lits rows x y z word are missing some few set = elim (cases_eq (bit rows.after.items y z) 1) [
  | inl first ↦ elim (cases_eq (bit rows.after.items x z) 1) [
    | inr other ↦ inl ((are.after y z some few).said first, λ says. other ((are.after x z some few).set says))
    | inl both ↦ second (omega (arith, bits, set, both, first, second_bit x, second_bit y)) (omega (arith, bits, set, both, first, second_bit x, second_bit y))
  ]
  | inr no_first ↦
      let zero : bit rows.after.items y z ≡ 0 = omega (arith, no_first, first_bit y) in
      second (omega (arith, bits, set, zero, second_bit x, second_bit y)) (omega (arith, bits, set, zero, second_bit x, second_bit y))
]
  where
    bits : bit_at word (z - 1) ≡ max (min (bit rows.after.items y z) (1 - bit rows.after.items x z)) (min (bit rows.before.items x z) (1 - bit rows.before.items y z))
    bits = missing.bits (z - 1) (omega (arith, few, some))

    first_bit : (kind : ℕ) → bit rows.after.items kind z < 2
    first_bit kind = bit_at-lt (get_or rows.after.items kind 0) (z - 1)

    second_bit : (kind : ℕ) → bit rows.before.items kind z < 2
    second_bit kind = bit_at-lt (get_or rows.before.items kind 0) (z - 1)

    second : bit rows.before.items x z ≡ 1 → bit rows.before.items y z ≡ 0 → (Says order lits y z × (¬ Says order lits x z)) ⊎ (Says order lits z x × (¬ Says order lits z y))
    second one zero = inr ((are.before z x some few).said one, λ says. absurd (omega (arith, (are.before z y some few).set says, zero)))

-- the kind of the lowest bit is the next one
pub next-missing : (r : RowState) (rows : BitRows) (x y from word place : ℕ) → AreRows r.order r.lits rows → IsMissingWord rows x y word → Says r.order r.lits x y → ¬ Says r.order r.lits y x → 0 < from → IsLowestFrom word (from - 1) place → IsNextMissing r x y from (place + 1)
next-missing r rows x y from word place are missing says one_way some lowest = record {
  from_on = omega (arith, lowest.from_on, some);
  kinds = elim found [
    | inl after ↦ record {
      from_one = (says.kinds.from_one.0, says.kinds.from_one.1, omega arith);
      up_to = (says.kinds.up_to.0, says.kinds.up_to.1, after.0.kinds.up_to.1);
      distinct = (says.kinds.distinct, after.0.kinds.distinct, λ same. one_way (subst (Says r.order r.lits y) same after.0));
    }
    | inr before ↦ record {
      from_one = (says.kinds.from_one.0, says.kinds.from_one.1, omega arith);
      up_to = (says.kinds.up_to.0, says.kinds.up_to.1, before.0.kinds.up_to.0);
      distinct = (says.kinds.distinct, λ same. one_way (subst (λ k. Says r.order r.lits k x) (sym same) before.0), before.0.kinds.distinct);
    }
  ];
  passed = λ z from_on under. elim (cases_lt r.order.kinds z) [
    | inl past ↦ past-complete r.order r.lits x y z past
    | inr within ↦ unset-complete r.order r.lits rows x y z word are missing says (omega (arith, some, from_on)) within (lowest.passed (z - 1) (omega (arith, from_on)) (omega (arith, under, from_on, some)))
  ];
  missing = λ complete. elim found [
    | inl after ↦ after.1 (complete.after after.0)
    | inr before ↦ before.1 (complete.before before.0)
  ];
}
  where
    found : (Says r.order r.lits y (place + 1) × (¬ Says r.order r.lits x (place + 1))) ⊎ (Says r.order r.lits (place + 1) x × (¬ Says r.order r.lits (place + 1) y))
    found = set-missing r.order r.lits rows x y (place + 1) word are missing (omega arith) (omega (arith, lowest.within)) (let is : bit_at word (place + 1 - 1) ≡ 1 = subst (λ i. bit_at word i ≡ 1) (let same : place ≡ place + 1 - 1 = omega arith in same) lowest.set in is)
