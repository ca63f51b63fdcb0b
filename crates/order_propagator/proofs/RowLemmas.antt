-- What the rows of an order tell of the values that entries give, as entries come and go.
use Rattle.std.proofs.Common.{◌≡◌, ◌≢◌, inl, inr, ℕ, suc, ◌+◌, ◌<◌, ◌≤◌, Some, None, List, [], ◌∷◌, ◌++◌, length, map, take, drop, slice_get, Contains, All, AllPairs, refl, sym, ap, ◌∙◌, subst, arith, append_assoc, append-nil, take-append-drop, length-append}
use Rattle.std.specs.Prelude.{◌==◌, nat_le}
use Rattle.std.proofs.lemmas.Bool.{cases_Bool, cases_lt, eqb-true, leb-false}
use Rattle.std.proofs.lemmas.List.{length-map, map-append, take-append-le, take_all, take_at}
use Rattle.list_base.proofs.Members.{here_same, there}
use Rattle.list_base.proofs.Membership.{index_of, not_before}
use Rattle.list_base.proofs.Mapped.{mapped_pairs}
use Rattle.clause_core.specs.declared.literal.Lit.{Lit}
use Rattle.clause_core.specs.Propagation.{MakesFalse}
use Rattle.order_axioms.specs.declared.order.Order.{Order}
use Rattle.order_axioms.specs.Order.{AreKinds, AreTwoKinds, comes_before}
use Rattle.order_propagator.specs.inner.OrderRows.{IsComplete, RowState, Says}
use Rattle.sat_trail.specs.declared.entry.Entry.{Entry}
use Rattle.sat_trail.specs.Entry.{values_of, up_to, decided}
use Rattle.sat_trail.specs.State.{State}
use Rattle.sat_trail.specs.Trail.{IsTrail}
use Rattle.order_propagator.specs.declared.named_trail.NamedTrail.{NamedTrail}
use Rattle.order_propagator.specs.inner.Closed.{IsMissing, IsSetTrue, NeedsNone, Precedes}
use Rattle.order_propagator.specs.inner.Closing.{ClosesCycle}
use Rattle.order_propagator.specs.inner.Making.{AddsNamed, Grows, Makes}
use Rattle.order_propagator.specs.inner.Rows.{HaveAll, HaveFirst, IsClosing}
use Rattle.order_propagator.proofs.BackLemmas.{backs, decides}
use Rattle.order_propagator.proofs.CloseLemmas.{lit-holds}
use Rattle.order_propagator.proofs.ClosedLemmas.{none_closes}
use Rattle.order_propagator.proofs.EntryLemmas.{up_to-high}
use Rattle.order_propagator.proofs.KeepLemmas.{closed-grows, closes-grows, precedes-grows}
use Rattle.order_propagator.proofs.LiteralLemmas.{denial_fails, other_way, same_literal, true_false}

-- the literals of entries
abbrev pub lits_of : List Entry → List Lit
lits_of es = map (λ (e : Entry). e.lit) es

-- a true literal is among those of the entries
set-among : (es : List Entry) (l : Lit) → IsSetTrue (values_of es) l → Contains (lits_of es) l
set-among [] l set = absurd (let clash : None ≡ Some l.positive = set in cc)
set-among (e ∷ es) l set = elim (cases_Bool (e.lit.var == l.var)) [
  | inl here ↦
      let of_it : Some e.lit.positive ≡ Some l.positive = rw here at set in
      here_same e.lit (lits_of es) l (same_literal e.lit l (eqb-true e.lit.var l.var here) (let same : e.lit.positive ≡ l.positive = cc in same))
  | inr elsewhere ↦
      let later : IsSetTrue (values_of es) l = rw elsewhere at set in
      there e.lit (lits_of es) l (set-among es l later)
]

-- what the literals of all entries say holds, and the other way round
pub said-holds : (order : Order) (rows : RowState) (t : State) (x y : ℕ) → IsTrail t → HaveAll order rows t.entries → Says rows.order rows.lits x y → Precedes order (values_of t.entries) x y
said-holds order rows t x y trail have says =
    let among : Contains (lits_of t.entries) (comes_before order x y) = subst (λ ls. Contains ls (comes_before order x y)) have.all (subst (λ o. Contains rows.lits (comes_before o x y)) have.of_order says.among) in
    let at = index_of (lits_of t.entries) (comes_before order x y) among in
    lit-holds t.entries at.0 (comes_before order x y) trail.levels.once at.1

pub holds-said : (order : Order) (rows : RowState) (es : List Entry) (x y : ℕ) → HaveAll order rows es → AreTwoKinds order x y → Precedes order (values_of es) x y → Says rows.order rows.lits x y
holds-said order rows es x y have two holds = subst (λ o. Says o rows.lits x y) (sym have.of_order) (record {
  kinds = two;
  among = subst (λ ls. Contains ls (comes_before order x y)) (sym have.all) (set-among es (comes_before order x y) holds);
})

-- a kind that comes before another does not come after it
pub one-way : (order : Order) (rows : RowState) (t : State) (x y : ℕ) → IsTrail t → HaveAll order rows t.entries → AreTwoKinds order x y → Precedes order (values_of t.entries) x y → ¬ Says rows.order rows.lits y x
one-way order rows t x y trail have two holds says =
    true_false (values_of t.entries) (comes_before order x y) holds
    (subst (MakesFalse (values_of t.entries)) (other_way order x y (λ same. two.distinct (sym same)))
    (denial_fails (values_of t.entries) (comes_before order y x) (said-holds order rows t y x trail have says)))

-- what is complete by the literals needs nothing by the values
pub needs-none : (order : Order) (rows : RowState) (t : State) (x y z : ℕ) → IsTrail t → HaveAll order rows t.entries → AreKinds order x y z → IsComplete rows.order rows.lits x y z → NeedsNone order (values_of t.entries) x y z
needs-none order rows t x y z trail have kinds complete = record {
  after = λ set. said-holds order rows t x z trail have (complete.after (holds-said order rows t.entries y z have second set));
  before = λ set. said-holds order rows t z y trail have (complete.before (holds-said order rows t.entries z x have third set));
}
  where
    second : AreTwoKinds order y z
    second = record { from_one = (kinds.from_one.1, kinds.from_one.2); up_to = (kinds.up_to.1, kinds.up_to.2); distinct = kinds.distinct.1 }

    third : AreTwoKinds order z x
    third = record { from_one = (kinds.from_one.2, kinds.from_one.0); up_to = (kinds.up_to.2, kinds.up_to.0); distinct = kinds.distinct.2 }

-- and the other way round, what needs nothing by the values is complete by the literals
complete-none : (order : Order) (rows : RowState) (t : State) (x y z : ℕ) → IsTrail t → HaveAll order rows t.entries → AreKinds order x y z → NeedsNone order (values_of t.entries) x y z → IsComplete rows.order rows.lits x y z
complete-none order rows t x y z trail have kinds none = record {
  after = λ says. holds-said order rows t.entries x z have first_third (none.after (said-holds order rows t y z trail have says));
  before = λ says. holds-said order rows t.entries z y have third_second (none.before (said-holds order rows t z x trail have says));
}
  where
    first_third : AreTwoKinds order x z
    first_third = record { from_one = (kinds.from_one.0, kinds.from_one.2); up_to = (kinds.up_to.0, kinds.up_to.2); distinct = λ same. kinds.distinct.2 (sym same) }

    third_second : AreTwoKinds order z y
    third_second = record { from_one = (kinds.from_one.2, kinds.from_one.1); up_to = (kinds.up_to.2, kinds.up_to.1); distinct = λ same. kinds.distinct.1 (sym same) }

-- so something is missing by the values where the rows miss something
pub is-missing : (order : Order) (rows : RowState) (t : State) (x y z : ℕ) → IsTrail t → HaveAll order rows t.entries → Precedes order (values_of t.entries) x y → AreKinds rows.order x y z → ¬ IsComplete rows.order rows.lits x y z → IsMissing order (values_of t.entries) x y z
is-missing order rows t x y z trail have before kinds lacks =
    let of_order : AreKinds order x y z = subst (λ o. AreKinds o x y z) have.of_order kinds in
    record { kinds = of_order; before = before; lacks = λ none. lacks (complete-none order rows t x y z trail have of_order none) }

-- the literals of all entries are those of the first ones
pub first-all : (order : Order) (rows : RowState) (es : List Entry) → HaveAll order rows es → HaveFirst order rows es
first-all order rows es have = record { of_order = have.of_order; rest = []; whole = sym have.all ∙ sym (append-nil rows.lits) }

-- rows are of their own order
pub first-own : (order : Order) (rows : RowState) (es : List Entry) → HaveFirst order rows es → HaveFirst rows.order rows es
first-own order rows es have = record { of_order = refl; rest = have.rest; whole = have.whole }

pub first-of : (order other : Order) (rows : RowState) (es : List Entry) → other ≡ order → HaveFirst other rows es → HaveFirst order rows es
first-of order other rows es same have = record { of_order = have.of_order ∙ same; rest = have.rest; whole = have.whole }

pub all-of : (order other : Order) (rows : RowState) (es : List Entry) → other ≡ order → HaveAll other rows es → HaveAll order rows es
all-of order other rows es same have = record { of_order = have.of_order ∙ same; all = have.all }

-- new rows have no literals
pub first-none : (order : Order) (rows : RowState) (es : List Entry) → rows ≡ record { order = order; lits = [] } → HaveFirst order rows es
first-none order rows es is = record {
  of_order = ap (λ (r : RowState). r.order) is;
  rest = lits_of es;
  whole = ap (λ (r : RowState). r.lits ++ lits_of es) (sym is);
}

-- they stay the first ones as entries come
pub first-more : (order : Order) (rows : RowState) (es more : List Entry) → HaveFirst order rows es → HaveFirst order rows (es ++ more)
first-more order rows es more have = record {
  of_order = have.of_order;
  rest = have.rest ++ lits_of more;
  whole = map-append (λ (e : Entry). e.lit) es more ∙ ap (λ ls. ls ++ lits_of more) have.whole ∙ append_assoc rows.lits have.rest (lits_of more);
}

pub first-grows : (order : Order) (rows : RowState) (a b : NamedTrail) → Grows order a b → HaveFirst order rows a.trail.entries → HaveFirst order rows b.trail.entries
first-grows order rows a b g have = subst (HaveFirst order rows) (sym (ap (λ (s : State). s.entries) g.entries)) (first-more order rows a.trail.entries g.added have)

-- an order stays closed up to the head as a trail grows
pub closing-grows : (order : Order) (rows : RowState) (a b : NamedTrail) (head : ℕ) → Makes order a b → IsClosing order rows a head → IsClosing order rows b head
closing-grows order rows a b head makes closing = record {
  can = makes.can;
  closed = closed-grows order a b head makes.grows closing.closed;
  first = first-grows order rows a b makes.grows closing.first;
}

-- the first of the literals that are left
next-left : (lits rest : List Lit) (l : Lit) → slice_get (lits ++ rest) (length lits) ≡ Some l → (more : List Lit) × (rest ≡ l ∷ more)
next-left [] [] l got = absurd (let clash : None ≡ Some l = got in cc)
next-left [] (k ∷ rest) l got = (rest, ap (λ (m : Lit). m ∷ rest) (let same : k ≡ l = cc in same))
next-left (k ∷ lits) rest l got = next-left lits rest l got

-- the next entry's literal is not among those before it, and comes after them
pub next-first : (order : Order) (rows : RowState) (es : List Entry) (l : Lit) → HaveFirst order rows es → slice_get (lits_of es) (length rows.lits) ≡ Some l → HaveFirst order (record rows { lits = rows.lits ++ l ∷ [] }) es
next-first order rows es l have got =
    let next = next-left rows.lits have.rest l (subst (λ ls. slice_get ls (length rows.lits) ≡ Some l) have.whole got) in
    record {
      of_order = have.of_order;
      rest = next.0;
      whole = have.whole ∙ ap (λ ls. rows.lits ++ ls) next.1 ∙ sym (append_assoc rows.lits (l ∷ []) next.0);
    }

pub next-new : (order : Order) (rows : RowState) (t : State) (l : Lit) → IsTrail t → HaveFirst order rows t.entries → slice_get (lits_of t.entries) (length rows.lits) ≡ Some l → ¬ Contains rows.lits l
next-new order rows t l trail have got =
    let next = next-left rows.lits have.rest l (subst (λ ls. slice_get ls (length rows.lits) ≡ Some l) have.whole got) in
    let once : AllPairs ◌≢◌ (lits_of t.entries) = mapped_pairs (λ (k m : Lit). k ≢ m) (λ (e : Entry). e.lit) t.entries (λ i j d less within same. trail.levels.once i j d less within (ap (λ (k : Lit). k.var) same)) in
    not_before rows.lits l next.0 (subst (AllPairs ◌≢◌) (have.whole ∙ ap (λ ls. rows.lits ++ ls) next.1) once)

-- as many literals as entries are those of all entries
pub all-come : (order : Order) (rows : RowState) (es : List Entry) → HaveFirst order rows es → length es ≤ length rows.lits → HaveAll order rows es
all-come order rows es have many = record {
  of_order = have.of_order;
  all = sym (have.whole ∙ ap (λ ls. rows.lits ++ ls) (empty have.rest few) ∙ append-nil rows.lits);
}
  where
    few : length have.rest ≡ 0
    few = omega (arith, ap length have.whole, length-append rows.lits have.rest, length-map es (λ (e : Entry). e.lit), many)

    empty : (ls : List Lit) → length ls ≡ 0 → ls ≡ []
    empty [] none = refl
    empty (l ∷ ls) none = absurd (omega (arith, none))

-- of entries whose levels rise those up to a level come first
low-first : (level : ℕ) (es : List Entry) → AllPairs (λ d e. d.level ≤ e.level) es → (dropped : List Entry) × (es ≡ up_to level es ++ dropped)
low-first level [] rising = ([], refl)
low-first level (e ∷ es) rising = elim (cases_Bool (nat_le e.level level)) [
  | inl low ↦
      let rest = low-first level es (λ i j d less within. rising (suc i) (suc j) d (omega (arith, less)) (omega (arith, within))) in
      (rest.0, rw low (ap (λ ds. e ∷ ds) rest.1))
  | inr high ↦
      let above : All (λ (d : Entry). level < d.level) es = λ k d within. omega (arith, leb-false e.level level high, rising 0 (suc k) d (omega arith) (omega (arith, within))) in
      (e ∷ es, rw high (ap (λ ds. ds ++ e ∷ es) (sym (up_to-high level es above))))
]

-- after a backtrack the first literals are those of the entries that are left
pub first-back : (order : Order) (rows : RowState) (es : List Entry) (level : ℕ) → AllPairs (λ d e. d.level ≤ e.level) es → HaveFirst order rows es → HaveFirst order (record rows { lits = take (length (up_to level es)) rows.lits }) (up_to level es)
first-back order rows es level rising have =
    let low = low-first level es rising in
    let kept = lits_of (up_to level es) in
    let both : kept ++ lits_of low.0 ≡ rows.lits ++ have.rest = sym (ap lits_of low.1 ∙ map-append (λ (e : Entry). e.lit) (up_to level es) low.0) ∙ have.whole in
    let many : length kept ≡ length (up_to level es) = length-map (up_to level es) (λ (e : Entry). e.lit) in
    elim (cases_lt (length rows.lits) (length kept)) [
      | inr short ↦ record {
        of_order = have.of_order;
        rest = [];
        whole = sym (take_at kept (lits_of low.0) (length (up_to level es)) many) ∙ ap (take (length (up_to level es))) both
            ∙ take-append-le (length (up_to level es)) rows.lits have.rest (omega (arith, short, many)) ∙ sym (append-nil (take (length (up_to level es)) rows.lits));
      }
      | inl long ↦
          let same : take (length rows.lits) kept ≡ rows.lits = sym (take-append-le (length rows.lits) kept (lits_of low.0) (omega (arith, long))) ∙ ap (take (length rows.lits)) both ∙ take_at rows.lits have.rest (length rows.lits) refl in
          record {
            of_order = have.of_order;
            rest = drop (length rows.lits) kept;
            whole = sym (take-append-drop (length rows.lits) kept) ∙ ap (λ ls. ls ++ drop (length rows.lits) kept) (same ∙ sym (take_all (length (up_to level es)) rows.lits (omega (arith, long, many))));
          }
    ]

-- the rows after an addition, a decision and a backtrack
pub rows-add : (order : Order) (rows : RowState) (a b : NamedTrail) (clause : List Lit) (name : ℕ) → AddsNamed a clause name b → HaveFirst order rows a.trail.entries → HaveFirst order rows b.trail.entries
rows-add order rows a b clause name adds have = subst (HaveFirst order rows) (sym (ap (λ (s : State). s.entries) adds.adds.rest)) have

pub rows-decide : (order : Order) (rows : RowState) (t new : State) (l : Lit) → new ≡ decides t l → HaveFirst order rows t.entries → HaveFirst order rows new.entries
rows-decide order rows t new l grows have = rw grows (first-more order rows t.entries (decided l (t.level + 1) ∷ []) have)

pub rows-back : (order : Order) (rows new_rows : RowState) (t new : State) (level count : ℕ) → IsTrail t → HaveFirst order rows t.entries → new ≡ backs t level → count ≡ length new.entries → new_rows ≡ record rows { lits = take count rows.lits } → HaveFirst order new_rows new.entries
rows-back order rows new_rows t new level count trail have goes count_is cut = rw (cut, count_is, goes) (first-back order rows t.entries level trail.levels.rising have)

-- with a kind for which nothing is missing what follows is set
pub closes-complete : (order : Order) (old a : NamedTrail) (rows : RowState) (x y z : ℕ) → IsTrail a.trail → HaveAll order rows a.trail.entries → Grows order old a → AreKinds order x y z → IsComplete rows.order rows.lits x y z → ClosesCycle order (values_of old.trail.entries) a.names (values_of a.trail.entries) x y z
closes-complete order old a rows x y z trail have g kinds complete =
    let values = values_of a.trail.entries in
    let closes = none_closes order a.names values values x y z (λ v b given. given) (needs-none order rows a.trail x y z trail have kinds complete) in
    record {
      after = λ set. closes.after (precedes-grows order old a y z g set);
      before = λ set. closes.before (precedes-grows order old a z x g set);
    }

-- with one kind more what follows is set or made: those before it miss nothing
pub closes-next : (order : Order) (old a b : NamedTrail) (rows : RowState) (x y from kind z : ℕ) → IsTrail a.trail → HaveAll order rows a.trail.entries → Grows order old a → Grows order a b → ((k : ℕ) → k < from → AreKinds order x y k → ClosesCycle order (values_of old.trail.entries) a.names (values_of a.trail.entries) x y k) → ((k : ℕ) → from ≤ k → k < kind → IsComplete rows.order rows.lits x y k) → ClosesCycle order (values_of a.trail.entries) b.names (values_of b.trail.entries) x y kind → z < kind + 1 → AreKinds order x y z → ClosesCycle order (values_of old.trail.entries) b.names (values_of b.trail.entries) x y z
closes-next order old a b rows x y from kind z trail have g h before passed here less kinds = elim (cases_lt z from) [
  | inl under ↦ closes-grows order (values_of old.trail.entries) a b x y z h (before z under kinds)
  | inr over ↦ elim (cases_lt z kind) [
    | inl skipped ↦ closes-grows order (values_of old.trail.entries) a b x y z h (closes-complete order old a rows x y z trail have g kinds (passed z over skipped))
    | inr last ↦
        let same : kind ≡ z = omega (arith, last, less) in
        subst (ClosesCycle order (values_of old.trail.entries) b.names (values_of b.trail.entries) x y) same (record {
          after = λ set. here.after (precedes-grows order old a y kind g set);
          before = λ set. here.before (precedes-grows order old a kind x g set);
        })
  ]
]
