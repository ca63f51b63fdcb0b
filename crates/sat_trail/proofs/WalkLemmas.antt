-- What a walk along the list of a false literal keeps.
use Rattle.std.proofs.Common.{Option, ◌≡◌, ◌≢◌, ℕ, zero, suc, ◌+◌, ◌*◌, ◌<◌, ◌≤◌, List, [], ◌∷◌, inl, inr, length, get_or, slice_get, Some, sym, ap, refl, ◌∙◌, subst, arith, AllPairs, Contains}
use Rattle.std.proofs.lemmas.Bool.{cases_eq}
use Rattle.std.proofs.lemmas.List.{get_or_default}
use Rattle.list_base.proofs.Members.{here_same, there, nowhere, cons_cases}
use Rattle.list_base.proofs.Pigeonhole.{few_distinct}
use Rattle.clause_core.specs.declared.literal.Lit.{Lit}
use Rattle.clause_core.specs.Numbering.{live}
use Rattle.sat_trail.specs.declared.watch.Cell.{Cell}
use Rattle.sat_trail.specs.inner.Excuse.{IsTrueBy}
use Rattle.sat_trail.specs.inner.Propagation.{CanPropagate, Extends, HasWatches}
use Rattle.sat_trail.specs.inner.Storage.{Assigned}
use Rattle.sat_trail.specs.declared.propagation.Visit.TheVariants.{Stays, Moves, Fails}
use Rattle.sat_trail.specs.inner.Visit.{IsFalseAt, CanVisit, IsVisit, KeepsLists}
use Rattle.sat_trail.specs.inner.Walk.{IsWalk, AreOthersListed, Walks}
use Rattle.sat_trail.specs.inner.Watches.{cell_of, IsTurn, HasLink, KeepsLits, head_of, IsDistinct, IsListed, AreLinked}
use Rattle.sat_trail.proofs.ChainLemmas.{joined-cases, distinct-apart, chain-member, walk-start, walk-end, walk-stays, walk-next, walk-none}
use Rattle.sat_trail.proofs.GrowthLemmas.{Runs, Runs-none, Runs-more}
use Rattle.sat_trail.proofs.LiteralLemmas.{cases_literal}
use Rattle.sat_trail.proofs.ValueLemmas.{IsTrueBy-more, at-left}
use Rattle.sat_trail.proofs.VisitLemmas.{turn-watches, turn-keeps}
use Rattle.sat_trail.proofs.WatchedLemmas.{AreWatched-passed}

-- the numbers below one
abbrev numbers : ℕ → List ℕ
numbers zero = []
numbers (suc n) = n ∷ numbers n

-- there are as many
numbers-length : (n : ℕ) → length (numbers n) ≡ n
numbers-length zero = refl
numbers-length (suc n) = omega (arith, numbers-length n)

-- each is there
numbers-has : (n k : ℕ) → k < n → Contains (numbers n) k
numbers-has zero k less = absurd (omega arith)
numbers-has (suc n) k less = elim (cases_eq n k) [
  | inl same ↦ here_same n (numbers n) k same
  | inr differs ↦ there n (numbers n) k (numbers-has n k (omega (arith, less, differs)))
]

-- distinct numbers differ
distinct-pairs : (list : List ℕ) → IsDistinct list → AllPairs ◌≢◌ list
distinct-pairs [] distinct i j d less within = absurd (omega (arith, within))
distinct-pairs (n ∷ rest) distinct zero (suc j) d less within =
    λ same. distinct.0 (j, omega (arith, within), get_or_default rest j n d (omega (arith, within)) ∙ sym same)
distinct-pairs (n ∷ rest) distinct zero zero d less within = absurd (omega (arith, less))
distinct-pairs (n ∷ rest) distinct (suc i) zero d less within = absurd (omega (arith, less))
distinct-pairs (n ∷ rest) distinct (suc i) (suc j) d less within = distinct-pairs rest distinct.1 i j d (omega (arith, less)) (omega (arith, within))

-- distinct numbers below one are no more than it
distinct-few : (list : List ℕ) (n : ℕ) → IsDistinct list → ((k : ℕ) → Contains list k → k < n) → length list ≤ n
distinct-few list n distinct below =
    omega (
      arith,
      numbers-length n,
      few_distinct list (numbers n) (distinct-pairs list distinct)
          (λ i d within. numbers-has n (get_or list i d) (below (get_or list i d) (i, within, get_or_default list i (get_or list i d) d within))),
    )

-- the walk has come to a number, after some turns of the loop
pub record IsWalking (clauses : List (Option (List Lit))) (old now : Assigned) (cells : List Cell) (heads : List ℕ) (level position : ℕ) (l : Lit) (before number count : ℕ) : Type 0 where
  pub runs : Runs clauses level old now
  pub watched : HasWatches clauses cells now level position (length clauses)
  pub many : length heads ≡ 2 * old.vars + 2
  pub others : AreOthersListed old.vars cells heads l
  pub passed : List ℕ
  pub rest : List ℕ
  pub walk : IsWalk cells heads l passed rest before number
  pub left : length rest + count ≤ length cells
  pub satisfied : (n : ℕ) → Contains passed n → (turn : Cell) → IsTurn (cell_of cells n) turn → turn.one.lit ≡ l → IsTrueBy now.entries level turn.other.lit

-- the walk begins
pub walking-start : (clauses : List (Option (List Lit))) (set : Assigned) (cells : List Cell) (heads : List ℕ) (level position : ℕ) (l : Lit) (number : ℕ) → CanPropagate clauses set level → HasWatches clauses cells set level position (length clauses) → AreLinked set.vars cells heads → (0 < l.var) × (l.var ≤ set.vars) → number ≡ head_of heads l → IsWalking clauses set set cells heads level position l 0 number 0
walking-start clauses set cells heads level position l number fits watched linked exists first = record {
  runs = Runs-none clauses level set fits;
  watched = watched;
  many = linked.many;
  others = record { listed = λ m from_one m_exists other. linked.listed m from_one m_exists; within = linked.within };
  passed = [];
  rest = listed.list;
  walk = subst (λ k. IsWalk cells heads l [] listed.list 0 k) (sym first) (walk-start cells heads l listed);
  left = omega (arith, distinct-few listed.list (length cells) listed.distinct (λ k among. (chain-member cells l (head_of heads l) listed.list k listed.chain among).1));
  satisfied = λ n among. absurd (nowhere n among);
}
  where
    listed : IsListed cells heads l
    listed = linked.listed l exists.0 exists.1

-- the next clause of the walk
pub walking-walks : (clauses : List (Option (List Lit))) (old now : Assigned) (cells : List Cell) (heads : List ℕ) (level position : ℕ) (l : Lit) (before number count : ℕ) → IsWalking clauses old now cells heads level position l before number count → number ≢ 0 → Walks cells heads l before number
walking-walks clauses old now cells heads level position l before number count w some =
    let next = walk-next cells heads l w.passed w.rest before number w.walk some in
    record { passed = w.passed; rest = next.0; walk = subst (λ xs. IsWalk cells heads l w.passed xs before number) next.1 w.walk }

-- what is true stays true
true-extends : (clauses : List (Option (List Lit))) (now new : Assigned) (level low : ℕ) (k : Lit) → Extends clauses level now new → IsTrueBy now.entries low k → IsTrueBy new.entries low k
true-extends clauses now new level low k extends t = subst (λ (s : Assigned). IsTrueBy s.entries low k) (sym extends.grows) (IsTrueBy-more now.entries extends.added low k t)

-- the clause stays
pub walking-stays : (clauses : List (Option (List Lit))) (old now new : Assigned) (cells : List Cell) (heads : List ℕ) (level position : ℕ) (l : Lit) (before number count next : ℕ) → IsWalking clauses old now cells heads level position l before number count → number ≢ 0 → Extends clauses level now new → HasWatches clauses cells new level position (length clauses) → ((turn : Cell) → IsTurn (cell_of cells number) turn → turn.one.lit ≡ l → IsTrueBy new.entries level turn.other.lit) → HasLink (cell_of cells number) l next → IsWalking clauses old new cells heads level position l number next (count + 1)
walking-stays clauses old now new cells heads level position l before number count next w some extends watched satisfied link = record {
  runs = Runs-more clauses level old now new w.runs extends;
  watched = watched;
  many = w.many;
  others = w.others;
  passed = number ∷ w.passed;
  rest = later.0;
  walk = walk-stays cells heads l w.passed later.0 before number next (subst (λ xs. IsWalk cells heads l w.passed xs before number) later.1 w.walk) link;
  left = omega (arith, w.left, ap length later.1);
  satisfied = λ n among turn turns is. elim (cons_cases number w.passed n among) [
    | inl same ↦ satisfied turn (subst (λ k. IsTurn (cell_of cells k) turn) (sym same) turns) is
    | inr old_one ↦ true-extends clauses now new level level turn.other.lit extends (w.satisfied n old_one turn turns is)
  ];
}
  where
    later : (xs : List ℕ) × (w.rest ≡ number ∷ xs)
    later = walk-next cells heads l w.passed w.rest before number w.walk some

-- the clause moves
pub walking-moves : (clauses : List (Option (List Lit))) (old now new : Assigned) (cells new_cells : List Cell) (heads new_heads : List ℕ) (level position : ℕ) (l : Lit) (before number count next : ℕ) → IsWalking clauses old now cells heads level position l before number count → number ≢ 0 → Extends clauses level now new → HasWatches clauses new_cells new level position (length clauses) → length new_cells ≡ length cells → length new_heads ≡ length heads → AreOthersListed old.vars new_cells new_heads l → ((n : ℕ) → n ≢ number → KeepsLits (cell_of cells n) (cell_of new_cells n)) → ((passed rest : List ℕ) → IsWalk cells heads l passed (number ∷ rest) before number → IsWalk new_cells new_heads l passed rest before next) → IsWalking clauses old new new_cells new_heads level position l before next (count + 1)
walking-moves clauses old now new cells new_cells heads new_heads level position l before number count next w some extends watched cells_many heads_many others keeps moves = record {
  runs = Runs-more clauses level old now new w.runs extends;
  watched = watched;
  many = heads_many ∙ w.many;
  others = others;
  passed = w.passed;
  rest = later.0;
  walk = moves w.passed later.0 walk;
  left = omega (arith, w.left, ap length later.1, cells_many);
  satisfied = λ n among turn turns is.
      let old_turn = turn-keeps (cell_of cells n) (cell_of new_cells n) turn (keeps n (λ same. distinct-apart w.passed (number ∷ later.0) n walk.distinct among (here_same number later.0 n (sym same)))) turns in
      subst (λ (k : Lit). IsTrueBy new.entries level k) (sym old_turn.3)
      (true-extends clauses now new level level old_turn.0.other.lit extends (w.satisfied n among old_turn.0 old_turn.1 (sym old_turn.2 ∙ is)));
}
  where
    later : (xs : List ℕ) × (w.rest ≡ number ∷ xs)
    later = walk-next cells heads l w.passed w.rest before number w.walk some

    walk : IsWalk cells heads l w.passed (number ∷ later.0) before number
    walk = subst (λ xs. IsWalk cells heads l w.passed xs before number) later.1 w.walk

-- the lists are whole
pub walking-linked : (clauses : List (Option (List Lit))) (old now : Assigned) (cells : List Cell) (heads : List ℕ) (level position : ℕ) (l : Lit) (before number count : ℕ) → IsWalking clauses old now cells heads level position l before number count → AreLinked old.vars cells heads
walking-linked clauses old now cells heads level position l before number count w = record {
  many = w.many;
  some = omega (arith, w.watched.room);
  listed = λ m from_one exists. elim (cases_literal m l) [
    | inl same ↦ subst (IsListed cells heads) (sym same) (walk-end cells heads l w.passed w.rest before number w.walk)
    | inr other ↦ w.others.listed m from_one exists other
  ];
  within = w.others.within;
}

-- after as many turns as there are cells the walk has ended
pub walking-ended : (clauses : List (Option (List Lit))) (old now : Assigned) (cells : List Cell) (heads : List ℕ) (level position : ℕ) (l : Lit) (before number count : ℕ) → IsWalking clauses old now cells heads level position l before number count → length cells ≤ count → number ≡ 0
walking-ended clauses old now cells heads level position l before number count w over = elim (cases_eq number 0) [
  | inl same ↦ same
  | inr some ↦
      let later = walk-next cells heads l w.passed w.rest before number w.walk some in
      absurd (omega (arith, w.left, over, ap length later.1))
]

-- where the walk has ended, the entry is passed
pub walking-passed : (clauses : List (Option (List Lit))) (old now : Assigned) (cells : List Cell) (heads : List ℕ) (level position : ℕ) (l : Lit) (before number count : ℕ) → IsWalking clauses old now cells heads level position l before number count → number ≡ 0 → IsFalseAt now.entries position l → HasWatches clauses cells now level (position + 1) (length clauses)
walking-passed clauses old now cells heads level position l before number count w none fails =
    AreWatched-passed (live clauses) (length clauses) cells now.entries level position (length clauses) l fails
    (λ n turn turns is. elim (joined-cases w.passed w.rest n (w.walk.covers n (turn-watches (cell_of cells n) turn l turns is))) [
      | inl passed ↦ w.satisfied n passed turn turns is
      | inr comes ↦ absurd (nowhere n (subst (λ xs. Contains xs n) (walk-none cells heads l w.passed w.rest before number w.walk none) comes))
    ]) w.watched

-- the entry stays at its position
pub false-extends : (clauses : List (Option (List Lit))) (old now : Assigned) (level position : ℕ) (l : Lit) → Extends clauses level old now → IsFalseAt old.entries position l → IsFalseAt now.entries position l
false-extends clauses old now level position l extends at = record {
  entry = at.entry;
  there = subst (λ (s : Assigned). slice_get s.entries position ≡ Some at.entry) (sym extends.grows) (at-left old.entries extends.added position at.entry at.there);
  fails = at.fails;
}

-- the variables stay the same
pub vars-extends : (clauses : List (Option (List Lit))) (old now : Assigned) (level : ℕ) → Extends clauses level old now → now.vars ≡ old.vars
vars-extends clauses old now level extends = ap (λ (s : Assigned). s.vars) extends.grows

-- the walk after a clause that stays
pub walking-stayed : (clauses : List (Option (List Lit))) (old now new : Assigned) (cells new_cells : List Cell) (heads new_heads : List ℕ) (level position : ℕ) (l : Lit) (before number count next : ℕ) → IsWalking clauses old now cells heads level position l before number count → number ≢ 0 → Extends clauses level now new → HasWatches clauses new_cells new level position (length clauses) → IsVisit cells new_cells heads new_heads new.entries level (record { position = position; lit = l; before = before; number = number }) (Stays next) → IsWalking clauses old new new_cells new_heads level position l number next (count + 1)
walking-stayed clauses old now new cells new_cells heads new_heads level position l before number count next w some extends watched visit =
    let s = visit.stays next refl in
    subst (λ (hs : List ℕ). IsWalking clauses old new new_cells hs level position l number next (count + 1)) (sym s.1)
    (subst (λ (cs : List Cell). HasWatches clauses cs new level position (length clauses) → IsWalking clauses old new cs heads level position l number next (count + 1)) (sym s.0)
    (λ old_watched. walking-stays clauses old now new cells heads level position l before number count next w some extends old_watched s.3 s.2) watched)

-- the lists after a clause that is false
pub walking-failed : (clauses : List (Option (List Lit))) (old now new : Assigned) (cells new_cells : List Cell) (heads new_heads : List ℕ) (level position : ℕ) (l : Lit) (before number count : ℕ) → IsWalking clauses old now cells heads level position l before number count → IsVisit cells new_cells heads new_heads new.entries level (record { position = position; lit = l; before = before; number = number }) Fails → AreLinked old.vars new_cells new_heads
walking-failed clauses old now new cells new_cells heads new_heads level position l before number count w visit =
    let s = visit.fails refl in
    subst (λ (hs : List ℕ). AreLinked old.vars new_cells hs) (sym s.1)
    (subst (λ (cs : List Cell). AreLinked old.vars cs heads) (sym s.0) (walking-linked clauses old now cells heads level position l before number count w))

-- the walk after a clause that moves
pub walking-moved : (clauses : List (Option (List Lit))) (old now new : Assigned) (cells new_cells : List Cell) (heads new_heads : List ℕ) (level position : ℕ) (l : Lit) (before number count next : ℕ) → IsWalking clauses old now cells heads level position l before number count → number ≢ 0 → Extends clauses level now new → HasWatches clauses new_cells new level position (length clauses) → KeepsLists now.vars cells new_cells heads new_heads l → IsVisit cells new_cells heads new_heads new.entries level (record { position = position; lit = l; before = before; number = number }) (Moves next) → IsWalking clauses old new new_cells new_heads level position l before next (count + 1)
walking-moved clauses old now new cells new_cells heads new_heads level position l before number count next w some extends watched keeps visit =
    let m = visit.moves next refl in
    walking-moves clauses old now new cells new_cells heads new_heads level position l before number count next w some extends watched keeps.cells_as_many keeps.heads_as_many
    (subst (λ vars. AreOthersListed vars new_cells new_heads l) (vars-extends clauses old now level w.runs.extends) keeps.others) m.0 m.1

-- the next clause can be visited
pub walking-visits : (clauses : List (Option (List Lit))) (old now : Assigned) (cells : List Cell) (heads : List ℕ) (level position : ℕ) (l : Lit) (before number count : ℕ) → IsWalking clauses old now cells heads level position l before number count → number ≢ 0 → IsFalseAt now.entries position l → (0 < l.var) × (l.var ≤ old.vars) → CanVisit clauses cells heads now level (record { position = position; lit = l; before = before; number = number })
walking-visits clauses old now cells heads level position l before number count w some fails exists = record {
  fits = w.runs.fits;
  watched = w.watched;
  fails = fails;
  exists = (exists.0, subst (λ vars. l.var ≤ vars) (sym same) exists.1);
  many = subst (λ vars. length heads ≡ 2 * vars + 2) (sym same) w.many;
  walk = walking-walks clauses old now cells heads level position l before number count w some;
  others = subst (λ vars. AreOthersListed vars cells heads l) (sym same) w.others;
}
  where
    same : now.vars ≡ old.vars
    same = vars-extends clauses old now level w.runs.extends
