-- A clause leaves the list of one literal and becomes the first of another's.
use Rattle.std.proofs.Common.{◌≡◌, ◌≢◌, ℕ, ◌<◌, List, [], ◌∷◌, inl, inr, length, set, sym, ap, refl, ◌∙◌, subst, arith, Contains, length-set, get_or-set_same, get_or-set_other}
use Rattle.std.proofs.lemmas.Bool.{cases_eq}
use Rattle.list_base.proofs.Members.{here, here_same, there, cons_cases}
use Rattle.clause_core.specs.declared.literal.Lit.{Lit}
use Rattle.clause_core.specs.Literal.{rank}
use Rattle.sat_trail.specs.declared.watch.Cell.{Cell}
use Rattle.sat_trail.specs.inner.Watches.{blank, cell_of, watch, HasLink, Watches, WatchesApart, IsPut, head_of, IsChain, IsBefore, IsDistinct, joined, last_of, IsListed, KeepsLits, IsWithin}
use Rattle.sat_trail.specs.inner.Walk.{IsWalk, AreOthersListed, SetsLink, at_head, at_cell, PutsFirst, MovesWatch, Walks, IsNewWatch}
use Rattle.sat_trail.proofs.LiteralLemmas.{cases_literal}
use Rattle.sat_trail.proofs.CellLemmas.{put-link, put-here, put-watched, put-leaves, put-apart, put-same, KeepsLits-watches, KeepsLits-within, put-within, KeepsLits-apart, KeepsLits-same, rank-only}
use Rattle.sat_trail.proofs.ChainLemmas.{joined-left, joined-right, joined-cases, distinct-right, distinct-apart, distinct-last, distinct-weaker, chain-frame, before-frame, chain-member, before-member, walk-rest, walk-member}

-- what the clause before keeps while its link is set
record IsRelinked (cells new : List Cell) (heads new_heads : List ℕ) (l : Lit) (before next : ℕ) : Type 0 where
  as_many : length new ≡ length cells
  heads_as_many : length new_heads ≡ length heads
  other_heads : (m : Lit) → m ≢ l → head_of new_heads m ≡ head_of heads m
  same : (n : ℕ) → n ≢ before → cell_of new n ≡ cell_of cells n
  links : (n : ℕ) (m : Lit) (k : ℕ) → m ≢ l → HasLink (cell_of cells n) m k → HasLink (cell_of new n) m k
  lits : (n : ℕ) → KeepsLits (cell_of cells n) (cell_of new n)
  joins : (passed rest : List ℕ) (number : ℕ) → before ≡ last_of passed → IsDistinct (joined passed rest) →
      IsBefore cells l (head_of heads l) passed number → IsBefore new l (head_of new_heads l) passed next

-- the last of the clauses that were passed goes on with another
joins-cell : (cells new : List Cell) (l : Lit) (first before next number : ℕ) (passed rest : List ℕ) → length new ≡ length cells → 0 < before → ((n : ℕ) → n ≢ before → cell_of new n ≡ cell_of cells n) → HasLink (cell_of new before) l next → before ≡ last_of passed → IsDistinct (joined passed rest) → IsBefore cells l first passed number → IsBefore new l first passed next
joins-cell cells new l first before next number [] rest many some same link last distinct linked = absurd (omega (arith, some, last))
joins-cell cells new l first before next number (p ∷ earlier) rest many some same link last distinct linked = (
  linked.0,
  subst (λ k. p < k) (sym many) linked.1,
  subst (λ k. HasLink (cell_of new k) l next) last link,
  before-frame cells new l first earlier p many
      (λ n among k old. subst (λ (c : Cell). HasLink c l k) (sym (same n (λ is. distinct-last p earlier rest n distinct among (is ∙ last)))) old)
      linked.3,
)

-- the first of the list is another
joins-head : (cells new : List Cell) (l : Lit) (first before next number : ℕ) (passed rest : List ℕ) → before ≡ 0 → before ≡ last_of passed → IsBefore cells l first passed number → IsBefore new l next passed next
joins-head cells new l first before next number [] rest none last linked = refl
joins-head cells new l first before next number (p ∷ earlier) rest none last linked = absurd (omega (arith, linked.0, none, last))

-- a cell after another was written
cell-other : (cells : List Cell) (number n : ℕ) (cell : Cell) → n ≢ number → cell_of (set cells number cell) n ≡ cell_of cells n
cell-other cells number n cell other = get_or-set_other cells number n cell blank other

-- the cell that was written
cell-same : (cells : List Cell) (number : ℕ) (cell : Cell) → number < length cells → cell_of (set cells number cell) number ≡ cell
cell-same cells number cell within = get_or-set_same cells number cell blank within

-- the head of another list
head-other : (heads : List ℕ) (l m : Lit) (n : ℕ) → m ≢ l → head_of (set heads (rank l) n) m ≡ head_of heads m
head-other heads l m n other = get_or-set_other heads (rank l) (rank m) n 0 (λ same. other (rank-only m l same))

-- the link was set
IsRelinked-set : (cells new : List Cell) (heads new_heads : List ℕ) (l : Lit) (before next : ℕ) → rank l < length heads → before < length cells → SetsLink cells new heads new_heads l before next → IsRelinked cells new heads new_heads l before next
IsRelinked-set cells new heads new_heads l before next head_within within (at_head none cells_same heads_set) = record {
  as_many = ap length cells_same;
  heads_as_many = ap length heads_set ∙ length-set heads (rank l) next;
  other_heads = λ m other. ap (λ hs. head_of hs m) heads_set ∙ head-other heads l m next other;
  same = λ n other. ap (λ cs. cell_of cs n) cells_same;
  links = λ n m k other link. subst (λ (cs : List Cell). HasLink (cell_of cs n) m k) (sym cells_same) link;
  lits = λ n. KeepsLits-same (cell_of cells n) (cell_of new n) (ap (λ cs. cell_of cs n) cells_same);
  joins = λ passed rest number last distinct linked.
      subst (λ k. IsBefore new l k passed next) (sym (ap (λ hs. head_of hs l) heads_set ∙ get_or-set_same heads (rank l) next 0 head_within))
      (joins-head cells new l (head_of heads l) before next number passed rest none last linked);
}
IsRelinked-set cells new heads new_heads l before next head_within within (at_cell some heads_same cell put cells_set) = record {
  as_many = many;
  heads_as_many = ap length heads_same;
  other_heads = λ m other. ap (λ hs. head_of hs m) heads_same;
  same = same;
  links = λ n m k other link. elim (cases_eq n before) [
    | inl is ↦ subst (λ (c : Cell). HasLink c m k) (sym (ap (cell_of new) is ∙ at_before)) (put-link (cell_of cells before) l (watch l next) cell m k other put (subst (λ j. HasLink (cell_of cells j) m k) is link))
    | inr differs ↦ subst (λ (c : Cell). HasLink c m k) (sym (same n differs)) link
  ];
  lits = λ n. elim (cases_eq n before) [
    | inl is ↦ subst (λ j. KeepsLits (cell_of cells j) (cell_of new j)) (sym is) (subst (KeepsLits (cell_of cells before)) (sym at_before) (put-same (cell_of cells before) l next cell put))
    | inr differs ↦ KeepsLits-same (cell_of cells n) (cell_of new n) (same n differs)
  ];
  joins = λ passed rest number last distinct linked.
      subst (λ (hs : List ℕ). IsBefore new l (head_of hs l) passed next) (sym heads_same)
      (joins-cell cells new l (head_of heads l) before next number passed rest many some same
      (subst (λ (c : Cell). HasLink c l next) (sym at_before) (put-here (cell_of cells before) l l next cell put)) last distinct linked);
}
  where
    many : length new ≡ length cells
    many = ap length cells_set ∙ length-set cells before cell

    same : (n : ℕ) → n ≢ before → cell_of new n ≡ cell_of cells n
    same n differs = ap (λ cs. cell_of cs n) cells_set ∙ cell-other cells before n cell differs

    at_before : cell_of new before ≡ cell
    at_before = ap (λ cs. cell_of cs before) cells_set ∙ cell-same cells before cell within

-- what is known while a clause moves
record IsMoving (vars : ℕ) (cells mid new : List Cell) (heads mid_heads new_heads : List ℕ) (l to : Lit) (before number next : ℕ) : Type 0 where
  relinked : IsRelinked cells mid heads mid_heads l before next
  front : PutsFirst mid new mid_heads new_heads l to number
  number_some : 0 < number
  within : number < length mid
  head_within : rank to < length mid_heads
  other : number ≢ before
  new_watch : IsNewWatch vars (cell_of cells number) to
  differs : to ≢ l
  apart : WatchesApart (cell_of cells number)
  link : HasLink (cell_of cells number) l next

-- the clause that moves
moving-cell : (vars : ℕ) (cells mid new : List Cell) (heads mid_heads new_heads : List ℕ) (l to : Lit) (before number next : ℕ) → IsMoving vars cells mid new heads mid_heads new_heads l to before number next → IsPut (cell_of cells number) l (watch to (head_of heads to)) (cell_of new number)
moving-cell vars cells mid new heads mid_heads new_heads l to before number next m =
    subst (IsPut (cell_of cells number) l (watch to (head_of heads to))) (sym (ap (λ cs. cell_of cs number) m.front.cells_set ∙ cell-same mid number m.front.cell m.within))
    (subst (λ (c : Cell). IsPut c l (watch to (head_of heads to)) m.front.cell) (m.relinked.same number m.other)
    (subst (λ k. IsPut (cell_of mid number) l (watch to k) m.front.cell) (m.relinked.other_heads to m.differs) m.front.put))

-- the other clauses
moving-other : (vars : ℕ) (cells mid new : List Cell) (heads mid_heads new_heads : List ℕ) (l to : Lit) (before number next n : ℕ) → IsMoving vars cells mid new heads mid_heads new_heads l to before number next → n ≢ number → cell_of new n ≡ cell_of mid n
moving-other vars cells mid new heads mid_heads new_heads l to before number next n m other =
    ap (λ cs. cell_of cs n) m.front.cells_set ∙ cell-other mid number n m.front.cell other

-- the other clauses watch what they did
moving-lits : (vars : ℕ) (cells mid new : List Cell) (heads mid_heads new_heads : List ℕ) (l to : Lit) (before number next n : ℕ) → IsMoving vars cells mid new heads mid_heads new_heads l to before number next → n ≢ number → KeepsLits (cell_of cells n) (cell_of new n)
moving-lits vars cells mid new heads mid_heads new_heads l to before number next n m other =
    subst (KeepsLits (cell_of cells n)) (sym (moving-other vars cells mid new heads mid_heads new_heads l to before number next n m other)) (m.relinked.lits n)

-- the links of another literal
moving-links : (vars : ℕ) (cells mid new : List Cell) (heads mid_heads new_heads : List ℕ) (l to : Lit) (before number next : ℕ) → IsMoving vars cells mid new heads mid_heads new_heads l to before number next → (n : ℕ) (k : Lit) (j : ℕ) → k ≢ l → HasLink (cell_of cells n) k j → HasLink (cell_of new n) k j
moving-links vars cells mid new heads mid_heads new_heads l to before number next m n k j other link = elim (cases_eq n number) [
  | inl is ↦ subst (λ i. HasLink (cell_of new i) k j) (sym is)
      (put-link (cell_of cells number) l (watch to (head_of heads to)) (cell_of new number) k j other
      (moving-cell vars cells mid new heads mid_heads new_heads l to before number next m)
      (subst (λ i. HasLink (cell_of cells i) k j) is link))
  | inr differs ↦ subst (λ (c : Cell). HasLink c k j) (sym (moving-other vars cells mid new heads mid_heads new_heads l to before number next n m differs)) (m.relinked.links n k j other link)
]

-- as many cells
moving-many : (vars : ℕ) (cells mid new : List Cell) (heads mid_heads new_heads : List ℕ) (l to : Lit) (before number next : ℕ) → IsMoving vars cells mid new heads mid_heads new_heads l to before number next → length new ≡ length cells
moving-many vars cells mid new heads mid_heads new_heads l to before number next m = ap length m.front.cells_set ∙ length-set mid number m.front.cell ∙ m.relinked.as_many

-- the head of another list than the new one
moving-head : (vars : ℕ) (cells mid new : List Cell) (heads mid_heads new_heads : List ℕ) (l to : Lit) (before number next : ℕ) (k : Lit) → IsMoving vars cells mid new heads mid_heads new_heads l to before number next → k ≢ to → head_of new_heads k ≡ head_of mid_heads k
moving-head vars cells mid new heads mid_heads new_heads l to before number next k m other = ap (λ hs. head_of hs k) m.front.heads_set ∙ head-other mid_heads to k number other

-- what watches another literal than the new one watched it before
moving-watched : (vars : ℕ) (cells mid new : List Cell) (heads mid_heads new_heads : List ℕ) (l to : Lit) (before number next : ℕ) → IsMoving vars cells mid new heads mid_heads new_heads l to before number next → (n : ℕ) (k : Lit) → k ≢ to → Watches (cell_of new n) k → Watches (cell_of cells n) k
moving-watched vars cells mid new heads mid_heads new_heads l to before number next m n k other watches = elim (cases_eq n number) [
  | inl is ↦ elim (put-watched (cell_of cells number) l (watch to (head_of heads to)) (cell_of new number) k (moving-cell vars cells mid new heads mid_heads new_heads l to before number next m) (subst (λ i. Watches (cell_of new i) k) is watches)) [
    | inl new_one ↦ absurd (other new_one)
    | inr old ↦ subst (λ i. Watches (cell_of cells i) k) (sym is) old
  ]
  | inr differs ↦ KeepsLits-watches (cell_of cells n) (cell_of new n) k (moving-lits vars cells mid new heads mid_heads new_heads l to before number next n m differs) watches
]

-- cells differ as before
moving-apart : (vars : ℕ) (cells mid new : List Cell) (heads mid_heads new_heads : List ℕ) (l to : Lit) (before number next : ℕ) → IsMoving vars cells mid new heads mid_heads new_heads l to before number next → (n : ℕ) → (n ≢ number → WatchesApart (cell_of cells n)) → WatchesApart (cell_of new n)
moving-apart vars cells mid new heads mid_heads new_heads l to before number next m n old = elim (cases_eq n number) [
  | inl is ↦ subst (λ i. WatchesApart (cell_of new i)) (sym is) (put-apart (cell_of cells number) l (watch to (head_of heads to)) (cell_of new number) (moving-cell vars cells mid new heads mid_heads new_heads l to before number next m) m.new_watch.absent)
  | inr differs ↦ KeepsLits-apart (cell_of cells n) (cell_of new n) (moving-lits vars cells mid new heads mid_heads new_heads l to before number next n m differs) (old differs)
]

-- the lists of the other literals, but for the new one
moving-listed : (vars : ℕ) (cells mid new : List Cell) (heads mid_heads new_heads : List ℕ) (l to : Lit) (before number next : ℕ) (k : Lit) → IsMoving vars cells mid new heads mid_heads new_heads l to before number next → k ≢ l → k ≢ to → IsListed cells heads k → IsListed new new_heads k
moving-listed vars cells mid new heads mid_heads new_heads l to before number next k m other not_to listed = record {
  list = listed.list;
  chain = subst (λ i. IsChain new k i listed.list) (sym (moving-head vars cells mid new heads mid_heads new_heads l to before number next k m not_to ∙ m.relinked.other_heads k other))
      (chain-frame cells new k (head_of heads k) listed.list (moving-many vars cells mid new heads mid_heads new_heads l to before number next m)
      (λ n among j link. moving-links vars cells mid new heads mid_heads new_heads l to before number next m n k j other link) listed.chain);
  distinct = listed.distinct;
  covers = λ n watches. listed.covers n (moving-watched vars cells mid new heads mid_heads new_heads l to before number next m n k not_to watches);
  apart = λ n watches. moving-apart vars cells mid new heads mid_heads new_heads l to before number next m n (λ differs. listed.apart n (moving-watched vars cells mid new heads mid_heads new_heads l to before number next m n k not_to watches));
}

-- the new list
moving-to : (vars : ℕ) (cells mid new : List Cell) (heads mid_heads new_heads : List ℕ) (l to : Lit) (before number next : ℕ) → IsMoving vars cells mid new heads mid_heads new_heads l to before number next → IsListed cells heads to → IsListed new new_heads to
moving-to vars cells mid new heads mid_heads new_heads l to before number next m listed = record {
  list = number ∷ listed.list;
  chain = (
    ap (λ hs. head_of hs to) m.front.heads_set ∙ get_or-set_same mid_heads (rank to) number 0 m.head_within,
    m.number_some,
    subst (λ k. number < k) (sym (moving-many vars cells mid new heads mid_heads new_heads l to before number next m ∙ sym m.relinked.as_many)) m.within,
    (
      head_of heads to,
      put-here (cell_of cells number) l to (head_of heads to) (cell_of new number) (moving-cell vars cells mid new heads mid_heads new_heads l to before number next m),
      chain-frame cells new to (head_of heads to) listed.list (moving-many vars cells mid new heads mid_heads new_heads l to before number next m)
          (λ n among j link. moving-links vars cells mid new heads mid_heads new_heads l to before number next m n to j m.differs link) listed.chain,
    ),
  );
  distinct = (absent, listed.distinct);
  covers = λ n watches. elim (cases_eq number n) [
    | inl is ↦ here_same number listed.list n is
    | inr differs ↦ there number listed.list n (listed.covers n (KeepsLits-watches (cell_of cells n) (cell_of new n) to (moving-lits vars cells mid new heads mid_heads new_heads l to before number next n m (λ is. differs (sym is))) watches))
  ];
  apart = λ n watches. moving-apart vars cells mid new heads mid_heads new_heads l to before number next m n
      (λ differs. listed.apart n (KeepsLits-watches (cell_of cells n) (cell_of new n) to (moving-lits vars cells mid new heads mid_heads new_heads l to before number next n m differs) watches));
}
  where
    absent : Contains listed.list number → ⊥
    absent among = m.new_watch.absent (chain-member cells to (head_of heads to) listed.list number listed.chain among).2

-- each list but that of the walk
moving-others : (vars : ℕ) (cells mid new : List Cell) (heads mid_heads new_heads : List ℕ) (l to : Lit) (before number next : ℕ) → IsMoving vars cells mid new heads mid_heads new_heads l to before number next → AreOthersListed vars cells heads l → AreOthersListed vars new new_heads l
moving-others vars cells mid new heads mid_heads new_heads l to before number next m others = record {
  listed = λ k from_one exists other. elim (cases_literal k to) [
    | inl is ↦ subst (IsListed new new_heads) (sym is)
        (moving-to vars cells mid new heads mid_heads new_heads l to before number next m
        (others.listed to (subst (λ (j : Lit). 0 < j.var) is from_one) m.new_watch.exists m.differs))
    | inr not_to ↦ moving-listed vars cells mid new heads mid_heads new_heads l to before number next k m other not_to (others.listed k from_one exists other)
  ];
  within = λ n. elim (cases_eq n number) [
    | inl is ↦ subst (λ i. IsWithin vars (cell_of new i)) (sym is)
        (put-within vars (cell_of cells number) l (watch to (head_of heads to)) (cell_of new number)
        (moving-cell vars cells mid new heads mid_heads new_heads l to before number next m) m.new_watch.exists (others.within number))
    | inr differs ↦ KeepsLits-within vars (cell_of cells n) (cell_of new n)
        (moving-lits vars cells mid new heads mid_heads new_heads l to before number next n m differs) (others.within n)
  ];
}

-- the walk goes on with the next clause
moving-walk : (vars : ℕ) (cells mid new : List Cell) (heads mid_heads new_heads : List ℕ) (l to : Lit) (before number next : ℕ) → IsMoving vars cells mid new heads mid_heads new_heads l to before number next → (passed rest : List ℕ) → IsWalk cells heads l passed (number ∷ rest) before number → IsWalk new new_heads l passed rest before next
moving-walk vars cells mid new heads mid_heads new_heads l to before number next m passed rest walk = record {
  last = walk.last;
  linked = subst (λ k. IsBefore new l k passed next) (sym (moving-head vars cells mid new heads mid_heads new_heads l to before number next l m (λ same. m.differs (sym same))))
      (before-frame mid new l (head_of mid_heads l) passed next (moving-many vars cells mid new heads mid_heads new_heads l to before number next m ∙ sym m.relinked.as_many)
      (λ n among j link. subst (λ (c : Cell). HasLink c l j) (sym (moving-other vars cells mid new heads mid_heads new_heads l to before number next n m (λ is. distinct-apart passed (number ∷ rest) n walk.distinct among (here_same number rest n (sym is))))) link)
      (m.relinked.joins passed (number ∷ rest) number walk.last walk.distinct walk.linked));
  chain = chain-frame cells new l next rest (moving-many vars cells mid new heads mid_heads new_heads l to before number next m)
      (λ n among j link. subst (λ (c : Cell). HasLink c l j) (sym (comes n among)) link) later;
  distinct = distinct-weaker passed (number ∷ rest) rest (λ n among. there number rest n among) (distinct-right passed (number ∷ rest) walk.distinct).1 walk.distinct;
  covers = λ n watches.
      let among = walk.covers n (before-watched n watches) in
      elim (joined-cases passed (number ∷ rest) n among) [
        | inl left ↦ joined-left passed rest n left
        | inr right ↦ elim (cons_cases number rest n right) [
          | inl is ↦ absurd (leaves n watches (sym is))
          | inr later ↦ joined-right passed rest n later
        ]
      ];
  apart = λ n watches. moving-apart vars cells mid new heads mid_heads new_heads l to before number next m n (λ differs. walk.apart n (before-watched n watches));
}
  where
    later : IsChain cells l next rest
    later = walk-rest cells heads l passed rest before number next walk m.link

    before-differs : (n : ℕ) → Contains rest n → n ≢ before
    before-differs n among is = last-differs passed refl
      where
        last-differs : (ps : List ℕ) → ps ≡ passed → ⊥
        last-differs [] same = omega (arith, (chain-member cells l next rest n later among).0, is, walk.last ∙ ap last_of (sym same))
        last-differs (p ∷ ps) same =
            distinct-apart passed (number ∷ rest) n walk.distinct
            (subst (λ (xs : List ℕ). Contains xs n) same (here_same p ps n (sym (is ∙ walk.last ∙ ap last_of (sym same))))) (there number rest n among)

    comes : (n : ℕ) → Contains rest n → cell_of new n ≡ cell_of cells n
    comes n among =
        moving-other vars cells mid new heads mid_heads new_heads l to before number next n m
        (λ is. (distinct-right passed (number ∷ rest) walk.distinct).0 (subst (Contains rest) is among))
        ∙ m.relinked.same n (before-differs n among)

    leaves : (n : ℕ) → Watches (cell_of new n) l → n ≢ number
    leaves n watches is = put-leaves (cell_of cells number) l (watch to (head_of heads to)) (cell_of new number) (moving-cell vars cells mid new heads mid_heads new_heads l to before number next m) m.apart m.differs
        (subst (λ i. Watches (cell_of new i) l) is watches)

    before-watched : (n : ℕ) → Watches (cell_of new n) l → Watches (cell_of cells n) l
    before-watched n watches = moving-watched vars cells mid new heads mid_heads new_heads l to before number next m n l (λ same. m.differs (sym same)) watches

-- the clause before is another, and there is a cell for it
pub before-other : (cells : List Cell) (heads : List ℕ) (l : Lit) (passed rest : List ℕ) (before number : ℕ) → IsWalk cells heads l passed (number ∷ rest) before number → (number ≢ before) × (before < length cells) × (0 < before → Watches (cell_of cells before) l)
before-other cells heads l [] rest before number walk = (
  (λ is. omega (arith, is, walk.last, walk.chain.1)),
  omega (arith, walk.last, walk.chain.2),
  λ some. absurd (omega (arith, some, walk.last)),
)
before-other cells heads l (p ∷ earlier) rest before number walk =
    let member = before-member cells l (head_of heads l) (p ∷ earlier) number before walk.linked (here_same p earlier before (sym walk.last)) in (
      (λ is. distinct-apart (p ∷ earlier) (number ∷ rest) number walk.distinct (here_same p earlier number (sym (is ∙ walk.last))) (here number rest)),
      member.1,
      λ some. member.2,
    )

-- what a move does to the lists
pub MovesWatch-moved : (vars : ℕ) (cells mid new : List Cell) (heads mid_heads new_heads : List ℕ) (l to : Lit) (before number next : ℕ) → Walks cells heads l before number → AreOthersListed vars cells heads l → IsNewWatch vars (cell_of cells number) to → rank l < length heads → rank to < length heads → HasLink (cell_of cells number) l next → SetsLink cells mid heads mid_heads l before next → PutsFirst mid new mid_heads new_heads l to number → MovesWatch vars cells new heads new_heads l to before number next
MovesWatch-moved vars cells mid new heads mid_heads new_heads l to before number next walks listed new_watch l_within to_within link sets front = record {
  as_many = moving-many vars cells mid new heads mid_heads new_heads l to before number next moving;
  heads_as_many = ap length front.heads_set ∙ length-set mid_heads (rank to) number ∙ relinked.heads_as_many;
  put = (head_of heads to, moving-cell vars cells mid new heads mid_heads new_heads l to before number next moving);
  others = λ n other. moving-lits vars cells mid new heads mid_heads new_heads l to before number next n moving other;
  walk = moving-walk vars cells mid new heads mid_heads new_heads l to before number next moving;
  others_listed = moving-others vars cells mid new heads mid_heads new_heads l to before number next moving listed;
}
  where
    facts : (number ≢ before) × (before < length cells) × (0 < before → Watches (cell_of cells before) l)
    facts = before-other cells heads l walks.passed walks.rest before number walks.walk

    member : (0 < number) × (number < length cells) × Watches (cell_of cells number) l
    member = walk-member cells heads l walks.passed walks.rest before number walks.walk

    relinked : IsRelinked cells mid heads mid_heads l before next
    relinked = IsRelinked-set cells mid heads mid_heads l before next l_within facts.1 sets

    moving : IsMoving vars cells mid new heads mid_heads new_heads l to before number next
    moving = record {
      relinked = relinked;
      front = front;
      number_some = member.0;
      within = subst (λ k. number < k) (sym relinked.as_many) member.1;
      head_within = subst (λ k. rank to < k) (sym relinked.heads_as_many) to_within;
      other = facts.0;
      new_watch = new_watch;
      differs = λ same. new_watch.absent (subst (Watches (cell_of cells number)) (sym same) member.2);
      apart = walks.walk.apart number member.2;
      link = link;
    }
