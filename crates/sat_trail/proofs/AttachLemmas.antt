-- A new clause is put into the lists of two literals.
use Rattle.std.proofs.Common.{◌≡◌, ◌≢◌, ℕ, ◌+◌, ◌<◌, ◌≤◌, Option, Some, None, IfSome, List, [], ◌∷◌, ◌++◌, inl, inr, length, get_or, set, sym, ap, refl, ◌∙◌, subst, arith, All, Contains, length-set, get_or-set_same, get_or-set_other}
use Rattle.std.proofs.lemmas.Bool.{cases_eq}
use Rattle.std.proofs.lemmas.List.Elements.{All-contains}
use Rattle.list_base.proofs.Members.{here_same, there}
use Rattle.clause_core.specs.declared.literal.Lit.{Lit}
use Rattle.clause_core.specs.Literal.{rank}
use Rattle.clause_core.specs.Clause.{IsAscending}
use Rattle.clause_core.specs.Numbering.{Numbering, HasNumber, live}
use Rattle.sat_trail.specs.declared.entry.Entry.{Entry}
use Rattle.sat_trail.specs.declared.watch.Watch.{Watch}
use Rattle.sat_trail.specs.declared.watch.Cell.{Cell}
use Rattle.sat_trail.specs.Entry.{entry_of}
use Rattle.sat_trail.specs.Trail.{IsOpen, HasTwoOpen}
use Rattle.sat_trail.specs.inner.Attach.{MayWatch, AreChosen, IsUnwatched, ArePair, IsAttachedTo}
use Rattle.sat_trail.specs.inner.Excuse.{Progress, is_new, IsWatched, WatchesTwo, WatchesNone, AreWatched}
use Rattle.sat_trail.specs.inner.Watches.{blank, cell_of, watch, HasLink, by_one, by_other, Watches, WatchesApart, head_of, IsChain, IsListed, IsWithin, AreLinked}
use Rattle.sat_trail.proofs.LiteralLemmas.{cases_literal}
use Rattle.sat_trail.proofs.CellLemmas.{rank-only, rank-within}
use Rattle.sat_trail.proofs.ChainLemmas.{chain-frame, chain-member}
use Rattle.sat_trail.proofs.EntryLemmas.{entry_of-member}
use Rattle.sat_trail.proofs.NumberLemmas.{others_keep, added_last}
use Rattle.sat_trail.proofs.ValueLemmas.{IsOnce, at-among, entry_of-among, value-false}

-- the cell and the heads of a clause that is put into two lists
record IsLinkedIn (vars : ℕ) (cells new : List Cell) (heads new_heads : List ℕ) (n : ℕ) (one other : Lit) : Type 0 where
  pair : ArePair vars one other
  some : 0 < n
  within : n < length cells
  unwatched : IsUnwatched (cell_of cells n)
  as_many : length new ≡ length cells
  same : (k : ℕ) → k ≢ n → cell_of new k ≡ cell_of cells k
  is_one : (cell_of new n).one ≡ watch one (head_of heads one)
  is_other : (cell_of new n).other ≡ watch other (head_of heads other)
  head_one : head_of new_heads one ≡ n
  head_other : head_of new_heads other ≡ n
  heads_same : (m : Lit) → m ≢ one → m ≢ other → head_of new_heads m ≡ head_of heads m

-- the chain of a literal that has the clause first, or does not have it
linked-chain : (vars : ℕ) (cells new : List Cell) (heads new_heads : List ℕ) (n : ℕ) (one other m : Lit) (first : ℕ) (list : List ℕ) → IsLinkedIn vars cells new heads new_heads n one other → 0 < m.var → IsChain cells m first list → IsChain new m first list
linked-chain vars cells new heads new_heads n one other m first list l some chain =
    chain-frame cells new m first list l.as_many
    (λ k among j link. subst (λ (c : Cell). HasLink c m j) (sym (l.same k (λ is. l.unwatched m some (subst (λ i. Watches (cell_of cells i) m) is (chain-member cells m first list k chain among).2)))) link) chain

-- the list of a literal that the clause watches
linked-in : (vars : ℕ) (cells new : List Cell) (heads new_heads : List ℕ) (n : ℕ) (one other m : Lit) → IsLinkedIn vars cells new heads new_heads n one other → 0 < m.var → head_of new_heads m ≡ n → HasLink (cell_of new n) m (head_of heads m) → IsListed cells heads m → IsListed new new_heads m
linked-in vars cells new heads new_heads n one other m l some head link listed = record {
  list = n ∷ listed.list;
  chain = (head, l.some, subst (λ k. n < k) (sym l.as_many) l.within, (head_of heads m, link, linked-chain vars cells new heads new_heads n one other m (head_of heads m) listed.list l some listed.chain));
  distinct = ((λ among. l.unwatched m some (chain-member cells m (head_of heads m) listed.list n listed.chain among).2), listed.distinct);
  covers = λ k watches. elim (cases_eq n k) [
    | inl is ↦ here_same n listed.list k is
    | inr differs ↦ there n listed.list k (listed.covers k (subst (λ (c : Cell). Watches c m) (l.same k (λ is. differs (sym is))) watches))
  ];
  apart = λ k watches. linked-apart k watches;
}
  where
    differ-here : WatchesApart (cell_of new n)
    differ-here alike = l.pair.differ (sym (ap (λ w. w.lit) l.is_one) ∙ alike ∙ ap (λ w. w.lit) l.is_other)

    linked-apart : (k : ℕ) → Watches (cell_of new k) m → WatchesApart (cell_of new k)
    linked-apart k watches = elim (cases_eq k n) [
      | inl is ↦ subst (λ i. WatchesApart (cell_of new i)) (sym is) differ-here
      | inr differs ↦ subst WatchesApart (sym (l.same k differs)) (listed.apart k (subst (λ (c : Cell). Watches c m) (l.same k differs) watches))
    ]

-- the list of another literal
linked-out : (vars : ℕ) (cells new : List Cell) (heads new_heads : List ℕ) (n : ℕ) (one other m : Lit) → IsLinkedIn vars cells new heads new_heads n one other → 0 < m.var → m ≢ one → m ≢ other → IsListed cells heads m → IsListed new new_heads m
linked-out vars cells new heads new_heads n one other m l some not_one not_other listed = record {
  list = listed.list;
  chain = subst (λ i. IsChain new m i listed.list) (sym (l.heads_same m not_one not_other)) (linked-chain vars cells new heads new_heads n one other m (head_of heads m) listed.list l some listed.chain);
  distinct = listed.distinct;
  covers = λ k watches. listed.covers k (before k watches);
  apart = λ k watches. subst WatchesApart (sym (l.same k (elsewhere k watches))) (listed.apart k (before k watches));
}
  where
    elsewhere : (k : ℕ) → Watches (cell_of new k) m → k ≢ n
    elsewhere k watches is = elim (subst (λ i. Watches (cell_of new i) m) is watches) [
      | inl here ↦ not_one (sym here ∙ ap (λ w. w.lit) l.is_one)
      | inr here ↦ not_other (sym here ∙ ap (λ w. w.lit) l.is_other)
    ]

    before : (k : ℕ) → Watches (cell_of new k) m → Watches (cell_of cells k) m
    before k watches = subst (λ (c : Cell). Watches c m) (l.same k (elsewhere k watches)) watches

-- all lists
AreLinked-in : (vars : ℕ) (cells new : List Cell) (heads new_heads : List ℕ) (n : ℕ) (one other : Lit) → IsLinkedIn vars cells new heads new_heads n one other → length new_heads ≡ length heads → AreLinked vars cells heads → AreLinked vars new new_heads
AreLinked-in vars cells new heads new_heads n one other l many linked = record {
  many = many ∙ linked.many;
  some = omega (arith, l.within, l.as_many);
  within = λ k. elim (cases_eq k n) [
    | inl is ↦ subst (λ i. IsWithin vars (cell_of new i)) (sym is) (record {
      one = subst (λ (w : Watch). w.lit.var ≤ vars) (sym l.is_one) l.pair.one_exists.1;
      other = subst (λ (w : Watch). w.lit.var ≤ vars) (sym l.is_other) l.pair.other_exists.1;
    })
    | inr differs ↦ subst (IsWithin vars) (sym (l.same k differs)) (linked.within k)
  ];
  listed = λ m some exists. elim (cases_literal m one) [
    | inl is ↦ subst (IsListed new new_heads) (sym is) (linked-in vars cells new heads new_heads n one other one l l.pair.one_exists.0 l.head_one (by_one l.is_one) (linked.listed one l.pair.one_exists.0 l.pair.one_exists.1))
    | inr not_one ↦ elim (cases_literal m other) [
      | inl is ↦ subst (IsListed new new_heads) (sym is) (linked-in vars cells new heads new_heads n one other other l l.pair.other_exists.0 l.head_other (by_other l.is_other) (linked.listed other l.pair.other_exists.0 l.pair.other_exists.1))
      | inr not_other ↦ linked-out vars cells new heads new_heads n one other m l some not_one not_other (linked.listed m some exists)
    ]
  ];
}

-- what linking a clause writes
pub AreLinked-link : (vars : ℕ) (cells new : List Cell) (heads new_heads : List ℕ) (n : ℕ) (one other : Lit) → AreLinked vars cells heads → 0 < n → n < length cells → IsUnwatched (cell_of cells n) → ArePair vars one other → new ≡ set cells n (record { one = watch one (head_of heads one); other = watch other (head_of heads other) }) → new_heads ≡ set (set heads (rank one) n) (rank other) n → AreLinked vars new new_heads
AreLinked-link vars cells new heads new_heads n one other linked some within unwatched pair cells_set heads_set =
    AreLinked-in vars cells new heads new_heads n one other (record {
      pair = pair;
      some = some;
      within = within;
      unwatched = unwatched;
      as_many = ap length cells_set ∙ length-set cells n cell;
      same = λ k differs. ap (λ cs. cell_of cs k) cells_set ∙ get_or-set_other cells n k cell blank differs;
      is_one = ap (λ cs. (cell_of cs n).one) cells_set ∙ ap (λ (c : Cell). c.one) (get_or-set_same cells n cell blank within);
      is_other = ap (λ cs. (cell_of cs n).other) cells_set ∙ ap (λ (c : Cell). c.other) (get_or-set_same cells n cell blank within);
      head_one = ap (λ hs. head_of hs one) heads_set ∙ get_or-set_other (set heads (rank one) n) (rank other) (rank one) n 0 (λ same. pair.differ (rank-only one other same))
          ∙ get_or-set_same heads (rank one) n 0 one_within;
      head_other = ap (λ hs. head_of hs other) heads_set ∙ get_or-set_same (set heads (rank one) n) (rank other) n 0 (omega (arith, other_within, length-set heads (rank one) n));
      heads_same = λ m not_one not_other. ap (λ hs. head_of hs m) heads_set
          ∙ get_or-set_other (set heads (rank one) n) (rank other) (rank m) n 0 (λ same. not_other (rank-only m other same))
          ∙ get_or-set_other heads (rank one) (rank m) n 0 (λ same. not_one (rank-only m one same));
    }) (ap length heads_set ∙ length-set (set heads (rank one) n) (rank other) n ∙ length-set heads (rank one) n) linked
  where
    cell : Cell
    cell = record { one = watch one (head_of heads one); other = watch other (head_of heads other) }

    one_within : rank one < length heads
    one_within = omega (arith, rank-within vars one pair.one_exists.1, linked.many)

    other_within : rank other < length heads
    other_within = omega (arith, rank-within vars other pair.other_exists.1, linked.many)

-- a new clause watches the literals that were chosen
chosen-two : (es : List Entry) (p : Progress) (n : ℕ) (c : List Lit) (l other : Lit) → IsOnce es → p.examined < n → MayWatch es p.level c l other → IsWatched es p n c l other
chosen-two es p n c l other once late may = record {
  among = may.left.among;
  differs = may.left.differs;
  excused = λ i e got fails.
      let last = may.left.last (value-false es i e l once got fails) in
      let found : entry_of es l.var ≡ Some e = subst (λ (k : Lit). entry_of es k.var ≡ Some e) fails (entry_of-among es e once (at-among es i e got)) in
      is_new late (subst (λ o. IfSome o (λ f. f.level ≡ p.level)) found last.0) last.1;
}

-- both ways round
chosen-both : (es : List Entry) (p : Progress) (n : ℕ) (c : List Lit) (cell : Cell) (one other : Lit) → IsOnce es → p.examined < n → (cell.one.lit ≡ one) × (cell.other.lit ≡ other) → AreChosen es p.level c one other → WatchesTwo es p n c cell
chosen-both es p n c cell one other once late are chosen turn (inl same) =
    subst (λ (k : Lit). IsWatched es p n c k turn.other.lit) (sym (ap (λ (t : Cell). t.one.lit) same ∙ are.0))
    (subst (λ (k : Lit). IsWatched es p n c one k) (sym (ap (λ (t : Cell). t.other.lit) same ∙ are.1)) (chosen-two es p n c one other once late chosen.first))
chosen-both es p n c cell one other once late are chosen turn (inr same) =
    subst (λ (k : Lit). IsWatched es p n c k turn.other.lit) (sym (ap (λ (t : Cell). t.one.lit) same ∙ are.1))
    (subst (λ (k : Lit). IsWatched es p n c other k) (sym (ap (λ (t : Cell). t.other.lit) same ∙ are.0)) (chosen-two es p n c other one once late chosen.second))

-- a clause that holds two literals has two
pub two-literals : (c : List Lit) (l m : Lit) → l ≢ m → Contains c l → Contains c m → 2 ≤ length c
two-literals [] l m differ l_among m_among = absurd (omega (arith, l_among.1))
two-literals (k ∷ []) l m differ l_among m_among = absurd (differ (first l l_among ∙ sym (first m m_among)))
  where
    first : (j : Lit) → Contains (k ∷ []) j → j ≡ k
    first j among = let is : among.0 ≡ 0 = omega (arith, among.1) in sym (subst (λ i. get_or (k ∷ []) i j ≡ j) is among.2)
two-literals (k ∷ (h ∷ rest)) l m differ l_among m_among = omega arith

-- one clause more is watched
pub AreWatched-add : (clauses : List (Option (List Lit))) (c : List Lit) (cells new : List Cell) (es : List Entry) (p : Progress) (watched : Option (Lit × Lit)) → IsOnce es → length clauses + 1 < length cells → IsUnwatched (cell_of cells (length clauses + 1)) → (length c < 2 → p.level ≡ 0) → ((one other : Lit) → watched ≡ Some (one, other) → AreChosen es p.level c one other) → (watched ≡ None → length c < 2) → IsAttachedTo cells new (length clauses + 1) watched → AreWatched (live clauses) (length clauses) cells es p → AreWatched (live (clauses ++ Some c ∷ [])) (length clauses + 1) new es p
AreWatched-add clauses c cells new es p watched once room unwatched low chosen none attached w = record {
  head_within = w.head_within;
  examined_within = omega (arith, w.examined_within);
  room = omega (arith, room, attached.as_many);
  waiting = w.waiting;
  long = λ n d has two. elim (cases_eq n (length clauses + 1)) [
    | inl is ↦ subst (λ k. WatchesTwo es p k d (cell_of new k)) (sym is)
        (subst (λ (b : List Lit). WatchesTwo es p (length clauses + 1) b (cell_of new (length clauses + 1))) (same-last n d is has)
        (last-two watched refl (subst (λ (b : List Lit). 2 ≤ length b) (sym (same-last n d is has)) two)))
    | inr differs ↦ subst (WatchesTwo es p n d) (sym (attached.others n differs)) (w.long n d (before n d differs has) two)
  ];
  short = λ n d has few. elim (cases_eq n (length clauses + 1)) [
    | inl is ↦ subst (λ k. WatchesNone es p k d (cell_of new k)) (sym is)
        (subst (λ (b : List Lit). WatchesNone es p (length clauses + 1) b (cell_of new (length clauses + 1))) (same-last n d is has)
        (last-none watched refl (subst (λ (b : List Lit). length b < 2) (sym (same-last n d is has)) few)))
    | inr differs ↦ subst (WatchesNone es p n d) (sym (attached.others n differs)) (w.short n d (before n d differs has) few)
  ];
  only = λ n l some watches. elim (cases_eq n (length clauses + 1)) [
    | inl is ↦ (omega (arith, is), omega (arith, is))
    | inr differs ↦
        let old = w.only n l some (subst (λ (k : Cell). Watches k l) (attached.others n differs) watches) in
        (old.0, omega (arith, old.1))
  ];
}
  where
    late : p.examined < length clauses + 1
    late = omega (arith, w.examined_within)

    same-last : (n : ℕ) (d : List Lit) → n ≡ length clauses + 1 → HasNumber (live (clauses ++ Some c ∷ [])) n d → c ≡ d
    same-last n d is has =
        let both : Some c ≡ Some d = sym (added_last clauses c).there ∙ (subst (λ k. HasNumber (live (clauses ++ Some c ∷ [])) k d) is has).there in cc

    before : (n : ℕ) (d : List Lit) → n ≢ length clauses + 1 → HasNumber (live (clauses ++ Some c ∷ [])) n d → HasNumber (live clauses) n d
    before n d differs has = record { there = sym (others_keep clauses (Some c) n differs) ∙ has.there }

    last-two : (o : Option (Lit × Lit)) → watched ≡ o → 2 ≤ length c → WatchesTwo es p (length clauses + 1) c (cell_of new (length clauses + 1))
    last-two None is two = absurd (omega (arith, two, none is))
    last-two (Some pair) is two = chosen-both es p (length clauses + 1) c (cell_of new (length clauses + 1)) pair.0 pair.1 once late (attached.some pair.0 pair.1 is) (chosen pair.0 pair.1 is)

    last-none : (o : Option (Lit × Lit)) → watched ≡ o → length c < 2 → WatchesNone es p (length clauses + 1) c (cell_of new (length clauses + 1))
    last-none None is few = record {
      none = λ l some watches. unwatched l some (subst (λ (k : Cell). Watches k l) (attached.none is) watches);
      old = λ early. absurd (omega (arith, early, late));
      new = λ _. low few;
    }
    last-none (Some pair) is few =
        let are = chosen pair.0 pair.1 is in
        absurd (omega (arith, few, two-literals c pair.0 pair.1 are.first.left.differs are.first.left.among are.second.left.among))

-- at level 0 each literal is open
pub open-low : (es : List Entry) (c : List Lit) → All (λ e. e.level ≤ 0) es → IsAscending c → 2 ≤ length c → HasTwoOpen es 0 c
open-low es [] top ascending two = absurd (omega (arith, two))
open-low es (k ∷ []) top ascending two = absurd (omega (arith, two))
open-low es (k ∷ (h ∷ rest)) top ascending two = record {
  one = k;
  other = h;
  differ = λ same. omega (arith, ascending.ordered 0 1 k (omega arith) (omega arith), ap rank same);
  one_among = (0, omega arith, refl);
  other_among = (1, omega arith, refl);
  one_open = opened k (entry_of es k.var) refl;
  other_open = opened h (entry_of es h.var) refl;
}
  where
    opened : (l : Lit) (o : Option Entry) → entry_of es l.var ≡ o → IsOpen es 0 l
    opened l None is = subst (λ o. IfSome o (λ (e : Entry). e.level ≡ 0)) (sym is) tt
    opened l (Some e) is = subst (λ o. IfSome o (λ (f : Entry). f.level ≡ 0)) (sym is)
        (omega (arith, All-contains (λ (f : Entry). f.level ≤ 0) es e top (entry_of-member es l.var e is)))

-- a cell that was reserved watches nothing
pub spare-unwatched : (numbering : Numbering) (last : ℕ) (cells : List Cell) (es : List Entry) (p : Progress) (n : ℕ) → last < n → AreWatched numbering last cells es p → IsUnwatched (cell_of cells n)
spare-unwatched numbering last cells es p n past w l some watches = omega (arith, past, (w.only n l some watches).1)
