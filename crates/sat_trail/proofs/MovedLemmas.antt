-- What clauses watch after one of them left the list of a false literal.
use Rattle.std.proofs.Common.{◌≡◌, ◌≢◌, ℕ, ◌<◌, ◌≤◌, Some, List, inl, inr, sym, ap, refl, ◌∙◌, subst, arith, Contains}
use Rattle.std.proofs.lemmas.Bool.{cases_eq}
use Rattle.clause_core.specs.declared.literal.Lit.{Lit}
use Rattle.clause_core.specs.Numbering.{Numbering, HasNumber}
use Rattle.clause_core.specs.Propagation.{MakesFalse}
use Rattle.sat_trail.specs.declared.entry.Entry.{Entry}
use Rattle.sat_trail.specs.declared.watch.Cell.{Cell}
use Rattle.sat_trail.specs.Entry.{values_of}
use Rattle.sat_trail.specs.inner.Excuse.{Progress, IsExcused, is_satisfied, is_waiting, is_new, IsWatched, WatchesTwo, AreWatched}
use Rattle.sat_trail.specs.inner.Visit.{IsFalseAt}
use Rattle.sat_trail.specs.inner.Walk.{MovesWatch}
use Rattle.sat_trail.specs.inner.Watches.{cell_of, watch, IsPut, at_one, at_other, IsTurn, Watches, KeepsLits}
use Rattle.sat_trail.proofs.CellLemmas.{KeepsLits-watches}
use Rattle.sat_trail.proofs.SettledLemmas.{true-false}
use Rattle.sat_trail.proofs.ValueLemmas.{IsOnce, value-by, value-false}

-- watched literals that are the same
watched-same : (es : List Entry) (p : Progress) (n : ℕ) (c : List Lit) (l m other rest : Lit) → l ≡ m → other ≡ rest → IsWatched es p n c m rest → IsWatched es p n c l other
watched-same es p n c l m other rest first second w =
    subst (λ (k : Lit). IsWatched es p n c k other) (sym first) (subst (λ (k : Lit). IsWatched es p n c m k) (sym second) w)

-- a clause that watches the same literals
two-same : (es : List Entry) (p : Progress) (n : ℕ) (c : List Lit) (cell new : Cell) → KeepsLits cell new → WatchesTwo es p n c cell → WatchesTwo es p n c new
two-same es p n c cell new keeps two turn (inl same) =
    watched-same es p n c turn.one.lit cell.one.lit turn.other.lit cell.other.lit (ap (λ (t : Cell). t.one.lit) same ∙ keeps.one) (ap (λ (t : Cell). t.other.lit) same ∙ keeps.other) (two cell (inl refl))
two-same es p n c cell new keeps two turn (inr same) =
    watched-same es p n c turn.one.lit cell.other.lit turn.other.lit cell.one.lit (ap (λ (t : Cell). t.one.lit) same ∙ keeps.other) (ap (λ (t : Cell). t.other.lit) same ∙ keeps.one) (two (record { one = cell.other; other = cell.one }) (inr refl))

-- both ways round
two-both : (es : List Entry) (p : Progress) (n : ℕ) (c : List Lit) (cell : Cell) (l m : Lit) → (cell.one.lit ≡ l) × (cell.other.lit ≡ m) → IsWatched es p n c l m → IsWatched es p n c m l → WatchesTwo es p n c cell
two-both es p n c cell l m are first second turn (inl same) =
    watched-same es p n c turn.one.lit l turn.other.lit m (ap (λ (t : Cell). t.one.lit) same ∙ are.0) (ap (λ (t : Cell). t.other.lit) same ∙ are.1) first
two-both es p n c cell l m are first second turn (inr same) =
    watched-same es p n c turn.one.lit m turn.other.lit l (ap (λ (t : Cell). t.one.lit) same ∙ are.1) (ap (λ (t : Cell). t.other.lit) same ∙ are.0) second

-- the excuse of the other literal is not the one that became false
excused-moved : (es : List Entry) (p : Progress) (n : ℕ) (c : List Lit) (l to : Lit) (i : ℕ) (e : Entry) → n ≤ p.examined → (values_of es l.var ≡ Some l.positive → ⊥) → IsOnce es → IsExcused es p n c l i e → IsExcused es p n c to i e
excused-moved es p n c l to i e early untrue once (is_satisfied t) = absurd (untrue (value-by es e.level l once t))
excused-moved es p n c l to i e early untrue once (is_waiting past) = is_waiting past
excused-moved es p n c l to i e early untrue once (is_new late level others) = absurd (omega (arith, late, early))

-- the new watch and the one that is kept
moved-pair : (es : List Entry) (p : Progress) (n : ℕ) (c : List Lit) (l kept to : Lit) → n ≤ p.examined → (values_of es l.var ≡ Some l.positive → ⊥) → IsOnce es → Contains c to → to ≢ kept → ¬ MakesFalse (values_of es) to → IsWatched es p n c kept l → IsWatched es p n c to kept × IsWatched es p n c kept to
moved-pair es p n c l kept to early untrue once among differs unfalse w = (
  record { among = among; differs = differs; excused = λ i e got fails. absurd (unfalse (value-false es i e to once got fails)) },
  record {
    among = w.among;
    differs = λ same. differs (sym same);
    excused = λ i e got fails. excused-moved es p n c l to i e early untrue once (w.excused i e got fails);
  },
)

-- what the clause that moved watches
two-moved : (es : List Entry) (p : Progress) (n : ℕ) (c : List Lit) (cell new : Cell) (l kept to : Lit) (k : ℕ) → n ≤ p.examined → (values_of es l.var ≡ Some l.positive → ⊥) → IsOnce es → Contains c to → to ≢ kept → ¬ MakesFalse (values_of es) to → ((turn : Cell) → IsTurn cell turn → turn.one.lit ≡ l → turn.other.lit ≡ kept) → IsPut cell l (watch to k) new → WatchesTwo es p n c cell → WatchesTwo es p n c new
two-moved es p n c cell new l kept to k early untrue once among differs unfalse keeps (at_one is same) two =
    let at_kept = keeps cell (inl refl) is in
    let w = watched-same es p n c kept cell.other.lit l cell.one.lit (sym at_kept) (sym is) (two (record { one = cell.other; other = cell.one }) (inr refl)) in
    let pair = moved-pair es p n c l kept to early untrue once among differs unfalse w in
    two-both es p n c new to kept (ap (λ (t : Cell). t.one.lit) same, ap (λ (t : Cell). t.other.lit) same ∙ at_kept) pair.0 pair.1
two-moved es p n c cell new l kept to k early untrue once among differs unfalse keeps (at_other is same) two =
    let at_kept = keeps (record { one = cell.other; other = cell.one }) (inr refl) is in
    let w = watched-same es p n c kept cell.one.lit l cell.other.lit (sym at_kept) (sym is) (two cell (inl refl)) in
    let pair = moved-pair es p n c l kept to early untrue once among differs unfalse w in
    two-both es p n c new kept to (ap (λ (t : Cell). t.one.lit) same ∙ at_kept, ap (λ (t : Cell). t.other.lit) same) pair.1 pair.0

-- the new watch of a clause
pub record IsReplaced (es : List Entry) (numbering : Numbering) (cells : List Cell) (number : ℕ) (l kept to : Lit) : Type 0 where
  pub clause : List Lit
  pub has_number : HasNumber numbering number clause
  pub among : Contains clause to
  pub differs : to ≢ kept
  pub unfalse : ¬ MakesFalse (values_of es) to
  pub keeps : (turn : Cell) → IsTurn (cell_of cells number) turn → turn.one.lit ≡ l → turn.other.lit ≡ kept
  pub watches : Watches (cell_of cells number) l

-- the same clause
same_clause : (numbering : Numbering) (n : ℕ) (c d : List Lit) → HasNumber numbering n c → HasNumber numbering n d → c ≡ d
same_clause numbering n c d first second = let both : Some c ≡ Some d = sym first.there ∙ second.there in cc

-- a false literal is not true
pub false-untrue : (es : List Entry) (head : ℕ) (l : Lit) → IsOnce es → IsFalseAt es head l → values_of es l.var ≡ Some l.positive → ⊥
false-untrue es head l once at_head holds =
    true-false (values_of es l.var) l.positive holds (value-false es head at_head.entry l once at_head.there at_head.fails)

-- what clauses watch after a move
pub AreWatched-moved : (numbering : Numbering) (last vars : ℕ) (cells new : List Cell) (heads new_heads : List ℕ) (es : List Entry) (level head : ℕ) (l kept to : Lit) (before number next : ℕ) → IsOnce es → IsFalseAt es head l → 0 < l.var → ((n : ℕ) (c : List Lit) → HasNumber numbering n c → n ≤ last) → IsReplaced es numbering cells number l kept to → MovesWatch vars cells new heads new_heads l to before number next → AreWatched numbering last cells es (record { level = level; head = head; examined = last }) → AreWatched numbering last new es (record { level = level; head = head; examined = last })
AreWatched-moved numbering last vars cells new heads new_heads es level head l kept to before number next once at_head from_one numbers r moves watched = record {
  head_within = watched.head_within;
  examined_within = watched.examined_within;
  room = omega (arith, watched.room, moves.as_many);
  waiting = watched.waiting;
  long = λ n c has two. elim (cases_eq n number) [
    | inl is ↦
        let here : HasNumber numbering number c = subst (λ k. HasNumber numbering k c) is has in
        subst (λ k. WatchesTwo es p k c (cell_of new k)) (sym is)
        (two-moved es p number c (cell_of cells number) (cell_of new number) l kept to moves.put.0 (numbers number c here) (false-untrue es head l once at_head) once
        (subst (λ (d : List Lit). Contains d to) (same_clause numbering number r.clause c r.has_number here) r.among) r.differs r.unfalse r.keeps moves.put.1 (watched.long number c here two))
    | inr differs ↦ two-same es p n c (cell_of cells n) (cell_of new n) (moves.others n differs) (watched.long n c has two)
  ];
  short = λ n c has few.
      let w = watched.short n c has few in
      record {
        none = λ k some watches. elim (cases_eq n number) [
          | inl is ↦ w.none l from_one (subst (λ j. Watches (cell_of cells j) l) (sym is) r.watches)
          | inr differs ↦ w.none k some (KeepsLits-watches (cell_of cells n) (cell_of new n) k (moves.others n differs) watches)
        ];
        old = w.old;
        new = w.new;
      };
  only = λ n k some watches. elim (cases_eq n number) [
    | inl is ↦ subst (λ j. (0 < j) × (j ≤ last)) (sym is) (watched.only number l from_one r.watches)
    | inr differs ↦ watched.only n k some (KeepsLits-watches (cell_of cells n) (cell_of new n) k (moves.others n differs) watches)
  ];
}
  where
    p : Progress
    p = record { level = level; head = head; examined = last }

-- what clauses watch after one without a clause left a list
pub AreWatched-left : (numbering : Numbering) (last vars : ℕ) (cells new : List Cell) (heads new_heads : List ℕ) (es : List Entry) (p : Progress) (l to : Lit) (before number next : ℕ) → 0 < l.var → Watches (cell_of cells number) l → ((c : List Lit) → HasNumber numbering number c → ⊥) → MovesWatch vars cells new heads new_heads l to before number next → AreWatched numbering last cells es p → AreWatched numbering last new es p
AreWatched-left numbering last vars cells new heads new_heads es p l to before number next from_one watches gone moves watched = record {
  head_within = watched.head_within;
  examined_within = watched.examined_within;
  room = omega (arith, watched.room, moves.as_many);
  waiting = watched.waiting;
  long = λ n c has two. two-same es p n c (cell_of cells n) (cell_of new n) (moves.others n (other n c has)) (watched.long n c has two);
  short = λ n c has few.
      let w = watched.short n c has few in
      record {
        none = λ k some seen. w.none k some (KeepsLits-watches (cell_of cells n) (cell_of new n) k (moves.others n (other n c has)) seen);
        old = w.old;
        new = w.new;
      };
  only = λ n k some seen. elim (cases_eq n number) [
    | inl is ↦ subst (λ j. (0 < j) × (j ≤ last)) (sym is) (watched.only number l from_one watches)
    | inr differs ↦ watched.only n k some (KeepsLits-watches (cell_of cells n) (cell_of new n) k (moves.others n differs) seen)
  ];
}
  where
    other : (n : ℕ) (c : List Lit) → HasNumber numbering n c → n ≢ number
    other n c has is = gone c (subst (λ k. HasNumber numbering k c) is has)
