-- What a visit of one clause knows of it.
use Rattle.std.proofs.Common.{Option, ◌≡◌, ◌≢◌, ℕ, ◌<◌, ◌≤◌, Some, List, ◌⊎◌, inl, inr, length, sym, ap, refl, ◌∙◌, subst, arith, Contains}
use Rattle.clause_core.specs.declared.literal.Lit.{Lit}
use Rattle.clause_core.specs.Clause.{VariablesExist}
use Rattle.clause_core.specs.Numbering.{HasNumber, live}
use Rattle.clause_core.specs.Propagation.{MakesFalse, OthersFalse}
use Rattle.sat_trail.specs.declared.propagation.Cursor.{Cursor}
use Rattle.sat_trail.specs.declared.propagation.Visit.TheVariants.{Stays}
use Rattle.sat_trail.specs.declared.watch.Cell.{Cell}
use Rattle.sat_trail.specs.Entry.{values_of}
use Rattle.sat_trail.specs.inner.Excuse.{IsTrueBy}
use Rattle.sat_trail.specs.inner.Propagation.{CanPropagate}
use Rattle.sat_trail.specs.inner.Storage.{Assigned}
use Rattle.sat_trail.specs.inner.Visit.{IsLastLeft, CanVisit, IsVisit}
use Rattle.sat_trail.specs.inner.Walk.{IsNewWatch}
use Rattle.sat_trail.specs.inner.Watches.{cell_of, IsTurn, HasLink, Watches, WatchesApart, KeepsLits, IsWithin}
use Rattle.sat_trail.proofs.CellLemmas.{HasLink-watches, link-turn}
use Rattle.sat_trail.proofs.ChainLemmas.{walk-member}
use Rattle.sat_trail.proofs.GrowthLemmas.{CanPropagate-exists, CanPropagate-once, CanPropagate-top, watched-number, watched-two}
use Rattle.sat_trail.proofs.MovedLemmas.{IsReplaced}
use Rattle.sat_trail.proofs.ValueLemmas.{value-false}
use Rattle.sat_trail.proofs.WatchedLemmas.{true-by}

-- the literal that a turn has first is watched
pub turn-watches : (cell turn : Cell) (l : Lit) → IsTurn cell turn → turn.one.lit ≡ l → Watches cell l
turn-watches cell turn l turns is = HasLink-watches cell l turn.one.link (link-turn cell turn l turns is)

-- the other way round
pub turned-back : (cell turn : Cell) → IsTurn cell turn → IsTurn cell (record { one = turn.other; other = turn.one })
turned-back cell turn (inl same) = inr (ap (λ (t : Cell). let u : Cell = record { one = t.other; other = t.one } in u) same)
turned-back cell turn (inr same) = inl (ap (λ (t : Cell). let u : Cell = record { one = t.other; other = t.one } in u) same)

-- a turn has both literals of its cell
pub turn-cases : (cell turn : Cell) (m : Lit) → IsTurn cell turn → Watches cell m → (turn.one.lit ≡ m) ⊎ (turn.other.lit ≡ m)
turn-cases cell turn m (inl same) (inl here) = inl (ap (λ (t : Cell). t.one.lit) same ∙ here)
turn-cases cell turn m (inl same) (inr here) = inr (ap (λ (t : Cell). t.other.lit) same ∙ here)
turn-cases cell turn m (inr same) (inl here) = inr (ap (λ (t : Cell). t.other.lit) same ∙ here)
turn-cases cell turn m (inr same) (inr here) = inl (ap (λ (t : Cell). t.one.lit) same ∙ here)

-- the literal beside one of two different ones
pub turn-same : (cell t u : Cell) (l : Lit) → t.one.lit ≢ t.other.lit → IsTurn cell t → t.one.lit ≡ l → IsTurn cell u → u.one.lit ≡ l → u.other.lit ≡ t.other.lit
turn-same cell t u l differ (inl first) is (inl second) also = ap (λ (c : Cell). c.other.lit) (second ∙ sym first)
turn-same cell t u l differ (inl first) is (inr second) also = absurd (differ (is ∙ sym also ∙ ap (λ (c : Cell). c.one.lit) second ∙ sym (ap (λ (c : Cell). c.other.lit) first)))
turn-same cell t u l differ (inr first) is (inl second) also = absurd (differ (is ∙ sym also ∙ ap (λ (c : Cell). c.one.lit) second ∙ sym (ap (λ (c : Cell). c.other.lit) first)))
turn-same cell t u l differ (inr first) is (inr second) also = ap (λ (c : Cell). c.other.lit) (second ∙ sym first)

-- a turn of a cell with the same literals
pub turn-keeps : (cell new turn : Cell) → KeepsLits cell new → IsTurn new turn → (old : Cell) × IsTurn cell old × (turn.one.lit ≡ old.one.lit) × (turn.other.lit ≡ old.other.lit)
turn-keeps cell new turn keeps (inl same) = (cell, inl refl, ap (λ (t : Cell). t.one.lit) same ∙ keeps.one, ap (λ (t : Cell). t.other.lit) same ∙ keeps.other)
turn-keeps cell new turn keeps (inr same) = (record { one = cell.other; other = cell.one }, inr refl, ap (λ (t : Cell). t.one.lit) same ∙ keeps.other, ap (λ (t : Cell). t.other.lit) same ∙ keeps.one)

-- a turn watches literals of the variables as its cell does
turn-within : (vars : ℕ) (cell turn : Cell) → IsTurn cell turn → IsWithin vars cell → turn.other.lit.var ≤ vars
turn-within vars cell turn (inl same) within = subst (λ (t : Cell). t.other.lit.var ≤ vars) (sym same) within.other
turn-within vars cell turn (inr same) within = subst (λ (t : Cell). t.other.lit.var ≤ vars) (sym same) within.one

-- the literals of a turn differ as those of its cell do
turn-apart : (cell turn : Cell) → IsTurn cell turn → WatchesApart cell → turn.one.lit ≢ turn.other.lit
turn-apart cell turn (inl same) apart alike = apart (subst (λ (t : Cell). t.one.lit ≡ t.other.lit) same alike)
turn-apart cell turn (inr same) apart alike = apart (sym (subst (λ (t : Cell). t.one.lit ≡ t.other.lit) same alike))

-- what is known of the clause that a cursor has come to
pub record IsVisited (clauses : List (Option (List Lit))) (cells : List Cell) (heads : List ℕ) (set : Assigned) (level : ℕ) (at : Cursor) (turn : Cell) : Type 0 where
  pub can : CanVisit clauses cells heads set level at
  pub turns : IsTurn (cell_of cells at.number) turn
  pub here : turn.one.lit ≡ at.lit

-- it watches the literal
pub visited-member : (clauses : List (Option (List Lit))) (cells : List Cell) (heads : List ℕ) (set : Assigned) (level : ℕ) (at : Cursor) (turn : Cell) → IsVisited clauses cells heads set level at turn → (0 < at.number) × (at.number < length cells) × Watches (cell_of cells at.number) at.lit
visited-member clauses cells heads set level at turn v = walk-member cells heads at.lit v.can.walk.passed v.can.walk.rest at.before at.number v.can.walk.walk

-- its number is that of a clause
pub visited-given : (clauses : List (Option (List Lit))) (cells : List Cell) (heads : List ℕ) (set : Assigned) (level : ℕ) (at : Cursor) (turn : Cell) → IsVisited clauses cells heads set level at turn → (0 < at.number) × (at.number ≤ length clauses)
visited-given clauses cells heads set level at turn v = watched-number clauses cells set level at.position (length clauses) at.number at.lit v.can.watched v.can.exists.0 (turn-watches (cell_of cells at.number) turn at.lit v.turns v.here)

-- its other watched literal
visited-other : (clauses : List (Option (List Lit))) (cells : List Cell) (heads : List ℕ) (set : Assigned) (level : ℕ) (at : Cursor) (turn : Cell) (c : List Lit) → IsVisited clauses cells heads set level at turn → HasNumber (live clauses) at.number c → Contains c turn.other.lit
visited-other clauses cells heads set level at turn c v has =
    (watched-two clauses cells set level at.position (length clauses) at.number c at.lit v.can.watched v.can.exists.0 (turn-watches (cell_of cells at.number) turn at.lit v.turns v.here) has
    (record { one = turn.other; other = turn.one }) (turned-back (cell_of cells at.number) turn v.turns)).among

-- the other watched literal is of a variable, or of none
pub visited-exists : (clauses : List (Option (List Lit))) (cells : List Cell) (heads : List ℕ) (set : Assigned) (level : ℕ) (at : Cursor) (turn : Cell) → IsVisited clauses cells heads set level at turn → turn.other.lit.var ≤ set.vars
visited-exists clauses cells heads set level at turn v = turn-within set.vars (cell_of cells at.number) turn v.turns (v.can.others.within at.number)

-- the watched literals differ
visited-apart : (clauses : List (Option (List Lit))) (cells : List Cell) (heads : List ℕ) (set : Assigned) (level : ℕ) (at : Cursor) (turn : Cell) → IsVisited clauses cells heads set level at turn → turn.one.lit ≢ turn.other.lit
visited-apart clauses cells heads set level at turn v = turn-apart (cell_of cells at.number) turn v.turns (v.can.walk.walk.apart at.number (visited-member clauses cells heads set level at turn v).2)

-- the other watched literal is the same in each turn
pub visited-same : (clauses : List (Option (List Lit))) (cells : List Cell) (heads : List ℕ) (set : Assigned) (level : ℕ) (at : Cursor) (turn : Cell) (other : Cell) → IsVisited clauses cells heads set level at turn → IsTurn (cell_of cells at.number) other → other.one.lit ≡ at.lit → other.other.lit ≡ turn.other.lit
visited-same clauses cells heads set level at turn other v turns is =
    turn-same (cell_of cells at.number) turn other at.lit (visited-apart clauses cells heads set level at turn v) v.turns v.here turns is

-- the variables of its clause exist
pub visited-variables : (clauses : List (Option (List Lit))) (set : Assigned) (level n : ℕ) (c lits : List Lit) → CanPropagate clauses set level → HasNumber (live clauses) n c → lits ≡ c → VariablesExist set.vars lits
visited-variables clauses set level n c lits fits has same =
    subst (VariablesExist set.vars) (sym same) (fits.exist n c has)

-- a literal that is not false is a new watch
pub visited-new : (clauses : List (Option (List Lit))) (cells : List Cell) (heads : List ℕ) (set : Assigned) (level : ℕ) (at : Cursor) (turn : Cell) (vars : ℕ) (to : Lit) (c lits : List Lit) → vars ≡ set.vars → IsVisited clauses cells heads set level at turn → HasNumber (live clauses) at.number c → lits ≡ c → Contains lits to → to ≢ turn.other.lit → ¬ MakesFalse (values_of set.entries) to → IsNewWatch vars (cell_of cells at.number) to
visited-new clauses cells heads set level at turn vars to c lits same_vars v has same among differs unfalse =
    let exists = CanPropagate-exists clauses set level at.number c to v.can.fits has (subst (λ ls. Contains ls to) same among) in
    record {
      exists = omega (arith, exists.1, same_vars);
      absent = λ watches. elim (turn-cases (cell_of cells at.number) turn to v.turns watches) [
        | inl first ↦ unfalse (subst (MakesFalse (values_of set.entries)) (sym v.here ∙ first)
            (value-false set.entries at.position v.can.fails.entry at.lit (CanPropagate-once clauses set level v.can.fits) v.can.fails.there v.can.fails.fails))
        | inr second ↦ differs (sym second)
      ];
    }

-- and replaces the literal that became false
pub visited-replaced : (clauses : List (Option (List Lit))) (cells : List Cell) (heads : List ℕ) (set : Assigned) (level : ℕ) (at : Cursor) (turn : Cell) (to : Lit) (c lits : List Lit) → IsVisited clauses cells heads set level at turn → HasNumber (live clauses) at.number c → lits ≡ c → Contains lits to → to ≢ turn.other.lit → ¬ MakesFalse (values_of set.entries) to → IsReplaced set.entries (live clauses) cells at.number at.lit turn.other.lit to
visited-replaced clauses cells heads set level at turn to c lits v has same among differs unfalse = record {
  clause = c;
  has_number = has;
  among = subst (λ ls. Contains ls to) same among;
  differs = differs;
  unfalse = unfalse;
  keeps = λ other turns is. visited-same clauses cells heads set level at turn other v turns is;
  watches = turn-watches (cell_of cells at.number) turn at.lit v.turns v.here;
}

-- if all others are false, the other watched literal is the last one
pub visited-left : (clauses : List (Option (List Lit))) (cells : List Cell) (heads : List ℕ) (set : Assigned) (level : ℕ) (at : Cursor) (turn : Cell) (c lits : List Lit) → IsVisited clauses cells heads set level at turn → HasNumber (live clauses) at.number c → lits ≡ c → OthersFalse (values_of set.entries) lits turn.other.lit → IsLastLeft clauses set.entries at.number turn.other.lit
visited-left clauses cells heads set level at turn c lits v has same others = record {
  clause = c;
  has_number = has;
  among = visited-other clauses cells heads set level at turn c v has;
  others = subst (λ ls. OthersFalse (values_of set.entries) ls turn.other.lit) same others;
}

-- if the other watched literal is true, the clause stays
pub visited-stays : (clauses : List (Option (List Lit))) (cells : List Cell) (heads : List ℕ) (set : Assigned) (level : ℕ) (at : Cursor) (turn : Cell) → IsVisited clauses cells heads set level at turn → values_of set.entries turn.other.lit.var ≡ Some turn.other.lit.positive → IsVisit cells cells heads heads set.entries level at (Stays turn.one.link)
visited-stays clauses cells heads set level at turn v holds = record {
  stays = λ next same. (
    refl,
    refl,
    subst (HasLink (cell_of cells at.number) at.lit) (let link : turn.one.link ≡ next = cc in link) (link-turn (cell_of cells at.number) turn at.lit v.turns v.here),
    λ other turns is.
        subst (λ (k : Lit). IsTrueBy set.entries level k) (sym (visited-same clauses cells heads set level at turn other v turns is))
        (true-by set.entries level turn.other.lit (CanPropagate-top clauses set level v.can.fits) holds),
  );
  moves = λ next same. cc;
  fails = λ same. cc;
}
