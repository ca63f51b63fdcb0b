-- Proofs in LRAT form, and the check of them by reversed unit propagation (Cruz-Filipe, Heule, Hunt,
-- Kaufmann and Schneider-Kamp 2017, Efficient Certified RAT Verification).
use Rattle.std.specs.Prelude.{◌≡◌, ◌≢◌, ℕ, ◌+◌, ◌⊎◌, List, [], ◌∷◌, ◌++◌, length, map, Contains, Some}
use Rattle.clause_core.specs.declared.literal.Lit.{Lit}
use Rattle.clause_core.specs.Clause.{IsUnsatisfiable}
use Rattle.clause_core.specs.Literal.{negated}
use Rattle.clause_core.specs.Numbering.{Numbering, HasNumber, live}
use Rattle.refutation_log.specs.Ledger.{Ledger, all_live, without_all, AllRemoved, IsLive}

-- a line adds a clause, with hints, under an identifier of its own; or it deletes clauses, and has
-- the identifier of the line before it
pub data ProofLine : Type 0 where
  Add : (id : ℕ) (clause : List Lit) (hints : List ℕ) → ProofLine
  Delete : (id : ℕ) (numbers : List ℕ) → ProofLine

-- each literal of the clause is false, where these are true
abbrev pub AreFalse : List Lit → List Lit → Type 0
AreFalse true clause = (l : Lit) → Contains clause l → Contains true (negated l)

-- the literal is the only one of the clause that is not false, and it is open
pub record IsUnit (true clause : List Lit) (literal : Lit) : Type 0 where
  pub among : Contains clause literal
  pub not_true : ¬ Contains true literal
  pub not_false : ¬ Contains true (negated literal)
  pub others : (l : Lit) → Contains clause l → l ≢ literal → Contains true (negated l)

-- where these literals are true, each hint in turn makes its only open literal true, and the last
-- hint is false
abbrev pub AreRefuted : Numbering → List Lit → List ℕ → Type 0
AreRefuted numbering true [] = ⊥
AreRefuted numbering true (hint ∷ hints) =
    (clause : List Lit) × HasNumber numbering hint clause ×
    (((hints ≡ []) × AreFalse true clause) ⊎
    ((l : Lit) × IsUnit true clause l × AreRefuted numbering (true ++ l ∷ []) hints))

-- the negation of the clause is refuted
abbrev pub HasHints : Numbering → List Lit → List ℕ → Type 0
HasHints numbering clause hints = AreRefuted numbering (map negated clause) hints

-- from the ledger on, each line adds a clause that its hints prove, or deletes live ones
abbrev pub Verifies : Ledger → List ProofLine → Type 0
Verifies ledger [] = Unit {0}
Verifies ledger (Add id clause hints ∷ lines) =
    (id ≡ length ledger + 1) × HasHints (live ledger) clause hints ×
    Verifies (ledger ++ Some clause ∷ []) lines
Verifies ledger (Delete id numbers ∷ lines) =
    (id ≡ length ledger) × AllRemoved IsLive ledger numbers ×
    Verifies (without_all ledger numbers) lines

-- the line adds the empty clause
abbrev pub AddsEmpty : ProofLine → Type 0
AddsEmpty (Add id clause hints) = clause ≡ []
AddsEmpty (Delete id numbers) = ⊥

-- the lines refute the clauses, which have the identifiers from 1 on
pub record IsRefutation (clauses : List (List Lit)) (lines : List ProofLine) : Type 0 where
  pub verifies : Verifies (all_live clauses) lines
  pub adding : ProofLine
  pub among : Contains lines adding
  pub empty : AddsEmpty adding

-- no valuation satisfies clauses that lines refute
abbrev pub RefutedIsUnsatisfiable : Type 0
RefutedIsUnsatisfiable =
    (clauses : List (List Lit)) (lines : List ProofLine) → IsRefutation clauses lines →
    IsUnsatisfiable clauses
