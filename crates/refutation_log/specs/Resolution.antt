-- What a log derives from a formula, and when it is accepted and when it is new.
use Rattle.std.specs.Prelude.{◌≡◌, ◌≢◌, ℕ, List, [], ◌∷◌, ◌++◌, Some, All, Contains}
use Rattle.clause_core.specs.declared.literal.Lit.{Lit}
use Rattle.clause_core.specs.declared.formula.Formula.{Formula}
use Rattle.clause_core.specs.Numbering.{Numbering, numbered, HasNumber, live}
use Rattle.clause_core.specs.Resolvent.{IsResolvent}
use Rattle.clause_core.specs.Propagation.{IsLacked}
use Rattle.refutation_log.specs.declared.refutation.Link.{Link}
use Rattle.refutation_log.specs.declared.refutation.Chain.{Chain}
use Rattle.refutation_log.specs.declared.refutation.Log.{Log}
use Rattle.refutation_log.specs.declared.refutation.Entry.{Entry}
use Rattle.refutation_log.specs.declared.refutation.Entry.TheVariants.{Step, Drop}
use Rattle.refutation_log.specs.Entries.{entries}
use Rattle.refutation_log.specs.Ledger.{Ledger, all_live, without_all, AllRemoved, IsLive, IsContaining}

-- a clause resolves with that of the link, and something holds of the resolvent
pub record Resolved
    (numbering : Numbering) (clause : List Lit) (link : Link)
    (Then : List Lit → Type 0) : Type 0 where
  pub other : List Lit
  pub named : HasNumber numbering link.clause other
  pub resolvent : List Lit
  pub resolves : IsResolvent clause link.pivot other resolvent
  pub continues : Then resolvent

-- the links fold over the first clause: each resolves what came before it
abbrev pub Folds : Numbering → List Lit → List Link → List Lit → Type 0
Folds numbering clause [] result = clause ≡ result
Folds numbering clause (link ∷ links) result =
    Resolved numbering clause link (λ resolvent. Folds numbering resolvent links result)

-- the chain's clause is the fold of its links over its first clause
pub record Derives (numbering : Numbering) (chain : Chain) (clause : List Lit) : Type 0 where
  pub start : List Lit
  pub named : HasNumber numbering chain.first start
  pub folds : Folds numbering start chain.links clause

-- each step derives its clause from the clauses and those of the steps before it
abbrev pub DerivesAll : List (List Lit) → List Chain → List (List Lit) → Type 0
DerivesAll clauses [] derived = derived ≡ []
DerivesAll clauses (chain ∷ steps) [] = ⊥
DerivesAll clauses (chain ∷ steps) (clause ∷ derived) =
    Derives (numbered clauses) chain clause × DerivesAll (clauses ++ clause ∷ []) steps derived

-- from the first ledger to the last: a step derives from live clauses, a removal names them
abbrev pub Runs :
    (Ledger → ℕ → Type 0) → Ledger → List Entry → List (List Lit) → Ledger → Type 0
Runs MayEnd ledger [] derived last = (derived ≡ []) × (last ≡ ledger)
Runs MayEnd ledger (Step chain ∷ more) [] last = ⊥
Runs MayEnd ledger (Step chain ∷ more) (clause ∷ derived) last =
    Derives (live ledger) chain clause ×
    Runs MayEnd (ledger ++ Some clause ∷ []) more derived last
Runs MayEnd ledger (Drop numbers ∷ more) derived last =
    AllRemoved MayEnd ledger numbers ×
    Runs MayEnd (without_all ledger numbers) more derived last

-- from the clauses on, all of them live, the log derives these, and removes what may be removed
pub record ResolvesBy
    (MayEnd : Ledger → ℕ → Type 0) (clauses : List (List Lit))
    (log : Log) (derived : List (List Lit)) : Type 0 where
  pub ledger : Ledger
  pub runs : Runs MayEnd (all_live clauses) (entries log) derived ledger

-- every step has a clause, and every removal names only live clauses
abbrev pub LogResolves : Formula → Log → List (List Lit) → Type 0
LogResolves f log derived = ResolvesBy IsLive f.clauses log derived

-- the log resolves, and a clause of the formula or of a step is empty
pub record Accepts (f : Formula) (log : Log) : Type 0 where
  pub derived : List (List Lit)
  pub resolves : LogResolves f log derived
  pub empty : Contains (f.clauses ++ derived) []

-- unit propagation over the earlier clauses lacks the clause, or it is the first empty one
pub record IsNewClause (earlier : List (List Lit)) (clause : List Lit) : Type 0 where
  pub lacked : clause ≢ [] → IsLacked earlier clause
  pub first_empty : clause ≡ [] → ¬ Contains earlier []

-- each clause is new after the earlier ones and those of the list before it
abbrev pub AreNewClauses : List (List Lit) → List (List Lit) → Type 0
AreNewClauses earlier [] = Unit {0}
AreNewClauses earlier (clause ∷ derived) =
    IsNewClause earlier clause × AreNewClauses (earlier ++ clause ∷ []) derived

-- the log resolves, each step has a link, and each derived clause is new against all earlier ones
pub record IsNew (f : Formula) (log : Log) : Type 0 where
  pub derived : List (List Lit)
  pub resolves : ResolvesBy IsContaining f.clauses log derived
  pub linked : All (λ chain. chain.links ≢ []) log.steps
  pub new : AreNewClauses f.clauses derived
