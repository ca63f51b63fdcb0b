-- Why a chain derives no clause.
use Rattle.std.specs.Prelude.{◌≡◌, ℕ, ◌+◌, ◌⊎◌, Some, List, take, slice_get}
use Rattle.clause_core.specs.declared.literal.Lit.{Lit}
use Rattle.clause_core.specs.Numbering.{Numbering, HasNumber}
use Rattle.clause_core.specs.Resolvent.{CanResolve}
use Rattle.refutation_log.specs.declared.refutation.Link.{Link}
use Rattle.refutation_log.specs.declared.refutation.Chain.{Chain}
use Rattle.refutation_log.specs.Resolution.{Folds}

-- no clause has the number
abbrev pub HasNoClause : Numbering → ℕ → Type 0
HasNoClause numbering number = (clause : List Lit) → ¬ HasNumber numbering number clause

-- the links before the index fold over the chain's first clause, and this link comes next
pub record ComesTo
    (numbering : Numbering) (chain : Chain) (index : ℕ)
    (link : Link) (clause : List Lit) : Type 0 where
  pub start : List Lit
  pub named : HasNumber numbering chain.first start
  pub folds : Folds numbering start (take index chain.links) clause
  pub next : slice_get chain.links index ≡ Some link

-- the chain comes to a link whose number no clause has
pub record LacksLinkClause (numbering : Numbering) (chain : Chain) : Type 0 where
  pub index : ℕ
  pub link : Link
  pub clause : List Lit
  pub comes : ComesTo numbering chain index link clause
  pub lacks : HasNoClause numbering link.clause

-- no clause has the number of the chain's first clause, or that of a link to which it comes
abbrev pub LacksClause : Numbering → Chain → Type 0
LacksClause numbering chain = HasNoClause numbering chain.first ⊎ LacksLinkClause numbering chain

-- the clause and that of the link lack the pivot or its negation
pub record CannotResolve
    (numbering : Numbering) (clause : List Lit) (link : Link) : Type 0 where
  pub other : List Lit
  pub named : HasNumber numbering link.clause other
  pub lacks : ¬ CanResolve clause link.pivot other

-- the chain comes to the link of this number, from 1, and has no resolvent there
pub record LacksPivot (number : ℕ) (numbering : Numbering) (chain : Chain) : Type 0 where
  pub index : ℕ
  pub counted : number ≡ index + 1
  pub link : Link
  pub clause : List Lit
  pub comes : ComesTo numbering chain index link clause
  pub lacks : CannotResolve numbering clause link
