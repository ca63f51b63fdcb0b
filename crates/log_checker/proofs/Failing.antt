-- A chain that stops at a link derives nothing, and stops at that link alone.
use Rattle.std.proofs.Common.{◌≡◌, ℕ, zero, suc, ◌+◌, ◌<◌, inl, inr, Some, List, [], ◌∷◌, length, take, slice_get, refl, arith, take_all}
use Rattle.std.proofs.lemmas.Bool.{cases_order}
use Rattle.clause_core.specs.declared.literal.Lit.{Lit}
use Rattle.refutation_log.specs.declared.refutation.Link.{Link}
use Rattle.refutation_log.specs.declared.refutation.Chain.{Chain}
use Rattle.clause_core.specs.Numbering.{Numbering, HasNumber}
use Rattle.clause_core.specs.Resolvent.{ResolventsAgree}
use Rattle.refutation_log.specs.Resolution.{Resolved, Folds, Derives}
use Rattle.log_checker.specs.ChainFailure.{ComesTo, LacksLinkClause, LacksClause, LacksPivot}
use Rattle.log_checker.proofs.Folding.{names_one, folds_one}

-- the links before the index fold to a clause that resolves with that of the link there
pub record Passes (numbering : Numbering) (start : List Lit) (links : List Link) (index : ℕ) (link : Link) : Type 0 where
  pub clause : List Lit
  pub folds : Folds numbering start (take index links) clause
  pub resolved : Resolved numbering clause link (λ _. Unit {0})

-- what folds over more links passes each of them
folds_pass : (numbering : Numbering) (start : List Lit) (links : List Link) (r : List Lit) (n index : ℕ) (link : Link) → index < n → slice_get links index ≡ Some link → Folds numbering start (take n links) r → Passes numbering start links index link
folds_pass numbering start [] r n index link before next folds = absurd cc
folds_pass numbering start (first ∷ links) r zero index link before next folds = absurd (omega arith)
folds_pass numbering start (first ∷ links) r (suc n) zero link before next folds =
    let same : first ≡ link = cc in
    let resolved : Resolved numbering start first (λ _. Unit {0}) = record { other = folds.other; named = folds.named; resolvent = folds.resolvent; resolves = folds.resolves; continues = tt } in
    record { clause = start; folds = refl; resolved = rw same at resolved }
folds_pass numbering start (first ∷ links) r (suc n) (suc index) link before next folds =
    let rest = folds_pass numbering folds.resolvent links r n index link (omega arith) next folds.continues in
    record {
      clause = rest.clause;
      folds = record { other = folds.other; named = folds.named; resolvent = folds.resolvent; resolves = folds.resolves; continues = rest.folds };
      resolved = rest.resolved;
    }

-- the chain comes to a link with which its clause does not resolve
pub record Stuck (numbering : Numbering) (chain : Chain) : Type 0 where
  pub index : ℕ
  pub link : Link
  pub clause : List Lit
  pub comes : ComesTo numbering chain index link clause
  pub stuck : ¬ Resolved numbering clause link (λ _. Unit {0})

abbrev pub stuck_from_clause : (numbering : Numbering) (chain : Chain) → LacksLinkClause numbering chain → Stuck numbering chain
stuck_from_clause numbering chain lack =
    record {
      index = lack.index;
      link = lack.link;
      clause = lack.clause;
      comes = lack.comes;
      stuck = λ resolved. lack.lacks resolved.other resolved.named;
    }

abbrev pub stuck_from_pivot : (number : ℕ) (numbering : Numbering) (chain : Chain) → LacksPivot number numbering chain → Stuck numbering chain
stuck_from_pivot number numbering chain lack =
    record {
      index = lack.index;
      link = lack.link;
      clause = lack.clause;
      comes = lack.comes;
      stuck = λ resolved.
          let other = names_one numbering lack.link.clause resolved.other lack.lacks.other resolved.named lack.lacks.named in
          lack.lacks.lacks (rw other at resolved.resolves.can);
    }

-- nothing folds over a link at which the chain is stuck
stuck_blocks : ResolventsAgree → (numbering : Numbering) (chain : Chain) (at : Stuck numbering chain) (start r : List Lit) (n : ℕ) → HasNumber numbering chain.first start → at.index < n → Folds numbering start (take n chain.links) r → ⊥
stuck_blocks agree numbering chain at start r n named before folds =
    let one = names_one numbering chain.first start at.comes.start named at.comes.named in
    let pass = folds_pass numbering at.comes.start chain.links r n at.index at.link before at.comes.next (rw one at folds) in
    let same = folds_one agree numbering at.comes.start (take at.index chain.links) pass.clause at.clause pass.folds at.comes.folds in
    at.stuck (rw same at pass.resolved)

pub stuck_derives_none : ResolventsAgree → (numbering : Numbering) (chain : Chain) (clause : List Lit) → Stuck numbering chain → ¬ Derives numbering chain clause
stuck_derives_none agree numbering chain clause at derives =
    let n = at.index + length chain.links + 1 in
    stuck_blocks agree numbering chain at derives.start clause n derives.named (omega arith) (rw (take_all n chain.links (omega arith)) derives.folds)

pub stuck_once : ResolventsAgree → (numbering : Numbering) (chain : Chain) (at other : Stuck numbering chain) → at.index ≡ other.index
stuck_once agree numbering chain at other =
    elim (cases_order at.index other.index) [
      | inl same ↦ same
      | inr apart ↦ absurd (elim apart [
        | inl before ↦ stuck_blocks agree numbering chain at other.comes.start other.clause other.index other.comes.named before other.comes.folds
        | inr after ↦ stuck_blocks agree numbering chain other at.comes.start at.clause at.index at.comes.named after at.comes.folds
      ])
    ]

pub clause_lacking : ResolventsAgree → (numbering : Numbering) (chain : Chain) (clause : List Lit) → LacksClause numbering chain → ¬ Derives numbering chain clause
clause_lacking agree numbering chain clause (inl none) derives = none derives.start derives.named
clause_lacking agree numbering chain clause (inr lack) derives =
    stuck_derives_none agree numbering chain clause (stuck_from_clause numbering chain lack) derives

pub pivot_lacking : ResolventsAgree → (number : ℕ) (numbering : Numbering) (chain : Chain) (clause : List Lit) → LacksPivot number numbering chain → ¬ Derives numbering chain clause
pivot_lacking agree number numbering chain clause lack derives =
    stuck_derives_none agree numbering chain clause (stuck_from_pivot number numbering chain lack) derives

-- a chain stops at one pivot
pub pivot_once : ResolventsAgree → (m n : ℕ) (numbering : Numbering) (chain : Chain) → LacksPivot m numbering chain → LacksPivot n numbering chain → m ≡ n
pivot_once agree m n numbering chain first second =
    let same : first.index ≡ second.index = stuck_once agree numbering chain (stuck_from_pivot m numbering chain first) (stuck_from_pivot n numbering chain second) in
    omega (arith, first.counted, second.counted, same)

-- a chain lacks a clause or a pivot, not both
pub clause_or_pivot : ResolventsAgree → (n : ℕ) (numbering : Numbering) (chain : Chain) → LacksClause numbering chain → ¬ LacksPivot n numbering chain
clause_or_pivot agree n numbering chain (inl none) second = none second.comes.start second.comes.named
clause_or_pivot agree n numbering chain (inr first) second =
    let same : first.index ≡ second.index = stuck_once agree numbering chain (stuck_from_clause numbering chain first) (stuck_from_pivot n numbering chain second) in
    let link : second.link ≡ first.link = cc (same, first.comes.next, second.comes.next) in
    first.lacks second.lacks.other (rw link at second.lacks.named)
