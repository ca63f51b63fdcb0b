-- A chain is folded up to its last link, which gives the result.
use Rattle.std.proofs.Common.{List, [], ◌∷◌, ◌++◌, refl, subst}
use Rattle.clause_core.specs.declared.literal.Lit.{Lit}
use Rattle.clause_core.specs.Numbering.{Numbering, HasNumber}
use Rattle.clause_core.specs.Resolvent.{IsResolvent}
use Rattle.refutation_log.specs.declared.refutation.Link.{Link}
use Rattle.refutation_log.specs.Resolution.{Folds}

-- the links but the last one fold to a clause that resolves with that of the last one
pub record EndsWith (numbering : Numbering) (start : List Lit) (links : List Link) (link : Link) (result : List Lit) : Type 0 where
  pub before : List Lit
  pub folds : Folds numbering start links before
  pub other : List Lit
  pub named : HasNumber numbering link.clause other
  pub resolves : IsResolvent before link.pivot other result

pub ends_with : (numbering : Numbering) (start : List Lit) (links : List Link) (link : Link) (result : List Lit) → Folds numbering start (links ++ link ∷ []) result → EndsWith numbering start links link result
ends_with numbering start [] link result folds = record {
  before = start;
  folds = refl;
  other = folds.other;
  named = folds.named;
  resolves = subst (IsResolvent start link.pivot folds.other) folds.continues folds.resolves;
}
ends_with numbering start (first ∷ links) link result folds =
    let rest = ends_with numbering folds.resolvent links link result folds.continues in
    record {
      before = rest.before;
      folds = record { other = folds.other; named = folds.named; resolvent = folds.resolvent; resolves = folds.resolves; continues = rest.folds };
      other = rest.other;
      named = rest.named;
      resolves = rest.resolves;
    }
