-- What the marks say of a chain whose links are folded one by one.
use Rattle.std.proofs.Common.{◌≡◌, ℕ, ◌+◌, ◌<◌, ◌↔◌, inl, inr, List, ◌++◌, length, get_or, take, refl, Contains, filter, take_all, ◌≤◌}
use Rattle.std.proofs.lemmas.List.Elements.{Contains-append_left, Contains-append_right, Contains-append_cases}
use Rattle.list_base.proofs.Filtered.{kept_member, filtered_member}
use Rattle.clause_core.specs.declared.literal.Lit.{Lit}
use Rattle.clause_core.specs.Clause.{IsAscending, IsClauseOf, ListsHaveClauses, ClausesAreSets}
use Rattle.clause_core.specs.Literal.{negated}
use Rattle.clause_core.specs.Numbering.{Numbering, HasNumber}
use Rattle.clause_core.specs.Resolvent.{Keeps, CanResolve, IsResolvent}
use Rattle.refutation_log.specs.declared.refutation.Link.{Link}
use Rattle.refutation_log.specs.declared.refutation.Chain.{Chain}
use Rattle.refutation_log.specs.Resolution.{Resolved, Folds, Derives}
use Rattle.log_checker.specs.inner.Marks.{MarkCells, IsMarked, Marks, ResolvesMarks}
use Rattle.log_checker.proofs.Folding.{folds_next}
use Rattle.log_checker.proofs.MarkLemmas.{differs, differs-true, differs-holds}

-- the literals of a clause but one
Keeps-filter : (clause : List Lit) (out l : Lit) → Contains (filter (differs out) clause) l ↔ Keeps clause out l
Keeps-filter clause out l = (
  λ among. let found = filtered_member (differs out) clause l among in (found.0, differs-holds out l found.1),
  λ keeps. kept_member (differs out) clause l (differs-true out l keeps.1) keeps.0,
)

-- two clauses that can be resolved have a resolvent
resolvent_of : ListsHaveClauses → (c d : List Lit) (pivot : Lit) → CanResolve c pivot d → (r : List Lit) × IsResolvent c pivot d r
resolvent_of clauses c d pivot can = (
  made.0,
  record {
    can = can;
    union = record {
      members = λ l. (
        λ among. elim (Contains-append_cases left right l ((made.1.exactly l).0 among)) [
          | inl first ↦ inl ((Keeps-filter c pivot l).0 first)
          | inr second ↦ inr ((Keeps-filter d (negated pivot) l).0 second)
        ],
        λ either. (made.1.exactly l).1 (elim either [
          | inl first ↦ Contains-append_left left right l ((Keeps-filter c pivot l).1 first)
          | inr second ↦ Contains-append_right left right l ((Keeps-filter d (negated pivot) l).1 second)
        ]),
      );
      ascending = made.1.ascending;
    };
  },
)
  where
    left : List Lit
    left = filter (differs pivot) c

    right : List Lit
    right = filter (differs (negated pivot)) d

    made : (clause : List Lit) × IsClauseOf (left ++ right) clause
    made = clauses (left ++ right)

-- the marks of the resolvent are those that the link leaves
pub Resolved-marks : ListsHaveClauses → (numbering : Numbering) (clause other : List Lit) (link : Link) (old new : MarkCells) → Marks old clause → HasNumber numbering link.clause other → IsMarked old link.pivot → Contains other (negated link.pivot) → ResolvesMarks old link.pivot other new → Resolved numbering clause link (Marks new)
Resolved-marks clauses numbering clause other link old new marks named held negation resolves = record {
  other = other;
  named = named;
  resolvent = made.0;
  resolves = made.1;
  continues = record {
    exactly = λ l. (
      λ marked. (made.1.union.members l).1 (elim ((resolves.members l).0 marked) [ inl kept ↦ inl ((marks.exactly l).0 kept.0, kept.1) | inr keeps ↦ inr keeps ]),
      λ among. (resolves.members l).1 (elim ((made.1.union.members l).0 among) [ inl keeps ↦ inl ((marks.exactly l).1 keeps.0, keeps.1) | inr keeps ↦ inr keeps ]),
    );
  };
}
  where
    made : (r : List Lit) × IsResolvent clause link.pivot other r
    made = resolvent_of clauses clause other link.pivot (record { pivot_in = (marks.exactly link.pivot).0 held; negation_in = negation })

-- the links before the index fold to a clause, and its literals are marked
pub record IsFolded (numbering : Numbering) (chain : Chain) (index : ℕ) (table : MarkCells) : Type 0 where
  pub start : List Lit
  pub named : HasNumber numbering chain.first start
  pub clause : List Lit
  pub folds : Folds numbering start (take index chain.links) clause
  pub ascending : IsAscending clause
  pub marks : Marks table clause

-- one link more
pub IsFolded-next : (numbering : Numbering) (chain : Chain) (index : ℕ) (d : Link) (old new : MarkCells) → index < length chain.links → (folded : IsFolded numbering chain index old) → Resolved numbering folded.clause (get_or chain.links index d) (Marks new) → IsFolded numbering chain (index + 1) new
IsFolded-next numbering chain index d old new within folded resolved = record {
  start = folded.start;
  named = folded.named;
  clause = resolved.resolvent;
  folds = folds_next numbering folded.start chain.links index d folded.clause resolved.resolvent within folded.folds
      (record { other = resolved.other; named = resolved.named; resolvent = resolved.resolvent; resolves = resolved.resolves; continues = refl });
  ascending = resolved.resolves.union.ascending;
  marks = resolved.continues;
}

-- all links were folded, and a clause has the marked literals
pub Derives-folded : ClausesAreSets → (numbering : Numbering) (chain : Chain) (clause : List Lit) (index : ℕ) (table : MarkCells) → length chain.links ≤ index → IsFolded numbering chain index table → IsAscending clause → Marks table clause → Derives numbering chain clause
Derives-folded sets numbering chain clause index table past folded ascending marks =
    let same : folded.clause ≡ clause = sets folded.clause clause folded.ascending ascending
    (λ l. ((λ among. (marks.exactly l).0 ((folded.marks.exactly l).1 among)), (λ among. (folded.marks.exactly l).0 ((marks.exactly l).1 among)))) in
    record {
      start = folded.start;
      named = folded.named;
      folds = rw (take_all index chain.links past, same) at folded.folds;
    }
