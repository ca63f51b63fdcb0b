-- What the hints so far make true, from the last link of a chain back.
use Rattle.std.proofs.Common.{◌≢◌, ℕ, inl, inr, List, [], ◌∷◌, ◌++◌, map, Contains, refl, sym, ap, subst, ◌∙◌, append_assoc, arith}
use Rattle.std.proofs.lemmas.List.{get_or-map, length-map}
use Rattle.std.proofs.lemmas.List.Elements.{Contains-append_left}
use Rattle.std.specs.BTreeSet.{BTreeSet}
use Rattle.list_base.proofs.Members.{end_same}
use Rattle.clause_core.specs.declared.literal.Lit.{Lit}
use Rattle.clause_core.specs.Literal.{negated}
use Rattle.clause_core.specs.Numbering.{Numbering, HasNumber}
use Rattle.refutation_log.specs.declared.refutation.Link.{Link}
use Rattle.refutation_log.specs.Resolution.{Folds}
use Rattle.lrat_text.specs.Lrat.{AreFalse, AreRefuted, HasHints, IsUnit}
use Rattle.lrat_text.specs.inner.LitSet.{Holds}
use Rattle.lrat_text.proofs.ChainEnd.{EndsWith, ends_with}
use Rattle.lrat_text.proofs.Literals.{negated_twice, one_or_two}

-- the links that are left fold to a clause that is false, and hints that refute the rest complete
-- those so far
pub record IsSoFar (numbering : Numbering) (clause : List Lit) (first : ℕ) (left : List Link) (ranks : BTreeSet ℕ) (hints : List ℕ) : Type 0 where
  pub start : List Lit
  pub named : HasNumber numbering first start
  pub current : List Lit
  pub folds : Folds numbering start left current
  pub lits : List Lit
  pub holds : Holds ranks lits
  pub is_false : AreFalse lits current
  pub continues : (rest : List ℕ) → AreRefuted numbering lits rest → HasHints numbering clause (hints ++ rest)

-- the negation of each literal is among the negations
negations_have : (clause : List Lit) → AreFalse (map negated clause) clause
negations_have clause l among = (among.0, omega (arith, length-map clause negated, among.1), get_or-map negated clause among.0 l (negated l) among.1 ∙ ap negated among.2)

-- at the start all links are left
pub nothing_yet : (numbering : Numbering) (clause : List Lit) (first : ℕ) (links : List Link) (ranks : BTreeSet ℕ) → (start : List Lit) → HasNumber numbering first start → Folds numbering start links clause → Holds ranks (map negated clause) → IsSoFar numbering clause first links ranks []
nothing_yet numbering clause first links ranks start named folds holds = record {
  start = start;
  named = named;
  current = clause;
  folds = folds;
  lits = map negated clause;
  holds = holds;
  is_false = negations_have clause;
  continues = λ rest refuted. refuted;
}

-- of the last link's clause all literals but the pivot's negation are false
others_false : {numbering : Numbering} {start current : List Lit} {links : List Link} {link : Link} (lits : List Lit) (end : EndsWith numbering start links link current) → AreFalse lits current → (l : Lit) → Contains end.other l → l ≢ negated link.pivot → Contains lits (negated l)
others_false lits end is_false l among differs = is_false l ((end.resolves.union.members l).1 (inr (among, differs)))

-- of the clause before it all but the pivot are false
before_false : {numbering : Numbering} {start current : List Lit} {links : List Link} {link : Link} (lits : List Lit) (end : EndsWith numbering start links link current) → AreFalse lits current → (l : Lit) → Contains end.before l → l ≢ link.pivot → Contains lits (negated l)
before_false lits end is_false l among differs = is_false l ((end.resolves.union.members l).1 (inl (among, differs)))

-- the pivot is true: the link's clause is false, and is the last hint
pub ends_early : (numbering : Numbering) (clause : List Lit) (first : ℕ) (left : List Link) (link : Link) (ranks : BTreeSet ℕ) (hints : List ℕ) (so : IsSoFar numbering clause first (left ++ link ∷ []) ranks hints) → Contains so.lits link.pivot → HasHints numbering clause (hints ++ link.clause ∷ [])
ends_early numbering clause first left link ranks hints so is_true =
    let end = ends_with numbering so.start left link so.current so.folds in
    let all : AreFalse so.lits end.other = λ l among. elim (one_or_two l (negated link.pivot)) [
      | inl same ↦ subst (λ (k : Lit). Contains so.lits k) (sym (negated_twice link.pivot) ∙ ap negated (sym same)) is_true
      | inr differs ↦ others_false so.lits end so.is_false l among differs
    ] in
    so.continues (link.clause ∷ []) (end.other, end.named, inl (refl, all))

-- the pivot's negation is true: the clause before the link is false
pub skips : (numbering : Numbering) (clause : List Lit) (first : ℕ) (left : List Link) (link : Link) (ranks : BTreeSet ℕ) (hints : List ℕ) (so : IsSoFar numbering clause first (left ++ link ∷ []) ranks hints) → Contains so.lits (negated link.pivot) → IsSoFar numbering clause first left ranks hints
skips numbering clause first left link ranks hints so is_true =
    let end = ends_with numbering so.start left link so.current so.folds in
    record {
      start = so.start;
      named = so.named;
      current = end.before;
      folds = end.folds;
      lits = so.lits;
      holds = so.holds;
      is_false = λ l among. elim (one_or_two l link.pivot) [
        | inl same ↦ subst (λ (k : Lit). Contains so.lits (negated k)) (sym same) is_true
        | inr differs ↦ before_false so.lits end so.is_false l among differs
      ];
      continues = so.continues;
    }

-- neither is true: the link's clause makes the pivot's negation true
pub makes_true : (numbering : Numbering) (clause : List Lit) (first : ℕ) (left : List Link) (link : Link) (ranks new : BTreeSet ℕ) (hints : List ℕ) (so : IsSoFar numbering clause first (left ++ link ∷ []) ranks hints) → ¬ Contains so.lits link.pivot → ¬ Contains so.lits (negated link.pivot) → Holds new (so.lits ++ negated link.pivot ∷ []) → IsSoFar numbering clause first left new (hints ++ link.clause ∷ [])
makes_true numbering clause first left link ranks new hints so not_pivot not_negation holds =
    let end = ends_with numbering so.start left link so.current so.folds in
    let unit : IsUnit so.lits end.other (negated link.pivot) = record {
      among = end.resolves.can.negation_in;
      not_true = not_negation;
      not_false = λ among. not_pivot (subst (λ (k : Lit). Contains so.lits k) (negated_twice link.pivot) among);
      others = others_false so.lits end so.is_false;
    } in
    record {
      start = so.start;
      named = so.named;
      current = end.before;
      folds = end.folds;
      lits = so.lits ++ negated link.pivot ∷ [];
      holds = holds;
      is_false = λ l among. elim (one_or_two l link.pivot) [
        | inl same ↦ end_same so.lits (negated link.pivot) (negated l) (ap negated (sym same))
        | inr differs ↦ Contains-append_left so.lits (negated link.pivot ∷ []) (negated l) (before_false so.lits end so.is_false l among differs)
      ];
      continues = λ rest refuted. rw (append_assoc hints (link.clause ∷ []) rest) (so.continues (link.clause ∷ rest) (end.other, end.named, inr (negated link.pivot, unit, refuted)));
    }

-- no link is left: the first clause is false, and is the last hint
pub ends_with_first : (numbering : Numbering) (clause : List Lit) (first : ℕ) (ranks : BTreeSet ℕ) (hints : List ℕ) → IsSoFar numbering clause first [] ranks hints → HasHints numbering clause (hints ++ first ∷ [])
ends_with_first numbering clause first ranks hints so =
    so.continues (first ∷ []) (so.start, so.named, inl (refl, subst (AreFalse so.lits) (sym so.folds) so.is_false))
