-- The steps of the pass that takes the doubles out of a sorted list.
use Rattle.std.proofs.Common.{◌≡◌, ◌↔◌, inl, inr, ℕ, ◌+◌, ◌-◌, ◌<◌, ◌≤◌, List, [], ◌∷◌, ◌++◌, length, get_or, take, drop, Contains, sym, subst, ap, ◌∙◌, arith, length-take, get_or-take, take_all}
use Rattle.std.proofs.lemmas.List.{take_more}
use Rattle.std.proofs.Math.Seq.{take-append_seam}
use Rattle.std.specs.List.{AllAdjacentBelow}
use Rattle.std.specs.List.Sorted.{IsNonDecreasingBy}
use Rattle.std.proofs.lemmas.List.Sorted.{IsNonDecreasingBy-from_all_adjacent}
use Rattle.std.proofs.lemmas.Bool.{cases_eq, cases_lt}
use Rattle.std.proofs.lemmas.List.Elements.{Contains-append_left, Contains-push_cases, Contains-get_or, at_from_Contains}
use Rattle.clause_core.specs.declared.literal.Lit.{Lit}
use Rattle.clause_core.specs.Literal.{rank}
use Rattle.clause_core.specs.Clause.{IsAscending, HasExactly}
use Rattle.clause_core.specs.inner.Insertion.{Inserts}
use Rattle.clause_core.proofs.LiteralLemmas.{same_rank}
use Rattle.clause_core.proofs.ClauseLemmas.{ascending_push}
use Rattle.list_base.proofs.Members.{end_same}

-- a list whose items are all replaced is the new list
pub all_replaced : (old new : List Lit) → length old ≡ length new → take (length old) (new ++ drop (length new) old) ≡ new
all_replaced old new same = rw same (take-append_seam new (drop (length new) old))

-- literals of which each comes before the next ascend
pub ascending_steps : (xs : List Lit) (i : ℕ) → length xs ≤ i → AllAdjacentBelow (λ (x y : Lit). rank x < rank y) xs i → IsAscending xs
ascending_steps xs i all steps =
    let rising = IsNonDecreasingBy-from_all_adjacent rank xs (λ k d below. let step = steps k d (omega (arith, below, all)) in omega (arith, step)) in
    record {
      ordered = λ a b d before within.
          let next : (b - 1) + 1 ≡ b = omega (arith, before) in
          let step = steps (b - 1) d (omega (arith, before, within, all)) in
          let last : rank (get_or xs (b - 1) d) < rank (get_or xs b d) = subst (λ (k : ℕ). rank (get_or xs (b - 1) d) < rank (get_or xs k d)) next step in
          let first = rising a (b - 1) d (omega (arith, before)) (omega (arith, within)) in
          omega (arith, first, last);
    }

-- `kept` has the first `i` literals of the list, each once
pub record IsDistinct (sorted : List Lit) (i : ℕ) (kept : List Lit) : Type 0 where
  pub ascending : IsAscending kept
  pub members : HasExactly kept (take i sorted)

-- where no literal is above `lit`, the last one alone can have its rank
pub last_rank : (kept : List Lit) (lit e : Lit) → 1 ≤ length kept → IsAscending kept → ((l : Lit) → Contains kept l → rank l ≤ rank lit) → (rank (get_or kept (length kept - 1) e) ≡ rank lit) ↔ Contains kept lit
last_rank kept lit e some up none_above =
    let last = length kept - 1 in
    let among : Contains kept (get_or kept last e) = Contains-get_or kept last e (omega arith) in
    let most : rank (get_or kept last e) ≤ rank lit = none_above (get_or kept last e) among in (
      λ level. rw (same_rank (get_or kept last e) lit level) at among,
      λ held.
          let at = at_from_Contains kept lit held in
          let level : rank (get_or kept at.0 e) ≡ rank lit = ap rank (at.2 e) in
          elim (cases_lt at.0 last) [
            | inl before ↦ omega (arith, up.ordered at.0 last e before (omega arith))
            | inr end ↦ let place : at.0 ≡ last = omega (arith, at.1) in rw place at level
          ],
    )

pub adds_double : (kept : List Lit) (lit : Lit) → IsAscending kept → Contains kept lit → Inserts kept lit kept
adds_double kept lit up double =
    record {
      ascending = up;
      members = λ l. (inl, λ either. elim either [ inl old ↦ old | inr is_lit ↦ rw is_lit at double ]);
    }

pub adds_last : (kept : List Lit) (lit : Lit) → IsAscending kept → ((l : Lit) → Contains kept l → rank l ≤ rank lit) → ¬ Contains kept lit → Inserts kept lit (kept ++ lit ∷ [])
adds_last kept lit up none_above new =
    record {
      ascending = ascending_push kept lit up (λ l among. elim (cases_eq (rank l) (rank lit)) [
        | inl level ↦ absurd (new (rw (same_rank l lit level) at among))
        | inr differ ↦ let most = none_above l among in omega arith
      ]);
      members = λ l. (
        Contains-push_cases kept lit l,
        λ either. elim either [
          | inl old ↦ Contains-append_left kept (lit ∷ []) l old
          | inr is_lit ↦ end_same kept lit l is_lit
        ],
      );
    }

-- what was passed is not above what comes next
pub passed_below : (sorted : List Lit) (i : ℕ) (kept : List Lit) (e : Lit) → i < length sorted → IsNonDecreasingBy rank sorted → IsDistinct sorted i kept → (l : Lit) → Contains kept l → rank l ≤ rank (get_or sorted i e)
passed_below sorted i kept e within rising passed l among =
    let at = at_from_Contains (take i sorted) l ((passed.members l).0 among) in
    let before : at.0 < i = omega (arith, at.1, length-take i sorted) in
    let is : get_or sorted at.0 e ≡ l = sym (get_or-take i sorted at.0 e before) ∙ at.2 e in
    rw is at (rising at.0 i e (omega arith) within)

pub passes_next : (sorted : List Lit) (i : ℕ) (kept new : List Lit) (e : Lit) → i < length sorted → Inserts kept (get_or sorted i e) new → IsDistinct sorted i kept → IsDistinct sorted (i + 1) new
passes_next sorted i kept new e within adds passed =
    let next = get_or sorted i e in
    record {
      ascending = adds.ascending;
      members = λ l. rw (take_more sorted i e within) ((
        λ among. elim ((adds.members l).0 among) [
          | inl old ↦ Contains-append_left (take i sorted) (next ∷ []) l ((passed.members l).0 old)
          | inr is_next ↦ end_same (take i sorted) next l is_next
        ],
        λ among. (adds.members l).1 (elim (Contains-push_cases (take i sorted) next l among) [
          | inl old ↦ inl ((passed.members l).1 old)
          | inr is_next ↦ inr is_next
        ]),
      ));
    }

pub passed_all : (sorted : List Lit) (i : ℕ) (kept : List Lit) → length sorted ≤ i → IsDistinct sorted i kept → HasExactly kept sorted
passed_all sorted i kept done passed = rw (take_all i sorted done) at passed.members
