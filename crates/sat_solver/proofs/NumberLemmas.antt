-- The clauses of a list and their numbers.
use Rattle.std.proofs.Common.{◌≡◌, ◌≢◌, ℕ, ◌+◌, ◌-◌, ◌<◌, Some, None, List, [], ◌∷◌, ◌++◌, inl, inr, length, get_or, slice_get, sym, ap, refl, ◌∙◌, subst, arith, Contains, length-append}
use Rattle.std.specs.Prelude.{◌==◌}
use Rattle.std.proofs.lemmas.Bool.{cases_Bool, cases_lt, eqb-false, ne_eqb}
use Rattle.std.proofs.lemmas.List.{get_or_append_left, get_or_push}
use Rattle.std.proofs.lemmas.Option.{get_or_from_slice_get, slice_get_within, slice_get_past, slice_get-get_or}
use Rattle.std.proofs.lemmas.List.Elements.{Contains-get_or}
use Rattle.clause_core.specs.declared.literal.Lit.{Lit}
use Rattle.clause_core.specs.Numbering.{Numbering, numbered, HasNumber}
use Rattle.refutation_log.specs.declared.refutation.Link.{Link}
use Rattle.refutation_log.specs.declared.refutation.Chain.{Chain}
use Rattle.refutation_log.specs.Resolution.{Folds, Derives}

-- what a number of a list names
pub number_read : (clauses : List (List Lit)) (n : ℕ) (c : List Lit) → HasNumber (numbered clauses) n c → (0 < n) × (slice_get clauses (n - 1) ≡ Some c)
number_read clauses n c has = elim (cases_Bool (n == 0)) [
  | inl zero ↦ let none : None ≡ Some c = rw zero at has.there in cc
  | inr other ↦ let some : n ≢ 0 = eqb-false n 0 other in (omega (arith, some), rw other at has.there)
]

-- the number of a list's clause
pub number_made : (clauses : List (List Lit)) (k : ℕ) (c : List Lit) → slice_get clauses k ≡ Some c → HasNumber (numbered clauses) (k + 1) c
number_made clauses k c read = record {
  there = rw (ne_eqb (k + 1) 0 (λ same. omega (arith, same)))
      (subst (λ j. slice_get clauses j ≡ Some c) (let back : k ≡ k + 1 - 1 = omega arith in back) read);
}

-- a clause of a list has a number
pub number_at : (clauses : List (List Lit)) (k : ℕ) (d : List Lit) → k < length clauses → HasNumber (numbered clauses) (k + 1) (get_or clauses k d)
number_at clauses k d within = number_made clauses k (get_or clauses k d) (slice_get-get_or clauses k d within)

-- an index of a list keeps its item if more follow
pub slice_get-append : (clauses more : List (List Lit)) (k : ℕ) (d : List Lit) → k < length clauses → slice_get (clauses ++ more) k ≡ Some (get_or clauses k d)
slice_get-append clauses more k d within =
    slice_get-get_or (clauses ++ more) k d (omega (arith, within, length-append clauses more))
    ∙ ap Some (get_or_append_left clauses more d k within)

-- a number before the last keeps its clause
slice_get-before : (clauses : List (List Lit)) (clause : List Lit) (k : ℕ) → k < length clauses → slice_get (clauses ++ clause ∷ []) k ≡ slice_get clauses k
slice_get-before clauses clause k before =
    slice_get-get_or (clauses ++ clause ∷ []) k [] (omega (arith, before, length-append clauses (clause ∷ [])))
    ∙ ap Some (get_or_append_left clauses (clause ∷ []) [] k before) ∙ sym (slice_get-get_or clauses k [] before)

-- the other numbers keep what they name
pub others_keep : (clauses : List (List Lit)) (clause : List Lit) (n : ℕ) → n ≢ length clauses + 1 → numbered (clauses ++ clause ∷ []) n ≡ numbered clauses n
others_keep clauses clause n other = elim (cases_Bool (n == 0)) [
  | inl zero ↦ rw zero refl
  | inr some ↦ rw some (elim (cases_lt (n - 1) (length clauses)) [
    | inl before ↦ slice_get-before clauses clause (n - 1) before
    | inr after ↦
        let past : length clauses < n - 1 = omega (arith, after, other, eqb-false n 0 some) in
        slice_get_past (clauses ++ clause ∷ []) (n - 1) (omega (arith, past, length-append clauses (clause ∷ []))) ∙ sym (slice_get_past clauses (n - 1) (omega (arith, past)))
  ])
]

-- the last number names the clause that was added
pub added_last : (clauses : List (List Lit)) (clause : List Lit) → HasNumber (numbered (clauses ++ clause ∷ [])) (length clauses + 1) clause
added_last clauses clause = number_made (clauses ++ clause ∷ []) (length clauses) clause
    (slice_get-get_or (clauses ++ clause ∷ []) (length clauses) [] (omega (arith, length-append clauses (clause ∷ [])))
    ∙ ap Some (get_or_push clauses clause [] (length clauses) refl))

-- a clause that has a number in the list is in it
pub number_among : (clauses : List (List Lit)) (n : ℕ) (c : List Lit) → HasNumber (numbered clauses) n c → Contains clauses c
number_among clauses n c has =
    let read = number_read clauses n c has in
    subst (Contains clauses) (get_or_from_slice_get clauses (n - 1) c [] read.1) (Contains-get_or clauses (n - 1) [] (slice_get_within clauses (n - 1) c read.1))

-- links fold alike over numberings with the same clauses
folds-agree : (m n : Numbering) → ((k : ℕ) → m k ≡ n k) → (clause : List Lit) (links : List Link) (result : List Lit) → Folds m clause links result → Folds n clause links result
folds-agree m n agree clause [] result folds = folds
folds-agree m n agree clause (link ∷ links) result folds = record {
  other = folds.other;
  named = record { there = sym (agree link.clause) ∙ folds.named.there };
  resolvent = folds.resolvent;
  resolves = folds.resolves;
  continues = folds-agree m n agree folds.resolvent links result folds.continues;
}

-- a chain derives alike over numberings with the same clauses
pub derives-agree : (m n : Numbering) (chain : Chain) (clause : List Lit) → ((k : ℕ) → m k ≡ n k) → Derives m chain clause → Derives n chain clause
derives-agree m n chain clause agree derives = record {
  start = derives.start;
  named = record { there = sym (agree chain.first) ∙ derives.named.there };
  folds = folds-agree m n agree derives.start chain.links clause derives.folds;
}
