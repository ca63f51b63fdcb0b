-- Each list of literals has a clause with the same members.
use Rattle.std.proofs.Common.{ℕ, zero, suc, ◌<◌, List, [], ◌∷◌, inl, inr, length, get_or, sym, subst, arith, Contains}
use Rattle.std.proofs.lemmas.Bool.{cases_order}
use Rattle.std.proofs.lemmas.List.Elements.{Contains-get_or}
use Rattle.clause_core.specs.declared.literal.Lit.{Lit}
use Rattle.clause_core.specs.Literal.{rank}
use Rattle.clause_core.specs.Clause.{IsAscending, HasExactly, IsClauseOf}
use Rattle.clause_core.specs.inner.Insertion.{Inserts}
use Rattle.list_base.proofs.Members.{here_same, there, nowhere, cons_cases}
use Rattle.clause_core.proofs.LiteralLemmas.{same_rank}
use Rattle.clause_core.proofs.ClauseLemmas.{ascending_nil, ascending_tail, first_below, first_least}
use Rattle.clause_core.proofs.DistinctLemmas.{adds_double}

-- a literal comes before those of a list that has only greater ones
cons_ordered : (x : Lit) (xs : List Lit) → IsAscending xs → ((m : Lit) → Contains xs m → rank x < rank m) → (i j : ℕ) (d : Lit) → i < j → j < length (x ∷ xs) → rank (get_or (x ∷ xs) i d) < rank (get_or (x ∷ xs) j d)
cons_ordered x xs up below i zero d before within = absurd (omega (arith, before))
cons_ordered x xs up below zero (suc j) d before within = below (get_or xs j d) (Contains-get_or xs j d (omega (arith, within)))
cons_ordered x xs up below (suc i) (suc j) d before within = up.ordered i j d (omega (arith, before)) (omega (arith, within))

-- a smaller literal before an ascending list
ascending_cons : (x : Lit) (xs : List Lit) → IsAscending xs → ((m : Lit) → Contains xs m → rank x < rank m) → IsAscending (x ∷ xs)
ascending_cons x xs up below = record { ordered = cons_ordered x xs up below }

-- a literal that is smaller than the first one
adds_first : (l : Lit) (clause : List Lit) → IsAscending clause → ((m : Lit) → Contains clause m → rank l < rank m) → Inserts clause l (l ∷ clause)
adds_first l clause up below = record {
  ascending = ascending_cons l clause up below;
  members = λ m. (
    λ among. elim (cons_cases l clause m among) [ inl same ↦ inr same | inr old ↦ inl old ],
    λ either. elim either [ inl old ↦ there l clause m old | inr same ↦ here_same l clause m same ],
  );
}

-- a literal that is greater than the first one
adds_later : (l m : Lit) (rest more : List Lit) → IsAscending (m ∷ rest) → rank m < rank l → Inserts rest l more → Inserts (m ∷ rest) l (m ∷ more)
adds_later l m rest more up above adds = record {
  ascending = ascending_cons m more adds.ascending (λ k among. elim ((adds.members k).0 among) [
    | inl old ↦ first_below m rest up k old
    | inr same ↦ subst (λ (n : Lit). rank m < rank n) same above
  ]);
  members = λ k. (
    λ among. elim (cons_cases m more k among) [
      | inl same ↦ inl (here_same m rest k same)
      | inr later ↦ elim ((adds.members k).0 later) [ inl old ↦ inl (there m rest k old) | inr same ↦ inr same ]
    ],
    λ either. elim either [
      | inl old ↦ elim (cons_cases m rest k old) [
        | inl same ↦ here_same m more k same
        | inr later ↦ there m more k ((adds.members k).1 (inl later))
      ]
      | inr same ↦ there m more k ((adds.members k).1 (inr same))
    ],
  );
}

-- a clause takes one more literal
adds : (l : Lit) (clause : List Lit) → IsAscending clause → (more : List Lit) × Inserts clause l more
adds l [] up = (l ∷ [], adds_first l [] up (λ m none. absurd (nowhere m none)))
adds l (m ∷ rest) up = elim (cases_order (rank l) (rank m)) [
  | inl same ↦ (m ∷ rest, adds_double (m ∷ rest) l up (here_same m rest l (sym (same_rank l m same))))
  | inr differ ↦ elim differ [
    | inl below ↦ (l ∷ (m ∷ rest), adds_first l (m ∷ rest) up (λ k among. omega (arith, below, first_least m rest up k among)))
    | inr above ↦ let more = adds l rest (ascending_tail m rest up) in (m ∷ more.0, adds_later l m rest more.0 up above more.1)
  ]
]

-- each list of literals has a clause
pub clause_of : (lits : List Lit) → (clause : List Lit) × IsClauseOf lits clause
clause_of [] = ([], record { ascending = ascending_nil; exactly = λ m. (λ none. none, λ none. none) })
clause_of (l ∷ lits) =
    let rest = clause_of lits in
    let more = adds l rest.0 rest.1.ascending in (
      more.0,
      record {
        ascending = more.1.ascending;
        exactly = λ m. (
          λ among. elim ((more.1.members m).0 among) [ inl old ↦ there l lits m ((rest.1.exactly m).0 old) | inr same ↦ here_same l lits m same ],
          λ among. (more.1.members m).1 (elim (cons_cases l lits m among) [ inl same ↦ inr same | inr later ↦ inl ((rest.1.exactly m).1 later) ]),
        );
      },
    )
