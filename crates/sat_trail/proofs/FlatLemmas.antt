-- Spans of the list of all literals.
use Rattle.std.proofs.Common.{◌≡◌, ℕ, zero, suc, ◌+◌, ◌-◌, ◌≤◌, Some, None, List, [], ◌∷◌, ◌++◌, inl, inr, length, set, take, drop, ap, refl, ◌∙◌, sym, arith}
use Rattle.std.specs.Prelude.{All, nat_le, if◌then◌else◌}
use Rattle.std.proofs.lemmas.Bool.{cases_lt, le-leb}
use Rattle.std.proofs.lemmas.List.{drop_at, drop-append-le, length-drop, map-append, take_all, take-append-le, take_at}
use Rattle.clause_core.specs.declared.literal.Lit.{Lit}
use Rattle.sat_trail.specs.declared.span.Span.{Span}
use Rattle.sat_trail.specs.inner.Flat.{clause_at, clauses_at, IsInside}

-- the literals that were passed are taken back
pub taken_back : (lits more now again : List Lit) (n : ℕ) → n ≡ length lits → now ≡ lits ++ more → again ≡ take n now → again ≡ lits
taken_back lits more now again n counted grown back = back ∙ ap (take n) grown ∙ take_at lits more n (sym counted)

-- the literals of a span stay when more follow
pub clause_at-grow : (lits more : List Lit) (span : Span) → IsInside (length lits) span → clause_at (lits ++ more) span ≡ clause_at lits span
clause_at-grow lits more span inside =
    ap (λ part. if nat_le span.start span.end then Some part else None) (elim (cases_lt span.end span.start) [
      | inl before ↦
          let none : span.end - span.start ≡ 0 = omega (arith, before) in rw none refl
      | inr after ↦
          let starts : span.start ≤ length lits = omega (arith, inside, after) in
          let ends : span.end - span.start ≤ length (drop span.start lits) = omega (arith, inside, length-drop span.start lits) in
          ap (take (span.end - span.start)) (drop-append-le span.start lits more starts) ∙ take-append-le (span.end - span.start) (drop span.start lits) more ends
    ])

-- the clauses of the spans stay when more literals follow
pub clauses_at-grow : (lits more : List Lit) (spans : List Span) → All (IsInside (length lits)) spans → clauses_at (lits ++ more) spans ≡ clauses_at lits spans
clauses_at-grow lits more [] inside = refl
clauses_at-grow lits more (s ∷ spans) inside =
    ap (λ c. c ∷ clauses_at (lits ++ more) spans) (clause_at-grow lits more s (inside 0 s (omega arith)))
    ∙ ap (λ rest. clause_at lits s ∷ rest) (clauses_at-grow lits more spans (λ k d within. inside (suc k) d (omega (arith, within))))

-- the span at the end has the literals that were added
pub clauses_at-push : (lits new clause given : List Lit) (spans more : List Span) (start stop : ℕ) → start ≡ length lits → stop ≡ start + length clause → clause ≡ given → new ≡ lits ++ clause → more ≡ spans ++ record { start = start; end = stop } ∷ [] → All (IsInside (length lits)) spans → clauses_at new more ≡ clauses_at lits spans ++ Some given ∷ []
clauses_at-push lits new clause given spans more start stop counted ends same grown pushed inside =
    ap (λ all. clauses_at all more) grown ∙ ap (clauses_at (lits ++ clause)) pushed
    ∙ map-append (clause_at (lits ++ clause)) spans (record { start = start; end = stop } ∷ [])
    ∙ ap (λ first. first ++ clause_at (lits ++ clause) (record { start = start; end = stop }) ∷ []) (clauses_at-grow lits clause spans inside)
    ∙ ap (λ part. clauses_at lits spans ++ part ∷ []) last
  where
    last : clause_at (lits ++ clause) (record { start = start; end = stop }) ≡ Some given
    last = rw (le-leb start stop (omega (arith, ends)))
        (ap Some (ap (λ n. take n (drop start (lits ++ clause))) (let many : stop - start ≡ length clause = omega (arith, ends) in many)
        ∙ ap (take (length clause)) (drop_at lits clause start (sym counted)) ∙ take_all (length clause) clause (omega arith) ∙ same))

-- the clause of one span was removed
pub clauses_at-set : (lits : List Lit) (spans : List Span) (i : ℕ) → clauses_at lits (set spans i (record { start = 1; end = 0 })) ≡ set (clauses_at lits spans) i None
clauses_at-set lits [] i = refl
clauses_at-set lits (s ∷ spans) zero = refl
clauses_at-set lits (s ∷ spans) (suc i) = ap (λ more. clause_at lits s ∷ more) (clauses_at-set lits spans i)
