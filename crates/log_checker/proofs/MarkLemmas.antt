-- What a table marks after a mark was set or taken.
use Rattle.std.proofs.Common.{◌≡◌, ◌≢◌, ℕ, ◌+◌, ◌*◌, ◌<◌, ◌≤◌, ◌↔◌, ◌⊎◌, inl, inr, Bool, true, false, not, List, [], ◌∷◌, ◌++◌, length, length-set, take, get_or, set, sym, ap, ap₂, refl, ◌∙◌, subst, arith, Contains}
use Rattle.std.proofs.lemmas.Bool.{cases_eq, cases_lt, eq-eqb, ne_eqb}
use Rattle.std.proofs.lemmas.List.{get_or_past, get_or-set_same, get_or-set_other, take_more}
use Rattle.std.proofs.lemmas.List.Elements.{All-push, Contains-append_left, Contains-append_right, Contains-append_cases}
use Rattle.std.specs.Prelude.{if◌then◌else◌, ◌==◌}
use Rattle.list_base.proofs.Members.{here, nowhere, only, end_same}
use Rattle.clause_core.specs.declared.literal.Lit.{Lit}
use Rattle.clause_core.specs.Literal.{rank, negated}
use Rattle.clause_core.specs.Resolvent.{Keeps}
use Rattle.log_checker.specs.inner.Marks.{MarkCells, IsMarked, AddsMarks, TakesMark, ResolvesMarks, IsMarkTable}

same_parts : (a b : ℕ) (p q : Bool) → 2 * a + (if p then 1 else 0) ≡ 2 * b + (if q then 1 else 0) → (a ≡ b) × (p ≡ q)
same_parts a b true true same = (omega arith, refl)
same_parts a b true false same = absurd (omega arith)
same_parts a b false true same = absurd (omega arith)
same_parts a b false false same = (omega arith, refl)

literal : ℕ → Bool → Lit
literal v p = record { var = v; positive = p }

-- two literals of one rank are one
same_rank : (l m : Lit) → rank l ≡ rank m → l ≡ m
unfolding literal
same_rank l m same =
    let parts = same_parts l.var m.var l.positive m.positive same in ap₂ literal parts.0 parts.1

-- two literals are one or differ
pub same_literal_or_not : (l m : Lit) → (l ≡ m) ⊎ (l ≢ m)
same_literal_or_not l m = elim (cases_eq (rank l) (rank m)) [ inl same ↦ inl (same_rank l m same) | inr other ↦ inr (λ same. other (ap rank same)) ]

-- whether the literal is another one
abbrev pub differs : Lit → Lit → Bool
differs out l = not (rank l == rank out)

pub differs-true : (out l : Lit) → l ≢ out → differs out l ≡ true
differs-true out l other = ap not (ne_eqb (rank l) (rank out) (λ same. other (same_rank l out same)))

pub differs-holds : (out l : Lit) → differs out l ≡ true → l ≢ out
differs-holds out l test same = absurd (let equal = eq-eqb (rank l) (rank out) (ap rank same) in cc)

-- a literal has a cell
pub cell-within : (vars : ℕ) (l : Lit) → l.var ≤ vars → rank l < 2 * vars + 2
cell-within vars l exists = elim l.positive as (λ b. 2 * l.var + (if b then 1 else 0) < 2 * vars + 2) [ true ↦ omega arith | false ↦ omega arith ]

-- a marked literal has a cell
pub marked-within : (table : MarkCells) (l : Lit) → IsMarked table l → rank l < length table.cells
marked-within table l marked = elim (cases_lt (rank l) (length table.cells)) [
  | inl within ↦ within
  | inr past ↦ absurd (let none = get_or_past table.cells (rank l) false past in cc)
]

-- one mark more
pub AddsMarks-set : (table : MarkCells) (l : Lit) → rank l < length table.cells → AddsMarks table (l ∷ []) (record table { cells = set table.cells (rank l) true })
AddsMarks-set table l within = record {
  vars = refl;
  members = λ m. elim (cases_eq (rank m) (rank l)) [
    | inl same ↦
        let marked : get_or (set table.cells (rank l) true) (rank m) false ≡ true = rw same (get_or-set_same table.cells (rank l) true false within) in
        (λ _. inr (subst (Contains (l ∷ [])) (sym (same_rank m l same)) (here l [])), λ _. marked)
    | inr other ↦
        let kept = get_or-set_other table.cells (rank l) (rank m) true false other in (
          λ marked. inl (sym kept ∙ marked),
          λ either. elim either [
            | inl before ↦ kept ∙ before
            | inr among ↦ absurd (other (ap rank (sym (only l m among))))
          ],
        )
  ];
}

-- one mark less
pub TakesMark-set : (table : MarkCells) (l : Lit) → IsMarked table l → TakesMark table l (record table { cells = set table.cells (rank l) false })
TakesMark-set table l held = record {
  vars = refl;
  members = λ m. elim (cases_eq (rank m) (rank l)) [
    | inl same ↦
        let gone : get_or (set table.cells (rank l) false) (rank m) false ≡ false = rw same (get_or-set_same table.cells (rank l) false false (marked-within table l held)) in
        (λ marked. absurd cc, λ kept. absurd (kept.1 (same_rank m l same)))
    | inr other ↦
        let kept = get_or-set_other table.cells (rank l) (rank m) false false other in
        (λ marked. (sym kept ∙ marked, λ same. other (ap rank same)), λ both. kept ∙ both.0)
  ];
}

-- a literal is put into the list and is marked
pub IsMarkTable-set : (table : MarkCells) (touched new : List Lit) (l : Lit) (index : ℕ) → IsMarkTable table touched → 0 < l.var → l.var ≤ table.vars → index ≡ rank l → new ≡ touched ++ l ∷ [] → IsMarkTable (record table { cells = set table.cells index true }) new
IsMarkTable-set table touched new l index kept from_one exists ranked grows = rw (ranked, grows) (record {
  many = length-set table.cells (rank l) true ∙ kept.many;
  listed = λ m marked. elim (((AddsMarks-set table l (omega (arith, kept.many, cell-within table.vars l exists))).members m).0 marked) [
    | inl before ↦ Contains-append_left touched (l ∷ []) m (kept.listed m before)
    | inr last ↦ end_same touched l m (only l m last)
  ];
  exist = All-push (λ k. (0 < k.var) × (k.var ≤ table.vars)) touched l kept.exist (from_one, exists);
})

-- one more literal of the clause is marked
pub AddsMarks-more : (old mid new : MarkCells) (clause : List Lit) (i : ℕ) (d : Lit) → i < length clause → AddsMarks old (take i clause) mid → AddsMarks mid (get_or clause i d ∷ []) new → AddsMarks old (take (i + 1) clause) new
AddsMarks-more old mid new clause i d within before adds = rw (take_more clause i d within) (record {
  vars = adds.vars ∙ before.vars;
  members = λ m. (
    λ marked. elim ((adds.members m).0 marked) [
      | inl earlier ↦ elim ((before.members m).0 earlier) [ inl held ↦ inl held | inr among ↦ inr (Contains-append_left (take i clause) (get_or clause i d ∷ []) m among) ]
      | inr last ↦ inr (Contains-append_right (take i clause) (get_or clause i d ∷ []) m last)
    ],
    λ either. (adds.members m).1 (elim either [
      | inl held ↦ inl ((before.members m).1 (inl held))
      | inr among ↦ elim (Contains-append_cases (take i clause) (get_or clause i d ∷ []) m among) [ inl earlier ↦ inl ((before.members m).1 (inr earlier)) | inr last ↦ inr last ]
    ]),
  );
})

-- no literal of the clause is marked yet
pub AddsMarks-none : (table : MarkCells) → AddsMarks table [] table
AddsMarks-none table = record {
  vars = refl;
  members = λ m. (inl, λ either. elim either [ inl held ↦ held | inr among ↦ absurd (nowhere m among) ]);
}

-- the pivot's mark was taken, and no literal of the clause is marked yet
pub ResolvesMarks-none : (old now : MarkCells) (pivot : Lit) → TakesMark old pivot now → ResolvesMarks old pivot [] now
ResolvesMarks-none old now pivot taken = record {
  vars = taken.vars;
  members = λ m. (λ marked. inl ((taken.members m).0 marked), λ either. elim either [ inl held ↦ (taken.members m).1 held | inr keeps ↦ absurd (nowhere m keeps.0) ]);
}

-- one more literal is kept, if it is not the pivot's negation
Keeps-push : (clause : List Lit) (l out m : Lit) → l ≢ out → Keeps (clause ++ l ∷ []) out m ↔ (Keeps clause out m ⊎ Contains (l ∷ []) m)
Keeps-push clause l out m differs = (
  λ keeps. elim (Contains-append_cases clause (l ∷ []) m keeps.0) [ inl before ↦ inl (before, keeps.1) | inr last ↦ inr last ],
  λ either. elim either [
    | inl keeps ↦ (Contains-append_left clause (l ∷ []) m keeps.0, keeps.1)
    | inr last ↦ (Contains-append_right clause (l ∷ []) m last, subst (λ k. k ≢ out) (only l m last) differs)
  ],
)

-- the clause's next literal is marked
pub ResolvesMarks-more : (old mid new : MarkCells) (pivot : Lit) (clause : List Lit) (i : ℕ) (d : Lit) → i < length clause → get_or clause i d ≢ negated pivot → ResolvesMarks old pivot (take i clause) mid → AddsMarks mid (get_or clause i d ∷ []) new → ResolvesMarks old pivot (take (i + 1) clause) new
ResolvesMarks-more old mid new pivot clause i d within differs before adds = rw (take_more clause i d within) (record {
  vars = adds.vars ∙ before.vars;
  members = λ m.
      let push = Keeps-push (take i clause) (get_or clause i d) (negated pivot) m differs in (
        λ marked. elim ((adds.members m).0 marked) [
          | inl earlier ↦ elim ((before.members m).0 earlier) [ inl held ↦ inl held | inr keeps ↦ inr (push.1 (inl keeps)) ]
          | inr last ↦ inr (push.1 (inr last))
        ],
        λ either. (adds.members m).1 (elim either [
          | inl held ↦ inl ((before.members m).1 (inl held))
          | inr keeps ↦ elim (push.0 keeps) [ inl earlier ↦ inl ((before.members m).1 (inr earlier)) | inr last ↦ inr last ]
        ]),
      );
})

-- the pivot's negation is passed over
pub ResolvesMarks-pass : (old mid : MarkCells) (pivot : Lit) (clause : List Lit) (i : ℕ) (d : Lit) → i < length clause → get_or clause i d ≡ negated pivot → ResolvesMarks old pivot (take i clause) mid → ResolvesMarks old pivot (take (i + 1) clause) mid
ResolvesMarks-pass old mid pivot clause i d within same before = rw (take_more clause i d within) (record {
  vars = before.vars;
  members = λ m. (
    λ marked. elim ((before.members m).0 marked) [ inl held ↦ inl held | inr keeps ↦ inr (Contains-append_left (take i clause) (get_or clause i d ∷ []) m keeps.0, keeps.1) ],
    λ either. (before.members m).1 (elim either [
      | inl held ↦ inl held
      | inr keeps ↦ elim (Contains-append_cases (take i clause) (get_or clause i d ∷ []) m keeps.0) [
        | inl earlier ↦ inr (earlier, keeps.1)
        | inr last ↦ absurd (keeps.1 (sym (only (get_or clause i d) m last) ∙ same))
      ]
    ]),
  );
})
