-- A set of ranks holds a list of literals, and one more after an insertion.
use Rattle.std.proofs.Common.{◌≡◌, ℕ, ◌+◌, ◌<◌, inl, inr, true, false, cond, List, [], ◌∷◌, ◌++◌, length, map, take, get_or, refl, sym, ap, ◌∙◌}
use Rattle.std.specs.BTreeMap.{is_at}
use Rattle.std.specs.BTreeSet.{BTreeSet, contains}
use Rattle.std.specs.Ordering.{nat_cmp, is_eq}
use Rattle.std.proofs.lemmas.Bool.{cases_Bool, true≢false}
use Rattle.std.proofs.lemmas.List.{map-append, take_more}
use Rattle.std.specs.Cmp.{Equal-is}
use Rattle.std.specs.declared.cmp.Ordering.TheVariants.{Equal}
use Rattle.std.proofs.lemmas.Cmp.{tied_itself, nat_cmp_total}
use Rattle.std.proofs.lemmas.List.Elements.{Contains-append_left, Contains-append_cases}
use Rattle.std.proofs.lemmas.Map.Lookups.{exact_unsigned}
use Rattle.list_base.proofs.Members.{end_same, nowhere, only}
use Rattle.clause_core.specs.declared.literal.Lit.{Lit}
use Rattle.clause_core.specs.Literal.{negated, rank}
use Rattle.lrat_text.specs.inner.LitSet.{HasLit, Holds}
use Rattle.lrat_text.proofs.Literals.{same_rank}

-- the set has one rank more, and the literal of that rank
pub one_lit_more : (old new : BTreeSet ℕ) (lits : List Lit) (lit : Lit) → ((q : ℕ) → contains nat_cmp new q ≡ cond (is_at (nat_cmp (rank lit)) q) true (contains nat_cmp old q)) → Holds old lits → Holds new (lits ++ lit ∷ [])
one_lit_more old new lits lit updates held = record {
  exactly = λ m. elim (cases_Bool (is_eq (nat_cmp (rank lit) (rank m)))) [
    | inl is_yes ↦
        let one : lit ≡ m = same_rank lit m (exact_unsigned (rank lit) (rank m) ((Equal-is (nat_cmp (rank lit) (rank m))).0 is_yes)) in
        let has : HasLit new m = rw (updates (rank m), is_yes) refl in
        (λ _. end_same lits lit m one, λ _. has)
    | inr is_no ↦
        let same : contains nat_cmp new (rank m) ≡ contains nat_cmp old (rank m) = rw (updates (rank m), is_no) refl in (
          λ has. Contains-append_left lits (lit ∷ []) m ((held.exactly m).0 (sym same ∙ has)),
          λ among. elim (Contains-append_cases lits (lit ∷ []) m among) [
            | inl before ↦ same ∙ (held.exactly m).1 before
            | inr last ↦
                let tied : nat_cmp (rank lit) (rank m) ≡ Equal = sym (ap (λ (k : Lit). nat_cmp (rank lit) (rank k)) (only lit m last)) ∙ tied_itself nat_cmp_total (rank lit) in
                absurd (true≢false (sym (ap is_eq tied) ∙ is_no))
          ],
        )
  ];
}

-- the negation of the next literal is put into the set
pub one_negation_more : (new : BTreeSet ℕ) (clause : List Lit) (i : ℕ) (d : Lit) → i < length clause → Holds new (map negated (take i clause) ++ negated (get_or clause i d) ∷ []) → Holds new (map negated (take (i + 1) clause))
one_negation_more new clause i d within held =
    rw (take_more clause i d within, map-append negated (take i clause) (get_or clause i d ∷ [])) held

-- a set without ranks holds nothing
pub none_held : (ranks : BTreeSet ℕ) → ranks.keys ≡ [] → Holds ranks []
none_held ranks empty = record {
  exactly = λ m. (λ has. absurd (let none : contains nat_cmp ranks (rank m) ≡ false = rw empty refl in true≢false (sym has ∙ none)), λ among. absurd (nowhere m among));
}
