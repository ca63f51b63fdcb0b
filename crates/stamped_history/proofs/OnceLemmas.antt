-- Histories merge into one list at most.
use Rattle.std.proofs.Common.{◌≡◌, ℕ, true, false, cond, List, [], ◌∷◌, length, map, inl, inr, refl, sym, ap, ◌∙◌, subst, arith, Contains}
use Rattle.std.specs.Prelude.{◌==◌}
use Rattle.std.specs.List.{AllPairs, filter}
use Rattle.list_base.proofs.Members.{cons_cases, here_same}
use Rattle.bspl_types.specs.declared.event.Event.{Event}
use Rattle.stamped_history.specs.declared.entry.Entry.{Entry}
use Rattle.stamped_history.specs.declared.entry.RoleEntry.{RoleEntry}
use Rattle.stamped_history.specs.Merged.{ComesBefore, entries_of, IsMerged}
use Rattle.stamped_history.proofs.MergedLemmas.{among_entries, entries_first, entry_among, is_of, pair_after, pairs_rest}

-- of two entries only one comes before the other
not_both : (e f : RoleEntry) → ComesBefore e f → ComesBefore f e → ⊥
not_both e f (inl less) (inl more) = absurd (omega arith)
not_both e f (inl less) (inr tie) = absurd (omega (arith, tie.0))
not_both e f (inr tie) (inl more) = absurd (omega (arith, tie.0))
not_both e f (inr tie) (inr other) = absurd (omega (arith, tie.1, other.1))

-- two lists have the same entries of each role
abbrev SameEntries : List RoleEntry → List RoleEntry → Type 0
SameEntries all others = (role : ℕ) → entries_of role all ≡ entries_of role others

-- an entry of one is in the other
in_other : (all others : List RoleEntry) (e : RoleEntry) → SameEntries all others → Contains all e → Contains others e
in_other all others e same among = entry_among e.role others e.entry (subst (λ es. Contains es e.entry) (same e.role) (among_entries all e among))

-- the first entries of sorted lists are one
same_first : (all others : List RoleEntry) (e f : RoleEntry) → AllPairs ComesBefore (e ∷ all) → AllPairs ComesBefore (f ∷ others) → SameEntries (e ∷ all) (f ∷ others) → e ≡ f
same_first all others e f sorted also same =
    elim (cons_cases f others e (in_other (e ∷ all) (f ∷ others) e same (here_same e all e refl))) [
      | inl is ↦ sym is
      | inr late ↦ elim (cons_cases e all f (in_other (f ∷ others) (e ∷ all) f (λ role. sym (same role)) (here_same f others f refl))) [
        | inl is ↦ is
        | inr later ↦ absurd (not_both e f (pair_after ComesBefore [] all e f sorted later) (pair_after ComesBefore [] others f e also late))
      ]
    ]

-- without a common first entry two lists still have the same entries of each role
same_rest : (all others : List RoleEntry) (e : RoleEntry) → SameEntries (e ∷ all) (e ∷ others) → SameEntries all others
same_rest all others e same role =
    (elim (e.role == role) as (λ b. map (λ (g : RoleEntry). g.entry) (cond b (e ∷ filter (is_of role) all) (filter (is_of role) all)) ≡ map (λ (g : RoleEntry). g.entry) (cond b (e ∷ filter (is_of role) others) (filter (is_of role) others)) → entries_of role all ≡ entries_of role others) [
      | true ↦ λ both. (cc)
      | false ↦ λ both. both
    ]) (same role)

-- sorted lists with the same entries of each role are one
same_lists : (all others : List RoleEntry) → AllPairs ComesBefore all → AllPairs ComesBefore others → SameEntries all others → all ≡ others
same_lists [] [] sorted also same = refl
same_lists [] (f ∷ others) sorted also same = absurd (omega (arith, ap length (same f.role ∙ entries_first f.role f others refl)))
same_lists (e ∷ all) [] sorted also same = absurd (omega (arith, ap length (sym (same e.role) ∙ entries_first e.role e all refl)))
same_lists (e ∷ all) (f ∷ others) sorted also same =
    let first : e ≡ f = same_first all others e f sorted also same in
    let rest : all ≡ others = same_lists all others (pairs_rest ComesBefore e all sorted) (pairs_rest ComesBefore f others also) (same_rest all others e (subst (λ g. SameEntries (e ∷ all) (g ∷ others)) (sym first) same)) in
    cc

-- and so are the runs
pub merged_once : (histories : List (List Entry)) (run other : List Event) → IsMerged histories run → IsMerged histories other → run ≡ other
merged_once histories run other merged also =
    let same : merged.all ≡ also.all = same_lists merged.all also.all merged.sorted also.sorted (λ role. merged.each role ∙ sym (also.each role)) in
    merged.events ∙ ap (λ es. map (λ (e : RoleEntry). e.entry.event) es) same ∙ sym also.events
