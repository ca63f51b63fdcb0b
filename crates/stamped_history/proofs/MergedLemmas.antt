-- What a merged list has of each role, and which entries come before an entry.
use Rattle.std.proofs.Common.{◌≡◌, ℕ, suc, ◌+◌, ◌<◌, Bool, List, [], ◌∷◌, ◌++◌, length, get_or, map, inl, inr, ⊎_elim, refl, sym, ap, ◌∙◌, subst, arith, Contains}
use Rattle.std.specs.Prelude.{◌==◌}
use Rattle.std.specs.List.{AllPairs, filter}
use Rattle.std.proofs.lemmas.Bool.{cond-true, cond_both}
use Rattle.std.proofs.lemmas.Bool.Decides.{Decides-eqb}
use Rattle.std.proofs.lemmas.List.{get_or-append-add, get_or_at, length-append, map-append}
use Rattle.std.proofs.lemmas.List.Elements.{Contains-append_cases, filter-append}
use Rattle.list_base.proofs.Members.{cons_cases, here_same, nowhere, there}
use Rattle.stamped_history.specs.declared.entry.Entry.{Entry}
use Rattle.stamped_history.specs.declared.entry.RoleEntry.{RoleEntry}
use Rattle.stamped_history.specs.Merged.{ComesBefore, entries_of}

-- the test for a role's entries
abbrev pub is_of : ℕ → RoleEntry → Bool
is_of role e = e.role == role

-- a role's entry with those of the role after it
pub entries_first : (role : ℕ) (e : RoleEntry) (after : List RoleEntry) → e.role ≡ role → entries_of role (e ∷ after) ≡ e.entry ∷ entries_of role after
entries_first role e after own =
    ap (λ es. map (λ (f : RoleEntry). f.entry) es)
    (cond-true (e.role == role) (e ∷ filter (is_of role) after) (filter (is_of role) after) ((Decides-eqb e.role role).1 own))

-- the entries of a role in two lists
pub entries_append : (role : ℕ) (before after : List RoleEntry) → entries_of role (before ++ after) ≡ entries_of role before ++ entries_of role after
entries_append role before after =
    ap (λ es. map (λ (f : RoleEntry). f.entry) es) (filter-append (is_of role) before after)
    ∙ map-append (λ (f : RoleEntry). f.entry) (filter (is_of role) before) (filter (is_of role) after)

-- the role's entries before and after one of its own
pub entries_parted : (before after : List RoleEntry) (e : RoleEntry) → entries_of e.role (before ++ e ∷ after) ≡ entries_of e.role before ++ e.entry ∷ entries_of e.role after
entries_parted before after e =
    entries_append e.role before (e ∷ after) ∙ ap (λ es. entries_of e.role before ++ es) (entries_first e.role e after refl)

-- an entry of a role's is in the list, as the role's
pub entry_among : (role : ℕ) (all : List RoleEntry) (e : Entry) → Contains (entries_of role all) e → Contains all (record { role = role; entry = e })
entry_among role [] e = λ among. absurd (nowhere e among)
entry_among role (f ∷ all) e =
    cond_both (f.role == role) (f ∷ filter (is_of role) all) (filter (is_of role) all)
    (λ es. Contains (map (λ (g : RoleEntry). g.entry) es) e → Contains (f ∷ all) (record { role = role; entry = e }))
    (λ own among. elim (cons_cases f.entry (entries_of role all) e among) [
      | inl is ↦ let same : f.role ≡ role = (Decides-eqb f.role role).0 own in here_same f all (record { role = role; entry = e }) (λ j. record { role = same j; entry = is j })
      | inr rest ↦ there f all (record { role = role; entry = e }) (entry_among role all e rest)
    ])
    (λ other among. there f all (record { role = role; entry = e }) (entry_among role all e among))

-- and the other way round
pub among_entries : (all : List RoleEntry) (e : RoleEntry) → Contains all e → Contains (entries_of e.role all) e.entry
among_entries [] e among = absurd (nowhere e among)
among_entries (f ∷ all) e among = elim (cons_cases f all e among) [
  | inl is ↦ subst (λ es. Contains es e.entry) (sym (entries_first e.role f all (ap (λ (g : RoleEntry). g.role) is))) (here_same f.entry (entries_of e.role all) e.entry (ap (λ (g : RoleEntry). g.entry) is))
  | inr rest ↦
      cond_both (f.role == e.role) (f ∷ filter (is_of e.role) all) (filter (is_of e.role) all)
      (λ es. Contains (map (λ (g : RoleEntry). g.entry) es) e.entry)
      (λ own. there f.entry (entries_of e.role all) e.entry (among_entries all e rest))
      (λ other. among_entries all e rest)
]

-- what holds of each pair holds of an item and one after it
pub pair_after : {X : Type 0} (R : X → X → Type 0) (before after : List X) (x y : X) → AllPairs R (before ++ x ∷ after) → Contains after y → R x y
pair_after {X} R before after x y pairs among =
    let j : ℕ = length before + suc among.0 in
    subst (λ (z : X). R z y) (get_or_at before x after y (length before) refl)
    (subst (λ (z : X). R (get_or (before ++ x ∷ after) (length before) y) z) (get_or-append-add before (x ∷ after) (suc among.0) y ∙ among.2)
    (pairs (length before) j y (omega arith) (omega (arith, among.1, length-append before (x ∷ after)))))

-- of a first item and the others, and of the others
pub pairs_rest : {X : Type 0} (R : X → X → Type 0) (x : X) (xs : List X) → AllPairs R (x ∷ xs) → AllPairs R xs
pairs_rest R x xs pairs i j d before within = pairs (suc i) (suc j) d (omega arith) (omega (arith, within))

-- an entry with a lower stamp than another comes before it
pub lower_before : (before after : List RoleEntry) (e f : RoleEntry) → AllPairs ComesBefore (before ++ e ∷ after) → Contains (before ++ e ∷ after) f → f.entry.stamp < e.entry.stamp → Contains before f
lower_before before after e f sorted among lower =
    ⊎_elim (λ early. early)
    (λ late. elim (cons_cases e after f late) [
      | inl is ↦ let same : e.entry.stamp ≡ f.entry.stamp = ap (λ (g : RoleEntry). g.entry.stamp) is in absurd (omega arith)
      | inr rest ↦ elim (pair_after ComesBefore before after e f sorted rest) [
        | inl less ↦ absurd (omega arith)
        | inr tie ↦ absurd (omega (arith, tie.0))
      ]
    ])
    (Contains-append_cases before (e ∷ after) f among)
