-- What is kept is sound and consistent, and a new store keeps it.
use Rattle.std.proofs.Common.{◌≡◌, ℕ, ◌+◌, ◌<◌, ◌≤◌, List, [], ◌∷◌, ◌++◌, length, map, Some, refl, sym, subst, arith}
use Rattle.std.specs.Prelude.{slice_get}
use Rattle.std.specs.List.{All, Contains}
use Rattle.std.proofs.lemmas.List.Elements.{All-contains, All-map, All-nil, All-weaker, Contains-get_or}
use Rattle.std.proofs.lemmas.Option.{none-some}
use Rattle.list_base.proofs.Membership.{member_at}
use Rattle.list_base.proofs.Members.{nowhere}
use Rattle.bspl_types.specs.declared.expanded.Expanded.{Expanded}
use Rattle.bspl_types.specs.Admission.{IsAdmitted}
use Rattle.bspl_types.specs.History.{instance_of, role_of}
use Rattle.bspl_types.specs.Instance.{Fits}
use Rattle.stamped_history.specs.declared.entry.Entry.{Entry}
use Rattle.stamped_history.specs.Local.{IsLocal}
use Rattle.local_store.specs.declared.act.Act.{Act}
use Rattle.local_store.specs.Consistent.{IsConsistent}
use Rattle.local_store.specs.State.{StoreState}
use Rattle.local_store.specs.inner.Acts.{ActsState, Rows, entries_in, entry_in, event_as, instance_in}
use Rattle.local_store.specs.inner.Kept.{IsKept, IsSound, rows_of, state_of}
use Rattle.local_store.proofs.EntryLemmas.{event_among, instance_as}

-- each entry's key is held
all_held : (x : Expanded) (rows : Rows) (acts : List Act) → All (λ a. a.row < length rows.keys) acts → All (λ e. Contains rows.keys (instance_of e.event).key) (entries_in x rows acts)
all_held x rows acts within = All-map (λ e. Contains rows.keys (instance_of e.event).key) (entry_in x rows) acts
    (All-weaker (λ a. a.row < length rows.keys) (λ a. Contains rows.keys (instance_of (event_as a.kind (instance_in x rows a))).key)
    (λ a less. subst (λ i. Contains rows.keys i.key) (sym (instance_as a.kind (instance_in x rows a))) (Contains-get_or rows.keys a.row [] less)) acts within)

pub sound : (x : Expanded) (role clock : ℕ) (rows : Rows) (log : ActsState) (s : StoreState) → IsKept x role rows log clock → state_of x role rows log ≡ s → IsSound s
sound x role clock rows log s kept view = subst IsSound view (record { admitted = kept.admitted; held = all_held x rows log.acts kept.within; local = kept.local })

pub consistent : (x : Expanded) (role clock : ℕ) (rows : Rows) (log : ActsState) (s : StoreState) → IsKept x role rows log clock → state_of x role rows log ≡ s → length s.entries + s.spare ≤ 4294967295 → IsConsistent s
consistent x role clock rows log s kept view few =
    subst (λ t. length t.entries + t.spare ≤ 4294967295 → IsConsistent t) view
    (λ few. record { admitted = kept.admitted; known_role = kept.known_role; keys = kept.keys; held = all_held x rows log.acts kept.within; local = kept.local; few = few }) few

-- an act's row and message exist
pub act_exists : (x : Expanded) (role clock : ℕ) (rows : Rows) (log : ActsState) → IsKept x role rows log clock → (i : ℕ) (a : Act) → slice_get log.acts i ≡ Some a → (a.row < length rows.keys) × (a.message < length x.messages)
act_exists x role clock rows log kept i a at =
    let among = member_at log.acts i a at in
    let event = event_as a.kind (instance_in x rows a) in (
      All-contains (λ b. b.row < length rows.keys) log.acts a kept.within among,
      subst (λ j. j.message < length x.messages) (instance_as a.kind (instance_in x rows a)) (All-contains (λ e. Fits x (instance_of e)) (map (λ e. e.event) (entries_in x rows log.acts)) event kept.local.fits (event_among x rows log.acts a among)).known,
    )

-- nothing is local
none_before : (before : List Entry) (e : Entry) (after : List Entry) → [] ≡ before ++ e ∷ after → ⊥
none_before [] e after is = absurd (cc)
none_before (f ∷ before) e after is = absurd (cc)

none_local : (x : Expanded) (role : ℕ) → IsLocal x role []
none_local x role = record {
  fits = All-nil (λ e. Fits x (instance_of e));
  own = All-nil (λ e. role_of x e ≡ role);
  follows = λ before after e is. absurd (none_before before e after is);
  one_value = λ key p v w known. absurd (nowhere known.event known.among);
}

-- so a new store keeps what it has to keep
pub kept_new : (x : Expanded) (role : ℕ) → IsAdmitted x → role < length x.roles → IsKept x role (rows_of x [] [] []) (record { acts = []; spare = 0 }) 0
kept_new x role admitted known = record {
  admitted = admitted;
  known_role = known;
  keys = record { distinct = λ i j d less within. absurd (omega (arith, within)); whole = All-nil (λ key. length key ≡ length x.keys) };
  few_keys = omega arith;
  within = All-nil (λ a. a.row < 0);
  index = record {
    knows = λ row key p v at. absurd (none-some key at);
    happened = λ row key m at. absurd (none-some key at);
    blank_cells = λ row p past within. refl;
    blank_marks = λ row m past within. refl;
  };
  local = none_local x role;
  clock_is = refl;
}
