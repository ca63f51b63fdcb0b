-- What is true of the first places while a store is restored from them.
use Rattle.std.proofs.Common.{◌≡◌, ℕ, ◌+◌, ◌<◌, ◌≤◌, inl, inr, List, [], ◌∷◌, ◌++◌, length, drop, sym, ap, ◌∙◌, subst, arith, refl}
use Rattle.std.specs.List.{Contains}
use Rattle.std.proofs.lemmas.Bool.{cases_lt}
use Rattle.std.proofs.lemmas.List.{length_push}
use Rattle.std.proofs.lemmas.List.Elements.{All-contains, All-push}
use Rattle.list_base.proofs.Membership.{all_prefix}
use Rattle.list_base.proofs.Members.{end_same}
use Rattle.bspl_types.specs.Admission.{IsAdmitted}
use Rattle.bspl_types.specs.History.{instance_of}
use Rattle.stamped_history.specs.declared.entry.Entry.{Entry}
use Rattle.stamped_history.specs.Local.{IsLocal}
use Rattle.local_store.specs.State.{StoreState, with_entry}
use Rattle.role_journal.specs.EntryBody.{BodiesAreDistinct, BodiesAreWhole, IsEntry}
use Rattle.role_journal.specs.Journal.{IsOpen, places}
use Rattle.durable_store.specs.Alien.{AreEntriesTo, HoldsEntry, IsAlien, IsFirstAlien}
use Rattle.durable_store.specs.History.{AreUnder}
use Rattle.durable_store.specs.inner.Begun.{BegunAreNative, Ends, GoesOn, IsBegun, Stops}
use Rattle.durable_store.specs.inner.Begun.Ends.{no_entry, not_local, other_key}
use Rattle.durable_store.specs.inner.Gates.{IsFirstOpen}
use Rattle.durable_store.proofs.HistoryLemmas.{local_prefix, own_entry}
use Rattle.durable_store.proofs.ItemLemmas.{item_cases, item_within}
use Rattle.durable_store.proofs.PlaceLemmas.{entries_split}

-- no place with an entry of the history is alien
pub begun_native : BodiesAreDistinct → BodiesAreWhole → BegunAreNative
begun_native distinct whole x role keys image entries admitted history begins place early alien =
    let item = item_within entries place early in
    let e = item.0 in
    elim alien.why [
      | inl none ↦ none e (begins.each place e item.1) (own_entry x role entries place e history.local item.1)
      | inr (inl (es, to, isnt)) ↦
          let split : entries ≡ es ++ drop (length es) entries = entries_split distinct whole x image admitted es entries (omega (arith, to.count, early)) to.each begins.each in
          isnt (local_prefix x role es (drop (length es) entries) (subst (IsLocal x role) split history.local))
      | inr (inr (inl (es, to, isnt))) ↦
          let split : entries ≡ es ++ drop (length es) entries = entries_split distinct whole x image admitted es entries (omega (arith, to.count, early)) to.each begins.each in
          isnt (all_prefix (λ (f : Entry). Contains keys (instance_of f.event).key) es (drop (length es) entries) (subst (AreUnder keys) split history.under))
      | inr (inr (inr (earlier, before, shut))) ↦ shut (begins.opened earlier (omega (arith, before, early)))
    ]

module _ (image : List ℕ) (place : ℕ) (s : StoreState) (begun : IsBegun image s) (here : place ≡ length s.entries) (among : place < places (length image)) (opened : IsOpen image place) where
  -- the entries with that of the place
  entries_to : (e : Entry) → HoldsEntry s.protocol image place e → AreEntriesTo s.protocol image place (s.entries ++ e ∷ [])
  entries_to e holds = record {
    count = length_push s.entries e ∙ ap (λ (n : ℕ). n + 1) (sym here);
    each = λ i f at. elim (item_cases s.entries e i f at) [
      | inl last ↦ subst (λ (g : Entry). HoldsEntry s.protocol image i g) last.1 (subst (λ (k : ℕ). HoldsEntry s.protocol image k e) (here ∙ sym last.0) holds)
      | inr before ↦ begun.begins.each i f before.1
    ];
  }

  -- the place is alien if the history goes on with none of its entries
  why : Ends image place s → IsAlien s.protocol s.role s.keys image place
  why (no_entry none) = record { within = among; opened = opened; why = inl (λ e holds. absurd (none e holds)) }
  why (not_local e holds isnt) = record { within = among; opened = opened; why = inr (inl (s.entries ++ e ∷ [], entries_to e holds, isnt)) }
  why (other_key e holds isnt) = record {
    within = among;
    opened = opened;
    why = inr (inr (inl (s.entries ++ e ∷ [], entries_to e holds, λ under. isnt (All-contains (λ (f : Entry). Contains s.keys (instance_of f.event).key) (s.entries ++ e ∷ []) e under (end_same s.entries e e refl)))));
  }

  -- and it is the first one
  pub alien_here : BegunAreNative → IsAdmitted s.protocol → Ends image place s → IsFirstAlien s.protocol s.role s.keys image place
  alien_here law admitted ends = record {
    alien = why ends;
    first = λ earlier before. law s.protocol s.role s.keys image s.entries admitted begun.history begun.begins earlier (omega (arith, before, here));
  }

  -- else there is one entry more
  pub begun_more : (e : Entry) → GoesOn image place s e → IsBegun image (with_entry s e.event e.stamp e.number)
  begun_more e goes = record {
    history = record {
      sized = All-push (IsEntry s.protocol) s.entries e begun.history.sized goes.holds.entry;
      local = goes.local;
      under = All-push (λ (f : Entry). Contains s.keys (instance_of f.event).key) s.entries e begun.history.under goes.held;
    };
    begins = record {
      few = omega (arith, length_push s.entries e, here, among);
      opened = λ k less. elim (cases_lt k (length s.entries)) [
        | inl before ↦ begun.begins.opened k before
        | inr last ↦ let at : place ≡ k = omega (arith, length_push s.entries e, less, last, here) in subst (IsOpen image) at opened
      ];
      each = (entries_to e goes.holds).each;
    };
    room = omega (arith, length_push s.entries e, here, among, begun.room);
  }

-- behind a closed place the first open one is alien
pub alien_late : BegunAreNative → (image : List ℕ) (s : StoreState) (from place : ℕ) → IsAdmitted s.protocol → IsBegun image s → Stops image s → length s.entries < from → from ≤ length s.entries + 1 → IsFirstOpen image from (places (length image)) place → IsFirstAlien s.protocol s.role s.keys image place
alien_late law image s from place admitted begun stops after next found =
    let shut = stops (omega (arith, after, found.late, found.within)) in record {
      alien = record {
        within = found.within;
        opened = found.opened;
        why = inr (inr (inr (length s.entries, omega (arith, after, found.late), shut)));
      };
      first = λ earlier before alien. elim (cases_lt earlier (length s.entries)) [
        | inl early ↦ law s.protocol s.role s.keys image s.entries admitted begun.history begun.begins earlier early alien
        | inr late ↦ elim (cases_lt (length s.entries) earlier) [
          | inl behind ↦ found.before earlier (omega (arith, behind, next)) before alien.opened
          | inr at ↦ let is : earlier ≡ length s.entries = omega (arith, late, at) in shut (subst (IsOpen image) is alien.opened)
        ]
      ];
    }
