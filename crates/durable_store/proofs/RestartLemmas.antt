-- A store whose call was cut short, while its disk is restarted and read.
use Rattle.std.proofs.Common.{◌≡◌, ◌≢◌, ℕ, ◌<◌, inl, inr, true, false, List, length, refl, sym, ap, ◌∙◌, subst, All}
use Rattle.std.specs.List.{AllPairs}
use Rattle.std.proofs.lemmas.Bool.{false≢true}
use Rattle.bspl_io.specs.Faults.{last_count}
use Rattle.bspl_types.specs.declared.expanded.Expanded.{Expanded}
use Rattle.bspl_types.specs.declared.value.Value.{Value}
use Rattle.bspl_types.specs.Admission.{IsAdmitted}
use Rattle.stamped_history.specs.declared.entry.Entry.{Entry}
use Rattle.local_store.specs.State.{StoreState}
use Rattle.role_journal.specs.Counts.{Counts}
use Rattle.role_journal.specs.Crash.{Leaves, LeavesNoMore}
use Rattle.role_journal.specs.EntryBody.{IsEntry}
use Rattle.role_journal.specs.Journal.{IsBeforeOrAfter, IsJournal, places}
use Rattle.durable_store.specs.Alien.{IsAlien}
use Rattle.durable_store.specs.Laws.{HistoriesAreNative, JournalsAreOne}
use Rattle.durable_store.specs.Restart.{IsStartedAgain}
use Rattle.durable_store.specs.Start.{IsStarted}
use Rattle.durable_store.specs.State.{DurableState, IsSoundStore}
use Rattle.durable_store.specs.inner.Begun.{IsRestored}
use Rattle.durable_store.proofs.ServingLemmas.{history_of_store}

module _ {D : Type 0} (seen : D → List ℕ) (may_leave : D → List ℕ → Type 0) (counts : D → Counts) (old : DurableState D) (mid new : D) (image : may_leave old.disk (seen mid)) (settled : Leaves (seen mid) (may_leave mid)) (less : LeavesNoMore (may_leave mid) (may_leave new)) (sound : IsSoundStore seen may_leave counts old) (spent : old.spent ≡ true) where
  -- what a crash leaves afterwards, it might have left before
  pub restarted_less : LeavesNoMore (may_leave old.disk) (may_leave new)
  restarted_less = λ c left. subst (may_leave old.disk) (sym (settled c (less c left))) image

  -- the store is sound while it stays spent
  pub spent_is_sound : IsSoundStore seen may_leave counts (record { store = old.store; disk = new; spent = true })
  spent_is_sound =
      let cut = sound.cut_short spent in
      record {
        history = sound.history;
        ready = λ unspent. absurd (false≢true (sym unspent));
        cut_short = λ _. record { next = cut.next; may_come = cut.may_come; leaves = λ c left. cut.leaves c (restarted_less c left) };
      }

  -- no place of what the disk kept is alien
  pub kept_is_native : HistoriesAreNative → IsAdmitted old.store.protocol → (place : ℕ) → ¬ IsAlien old.store.protocol old.store.role old.store.keys (seen mid) place
  kept_is_native native admitted place =
      let cut = sound.cut_short spent in
      elim (cut.leaves (seen mid) image) [
        | inl early ↦ native old.store.protocol old.store.role old.store.keys (seen mid) old.store.entries admitted sound.history early place
        | inr late ↦ native old.store.protocol old.store.role old.store.keys (seen mid) _ admitted cut.may_come late place
      ]

  module _ (s : StoreState) (same : seen new ≡ seen mid) (restored : IsRestored old.store.protocol old.store.role old.store.keys (seen mid) s) (leaves : Leaves (seen new) (may_leave new)) (countable : (counts new).faults < last_count) where
    pub again_started : IsStarted seen may_leave counts old.store.protocol old.store.role old.store.keys (record { store = s; disk = new; spent = false })
    again_started = record {
      protocol_is = restored.protocol_is;
      role_is = restored.role_is;
      keys_are = restored.keys_are;
      history = restored.history;
      unspent = refl;
      ready = record {
        keeps = record { journal = subst (IsJournal s.entries) (sym same) restored.journal; settled = leaves };
        room = restored.room ∙ ap (λ (i : List ℕ). places (length i)) (sym same);
        countable = countable;
      };
      native = λ place. subst (λ (i : List ℕ). ¬ IsAlien old.store.protocol old.store.role old.store.keys i place) (sym same) (restored.native place);
    }

    pub is_started_again : JournalsAreOne → IsAdmitted old.store.protocol → AllPairs ◌≢◌ old.store.keys → length (seen mid) ≡ length (seen old.disk) → IsStartedAgain seen may_leave counts old (record { store = s; disk = new; spent = false })
    is_started_again one admitted distinct size = record {
      started = again_started;
      keys_are = restored.keys_are.in_order distinct;
      left = subst (may_leave old.disk) (sym same) image;
      size = ap length same ∙ size;
      entries_are = λ entries sized journal. one old.store.protocol (seen mid) s.entries entries admitted restored.history.sized sized restored.journal (subst (IsJournal entries) same journal);
    }

    pub again_is_sound : IsSoundStore seen may_leave counts (record { store = s; disk = new; spent = false })
    again_is_sound = record {
      history = history_of_store old.store.protocol old.store.role old.store.keys s (record { protocol_is = restored.protocol_is; role_is = restored.role_is; keys_are = restored.keys_are }) s.entries restored.history;
      ready = λ _. again_started.ready;
      cut_short = λ spent_again. absurd (false≢true spent_again);
    }

-- what is restored under equal names
pub restored_for : (x y : Expanded) (role r : ℕ) (keys ks : List (List Value)) (image : List ℕ) (s : StoreState) → x ≡ y → role ≡ r → keys ≡ ks → IsRestored x role keys image s → IsRestored y r ks image s
restored_for x y role r keys ks image s x_is role_is keys_are restored =
    subst (λ (z : Expanded). IsRestored z r ks image s) x_is (subst (λ (n : ℕ). IsRestored x n ks image s) role_is (subst (λ (l : List (List Value)). IsRestored x role l image s) keys_are restored))

-- and what is alien
pub alien_for : (x y : Expanded) (role r : ℕ) (keys ks : List (List Value)) (image : List ℕ) (place : ℕ) → x ≡ y → role ≡ r → keys ≡ ks → IsAlien x role keys image place → IsAlien y r ks image place
alien_for x y role r keys ks image place x_is role_is keys_are alien =
    subst (λ (z : Expanded). IsAlien z r ks image place) x_is (subst (λ (n : ℕ). IsAlien x n ks image place) role_is (subst (λ (l : List (List Value)). IsAlien x role l image place) keys_are alien))
