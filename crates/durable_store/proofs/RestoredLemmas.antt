-- A store that is restored up to the first closed place, behind which all are closed.
use Rattle.std.proofs.Common.{◌≡◌, ℕ, ◌+◌, ◌≤◌, inl, inr, List, length, subst, arith}
use Rattle.std.proofs.lemmas.Bool.{cases_lt}
use Rattle.bspl_types.specs.declared.expanded.Expanded.{Expanded}
use Rattle.bspl_types.specs.declared.value.Value.{Value}
use Rattle.bspl_types.specs.Admission.{IsAdmitted}
use Rattle.local_store.specs.State.{StoreState}
use Rattle.role_journal.specs.EntryBody.{BodiesAreWhole}
use Rattle.role_journal.specs.Journal.{IsOpen, places}
use Rattle.durable_store.specs.inner.Begun.{Begins, BegunAreNative, IsBegun, IsRestored, Stops}
use Rattle.durable_store.specs.inner.Gates.{AreClosed}
use Rattle.durable_store.proofs.JournalLemmas.{all_native, journal_of}
use Rattle.durable_store.proofs.ServingLemmas.{history_for, Serves}

module _ (image : List ℕ) (s : StoreState) (stops : Stops image s) (from : ℕ) (next : from ≤ length s.entries + 1) (late : AreClosed image from (places (length image))) where
  -- all places behind the entries are closed
  all_closed : AreClosed image (length s.entries) (places (length image))
  all_closed place behind within = elim (cases_lt (length s.entries) place) [
    | inl after ↦ late place (omega (arith, after, next)) within
    | inr at ↦
        let is : place ≡ length s.entries = omega (arith, at, behind) in
        λ opened. stops (omega (arith, is, within)) (subst (IsOpen image) is opened)
  ]

  pub restored : BegunAreNative → BodiesAreWhole → (x : Expanded) (role : ℕ) (keys : List (List Value)) → Serves x role keys s → IsAdmitted s.protocol → IsBegun image s → IsRestored x role keys image s
  restored law whole x role keys serving admitted begun =
      let history = history_for x role keys s serving s.entries begun.history in
      let begins : Begins x image s.entries = subst (λ (y : Expanded). Begins y image s.entries) serving.protocol_is begun.begins in
      record {
        protocol_is = serving.protocol_is;
        role_is = serving.role_is;
        keys_are = serving.keys_are;
        history = history;
        journal = journal_of whole x image s.entries begins all_closed;
        room = begun.room;
        native = all_native law x role keys image s.entries (subst IsAdmitted serving.protocol_is admitted) history begins all_closed;
      }
