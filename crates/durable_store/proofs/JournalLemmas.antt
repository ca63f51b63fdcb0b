-- An image whose first places begin a history, and whose other places are closed, is its journal.
use Rattle.std.proofs.Common.{◌≡◌, ℕ, ◌+◌, ◌<◌, inl, inr, List, length, map, sym, ap, ◌∙◌, subst, arith}
use Rattle.std.specs.List.{All}
use Rattle.std.proofs.lemmas.Bool.{cases_lt, cases_order}
use Rattle.std.proofs.lemmas.List.{length-map, take_all}
use Rattle.std.proofs.lemmas.List.Elements.{All-contains}
use Rattle.std.proofs.lemmas.Option.{slice_get-get_or}
use Rattle.list_base.proofs.Membership.{member_at}
use Rattle.bspl_types.specs.declared.expanded.Expanded.{Expanded}
use Rattle.bspl_types.specs.declared.value.Value.{Value}
use Rattle.bspl_types.specs.Admission.{IsAdmitted}
use Rattle.stamped_history.specs.declared.entry.Entry.{Entry}
use Rattle.role_journal.specs.EntryBody.{BodiesAreDistinct, BodiesAreWhole, IsEntry, entry_body}
use Rattle.role_journal.specs.Image.{HasBytes}
use Rattle.role_journal.specs.Journal.{IsJournal, gate_of, places}
use Rattle.durable_store.specs.Alien.{IsAlien}
use Rattle.durable_store.specs.History.{IsHistory}
use Rattle.durable_store.specs.Laws.{HistoriesAreNative, JournalsAreOne}
use Rattle.durable_store.specs.inner.Begun.{Begins, BegunAreNative}
use Rattle.durable_store.specs.inner.Gates.{AreClosed}
use Rattle.durable_store.proofs.ItemLemmas.{item_mapped, mapped_item}
use Rattle.durable_store.proofs.PlaceLemmas.{first_entries}

pub journal_of : BodiesAreWhole → (x : Expanded) (image : List ℕ) (entries : List Entry) → Begins x image entries → AreClosed image (length entries) (places (length image)) → IsJournal entries image
journal_of whole x image entries begins closed =
    let count : length (map entry_body entries) ≡ length entries = length-map entries entry_body in record {
      few = omega (arith, count, begins.few);
      whole = λ k d less.
          let found = mapped_item entry_body entries k _ (slice_get-get_or (map entry_body entries) k d less) in
          sym (ap length found.2) ∙ whole x found.0 (begins.each k found.0 found.1).entry;
      opened = λ place early. begins.opened place (omega (arith, count, early));
      bodies_are = λ place body at.
          let found = mapped_item entry_body entries place body at in
          subst (HasBytes image (gate_of place + 1)) found.2 (begins.each place found.0 found.1).body;
      closed = λ place late within. closed place (omega (arith, count, late)) within;
    }

module _ (x : Expanded) (image : List ℕ) (entries : List Entry) (sized : All (IsEntry x) entries) (journal : IsJournal entries image) where
  count_of : length (map entry_body entries) ≡ length entries
  count_of = length-map entries entry_body

  -- a journal begins with its entries
  pub begun_of : Begins x image entries
  begun_of = record {
    few = omega (arith, count_of, journal.few);
    opened = λ place early. journal.opened place (omega (arith, count_of, early));
    each = λ place e at. record {
      entry = All-contains (IsEntry x) entries e sized (member_at entries place e at);
      body = journal.bodies_are place (entry_body e) (item_mapped entry_body entries place e at);
    };
  }

  -- and is closed behind them
  pub closed_of : AreClosed image (length entries) (places (length image))
  closed_of place late within = journal.closed place (omega (arith, count_of, late)) within

-- no journal has fewer entries than another of the same image
not_shorter : (x : Expanded) (image : List ℕ) (es fs : List Entry) → AreClosed image (length es) (places (length image)) → Begins x image fs → length es < length fs → ⊥
not_shorter x image es fs closed begins less = closed (length es) (omega arith) (omega (arith, less, begins.few)) (begins.opened (length es) less)

pub one_journal : BodiesAreDistinct → BodiesAreWhole → JournalsAreOne
one_journal distinct whole x image es fs admitted sized sized' one other =
    let begins = begun_of x image es sized one in
    let begins' = begun_of x image fs sized' other in
    elim (cases_order (length es) (length fs)) [
      | inl same ↦ first_entries distinct whole x image admitted es fs (omega (arith, same)) begins.each begins'.each ∙ take_all (length es) fs (omega (arith, same))
      | inr (inl less) ↦ absurd (not_shorter x image es fs (closed_of x image es sized one) begins' less)
      | inr (inr more) ↦ absurd (not_shorter x image fs es (closed_of x image fs sized' other) begins more)
    ]

-- with closed places behind a history no place is alien
pub all_native : BegunAreNative → (x : Expanded) (role : ℕ) (keys : List (List Value)) (image : List ℕ) (entries : List Entry) → IsAdmitted x → IsHistory x role keys entries → Begins x image entries → AreClosed image (length entries) (places (length image)) → (place : ℕ) → ¬ IsAlien x role keys image place
all_native law x role keys image entries admitted history begins closed place alien = elim (cases_lt place (length entries)) [
  | inl early ↦ law x role keys image entries admitted history begins place early alien
  | inr late ↦ closed place late alien.within alien.opened
]

pub histories_native : BegunAreNative → HistoriesAreNative
histories_native law x role keys image entries admitted history journal =
    all_native law x role keys image entries admitted history (begun_of x image entries history.sized journal) (closed_of x image entries history.sized journal)
