-- Counts of all events, and of known parameters, that grow one at a time.
use Rattle.std.proofs.Common.{◌≡◌, ℕ, ◌+◌, ◌*◌, ◌-◌, ◌<◌, ◌≤◌, Bool, true, false, cond, Option, Some, List, [], ◌∷◌, ◌++◌, length, take, refl, sym, subst, arith}
use Rattle.std.specs.Prelude.{is_some, slice_get}
use Rattle.std.specs.Int.{from_bool}
use Rattle.std.proofs.lemmas.List.Sums.{count_by-le-length, sum_by_push}
use Rattle.std.proofs.lemmas.Option.{get_or_from_slice_get, slice_get_within}
use Rattle.list_base.proofs.Zipped.{paired_push}
use Rattle.bspl_types.specs.declared.event.Event.{Event}
use Rattle.bspl_types.specs.declared.expanded.Expanded.{Expanded}
use Rattle.bspl_types.specs.declared.value.Value.{Value}
use Rattle.stamped_history.specs.TableValue.{IsTableValue}
use Rattle.report.specs.declared.count.Count.{Count}
use Rattle.report.specs.Summary.{KnowsAsMany, is_emission, is_reception}
use Rattle.report.specs.WorldCounts.{no_count}
use Rattle.report.specs.inner.Totals.{GrowsBy, HasRoom, KnowsFirst, KnowsUnder}
use Rattle.report.proofs.CountLemmas.{count_append}
use Rattle.report.proofs.RowLemmas.{cells_none, cells_push}

-- no event leaves the count as it is
pub grows_none : (c : Count) → GrowsBy [] c c
grows_none c = record { sent = omega arith; received = omega arith }

-- some events, and then others
pub grows_both : (one other : List Event) (old middle new : Count) → GrowsBy one old middle → GrowsBy other middle new → GrowsBy (one ++ other) old new
grows_both one other old middle new first second =
    record {
      sent = omega (arith, first.sent, second.sent, count_append is_emission one other);
      received = omega (arith, first.received, second.received, count_append is_reception one other);
    }

-- after some events from a low count, one more can be counted
pub room_for_event : (events : List Event) (old new : Count) → HasRoom 4294967295 old → GrowsBy events old new → length events < 4294967295 → HasRoom 1 new
room_for_event events old new room grown few =
    record {
      sent = omega (arith, room.sent, grown.sent, count_by-le-length is_emission events, few);
      received = omega (arith, room.received, grown.received, count_by-le-length is_reception events, few);
    }

-- after the events of some roles, those of a store can be counted
pub room_for_desk : (events : List Event) (total : Count) (roles : ℕ) → GrowsBy events no_count total → length events ≤ roles * 4294967295 → roles < 4294967296 → HasRoom 4294967295 total
room_for_desk events total roles grown few low =
    record {
      sent = omega (arith, grown.sent, count_by-le-length is_emission events, few, low);
      received = omega (arith, grown.received, count_by-le-length is_reception events, few, low);
    }

-- no parameter is counted yet
pub knows_none : (x : Expanded) (run : List Event) (key : List Value) → KnowsFirst x run key 0 0
knows_none x run key = record { cells = []; are = cells_none x run key; many = omega arith }

-- a number for a test is 1 or 0
pub test_counts : (b : Bool) → from_bool b ≡ cond b 1 0
test_counts true = refl
test_counts false = refl

-- one parameter is counted once at most
pub at_most_one : (b : Bool) → cond b 1 0 ≤ 1
at_most_one true = omega arith
at_most_one false = omega arith

-- one parameter more
pub knows_push : (x : Expanded) (run : List Event) (key : List Value) (params n : ℕ) (cell : Option Value) → KnowsFirst x run key params n → IsTableValue x run key params cell → KnowsFirst x run key (params + 1) (n + cond (is_some cell) 1 0)
knows_push x run key params n cell old is =
    record {
      cells = old.cells ++ cell ∷ [];
      are = cells_push x run key params old.cells (old.cells ++ cell ∷ []) cell old.are is refl;
      many = omega (arith, old.many, count_append is_some old.cells (cell ∷ []));
    }

-- all parameters
pub knows_all : (x : Expanded) (run : List Event) (key : List Value) (n : ℕ) → KnowsFirst x run key (length x.params) n → KnowsAsMany x run key n
knows_all x run key n first = (first.cells, first.are, first.many)

-- no key is counted yet
pub under_none : (x : Expanded) (run : List Event) → KnowsUnder x run [] 0
under_none x run = record { known = []; each = tt; total = refl }

-- one key more
pub under_push : (x : Expanded) (run : List Event) (keys : List (List Value)) (index : ℕ) (key : List Value) (before n : ℕ) → slice_get keys ((index + 1) - 1) ≡ Some key → KnowsUnder x run (take index keys) before → KnowsAsMany x run key n → KnowsUnder x run (take (index + 1) keys) (before + n)
under_push x run keys index key before n at old knows =
    let index_is : (index + 1) - 1 ≡ index = omega arith in
    let here : slice_get keys index ≡ Some key = subst (λ (i : ℕ). slice_get keys i ≡ Some key) index_is at in
    let inside : index < length keys = slice_get_within keys index key here in
    record {
      known = old.known ++ n ∷ [];
      each = paired_push (KnowsAsMany x run) keys old.known index key n inside (sym (get_or_from_slice_get keys index key key here)) old.each knows;
      total = omega (arith, old.total, sum_by_push (λ (m : ℕ). m) old.known n);
    }
