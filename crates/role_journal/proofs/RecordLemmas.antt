-- What each call does to a disk in memory.
use Rattle.std.proofs.Common.{◌≡◌, ℕ, ◌+◌, ◌-◌, ◌<◌, ◌≤◌, ◌⊎◌, inl, inr, Bool, true, false, List, [], ◌∷◌, ◌++◌, length, take, drop, replicate, refl, sym, ap, ◌∙◌, subst, arith, length-append, length-take, length-drop}
use Rattle.std.specs.Prelude.{slice_index}
use Rattle.std.proofs.lemmas.Bool.{cases_lt}
use Rattle.std.proofs.lemmas.Grind.{same_number_lists}
use Rattle.std.proofs.lemmas.List.{get_or-drop, get_or-take, get_or_past, length-replicate, take-append-le, take_all}
use Rattle.std.proofs.lemmas.List.Sums.{fold-append}
use Rattle.role_journal.specs.declared.recording.Call.{Call}
use Rattle.role_journal.specs.declared.recording.Call.TheVariants.{Sync, Write}
use Rattle.role_journal.specs.Crash.{Leaves, LeavesNoMore, LeavesTorn}
use Rattle.role_journal.specs.Image.{HasBytes, IsTorn}
use Rattle.role_journal.specs.Recording.{Content, IsOutside, Range, Record, Suits, content_after, content_of, filled, first_calls, loosened, patched, restarted, unsettled, with_call}
use Rattle.role_journal.specs.RecordLaws.{length-patched, patched_outside, seen_suits, sized}
use Rattle.role_journal.specs.inner.Steps.{IsSync, IsWrite, RecordStays, Restarts, TicksOn}
use Rattle.role_journal.proofs.PatchLemmas.{patched_has, patched_inside, patched_torn}

-- the content after one more call
pub content_more : (r : Record) (call : Call) → content_of (with_call r call) ≡ content_after (content_of r) call
content_more r call = fold-append content_after (record { seen = r.base; settled = r.base }) r.calls (call ∷ [])

-- the unsettled ranges after one more call
pub unsettled_more : (calls : List Call) (call : Call) → unsettled (calls ++ call ∷ []) ≡ loosened (unsettled calls) call
unsettled_more calls call = fold-append loosened [] calls (call ∷ [])

-- the first of the calls are the same with one more
first_same : (r : Record) (call : Call) (count : ℕ) → count ≤ length r.calls → first_calls count (with_call r call) ≡ first_calls count r
first_same r call count few = ap (λ (calls : List Call). let made : Record = record { base = r.base; calls = calls } in made) (take-append-le count r.calls (call ∷ []) few)

-- time passes with a call
pub ticks : (r : Record) (call : Call) → TicksOn r (with_call r call)
ticks r call = record {
  later = omega (arith, length-append r.calls (call ∷ []));
  soon = omega (arith, length-append r.calls (call ∷ []));
  kept = λ t c le since. record {
    count = since.count;
    late = since.late;
    within = omega (arith, since.within, length-append r.calls (call ∷ []));
    suits = subst (λ (s : Record). Suits s c) (sym (first_same r call since.count since.within)) since.suits;
  };
  nothing_else = λ t c le since. elim (cases_lt (length r.calls) since.count) [
    | inl past ↦
        let all : take since.count (r.calls ++ call ∷ []) ≡ r.calls ++ call ∷ [] = take_all since.count (r.calls ++ call ∷ []) (omega (arith, past, length-append r.calls (call ∷ []))) in
        inr (subst (λ (calls : List Call). Suits (record { base = r.base; calls = calls }) c) all since.suits)
    | inr within ↦ inl (record {
      count = since.count;
      late = since.late;
      within = within;
      suits = subst (λ (s : Record). Suits s c) (first_same r call since.count within) since.suits;
    })
  ];
}

-- and may pass without one
pub stands_still : (r : Record) → TicksOn r r
stands_still r = record { later = omega arith; soon = omega arith; kept = λ t c le since. since; nothing_else = λ t c le since. inl since }

-- a disk that is read holds what it held
pub stays_read : (r : Record) → RecordStays r r
stays_read r = record { same = refl; crash = λ c suits. suits; time = stands_still r }

-- a write that fails leaves what a read gives
write_failed : (r : Record) (at : ℕ) (bytes : List ℕ) → (content_of (with_call r (Write at bytes false))).seen ≡ (content_of r).seen
write_failed r at bytes = ap (λ (c : Content). c.seen) (content_more r (Write at bytes false))

-- one that succeeds puts its bytes
write_done : (r : Record) (at : ℕ) (bytes : List ℕ) → (content_of (with_call r (Write at bytes true))).seen ≡ patched (content_of r).seen at bytes
write_done r at bytes = ap (λ (c : Content). c.seen) (content_more r (Write at bytes true))

write_others : (r : Record) (at : ℕ) (bytes : List ℕ) (done : Bool) → IsTorn at (length bytes) (content_of r).seen (content_of (with_call r (Write at bytes done))).seen
write_others r at bytes true = subst (IsTorn at (length bytes) (content_of r).seen) (sym (write_done r at bytes)) (patched_torn (content_of r).seen at bytes)
write_others r at bytes false = subst (IsTorn at (length bytes) (content_of r).seen) (sym (write_failed r at bytes)) (record { size = refl; below = λ i below. refl; above = λ i above. refl })

-- neither settles anything
write_settles : (r : Record) (at : ℕ) (bytes : List ℕ) (done : Bool) → (content_of (with_call r (Write at bytes done))).settled ≡ (content_of r).settled
write_settles r at bytes true = ap (λ (c : Content). c.settled) (content_more r (Write at bytes true))
write_settles r at bytes false = ap (λ (c : Content). c.settled) (content_more r (Write at bytes false))

-- the bytes of an image in a range
abbrev part : List ℕ → ℕ → ℕ → List ℕ
part image at count = take count (drop at image)

-- such a byte, also past the end
part_at : (image : List ℕ) (at count k : ℕ) → k < count → slice_index (part image at count) k ≡ slice_index image (at + k)
part_at image at count k few = get_or-take count (drop at image) k 0 few ∙ get_or-drop at image k 0

-- with the settled bytes in the range of a write, an image that suits after it suits before
before_write : (r : Record) (at : ℕ) (bytes c : List ℕ) (done : Bool) → Suits (with_call r (Write at bytes done)) c → Suits r (patched c at (part (content_of r).settled at (length bytes)))
before_write r at bytes c done suits =
    let settled = (content_of r).settled in
    let old : List ℕ = part settled at (length bytes) in
    let size : length c ≡ length settled = suits.size ∙ sym (sized r).settled in
    record {
      size = length-patched c at old ∙ suits.size;
      settled = λ i outside. elim (cases_lt i at) [
        | inl below ↦ patched_outside c at old i (inl below) ∙ after i (inl below) outside
        | inr from ↦ elim (cases_lt i (at + length bytes)) [
          | inl inside ↦ within i from inside size outside
          | inr above ↦ patched_outside c at old i (inr (omega (arith, above, length-take (length bytes) (drop at settled)))) ∙ after i (inr above) outside
        ]
      ];
    }
  where
    after : (i : ℕ) → (i < at) ⊎ (at + length bytes ≤ i) → IsOutside (unsettled r.calls) i → slice_index c i ≡ slice_index (content_of r).settled i
    after i clear outside =
        suits.settled i (subst (λ (ranges : List Range). IsOutside ranges i) (sym (unsettled_more r.calls (Write at bytes done))) (clear, outside))
        ∙ ap (λ (image : List ℕ). slice_index image i) (write_settles r at bytes done)

    within : (i : ℕ) → at ≤ i → i < at + length bytes → length c ≡ length (content_of r).settled → IsOutside (unsettled r.calls) i → slice_index (patched c at (part (content_of r).settled at (length bytes))) i ≡ slice_index (content_of r).settled i
    within i from inside size outside =
        let settled = (content_of r).settled in
        let old : List ℕ = part settled at (length bytes) in
        let is : i ≡ at + (i - at) = omega arith in
        elim (cases_lt i (length c)) [
          | inl short ↦
              patched_inside c at old i (i - at) is (omega (arith, short, size, is, inside, length-take (length bytes) (drop at settled), length-drop at settled)) short
              ∙ part_at settled at (length bytes) (i - at) (omega (arith, is, inside)) ∙ ap (λ (j : ℕ). slice_index settled j) (sym is)
          | inr past ↦
              get_or_past (patched c at old) i 0 (omega (arith, past, length-patched c at old)) ∙ sym (get_or_past settled i 0 (omega (arith, past, size)))
        ]

write_crash : (r : Record) (at : ℕ) (bytes : List ℕ) (done : Bool) → LeavesTorn at (length bytes) (Suits r) (Suits (with_call r (Write at bytes done)))
write_crash r at bytes done = λ c suits.
    let old : List ℕ = part (content_of r).settled at (length bytes) in
    let count : length old ≤ length bytes = omega (arith, length-take (length bytes) (drop at (content_of r).settled)) in (
      patched c at old,
      before_write r at bytes c done suits,
      record {
        size = sym (length-patched c at old);
        below = λ i below. sym (patched_outside c at old i (inl below));
        above = λ i above. sym (patched_outside c at old i (inr (omega (arith, above, count))));
      },
    )

pub writes : (r : Record) (at : ℕ) (bytes : List ℕ) (done : Bool) → at + length bytes ≤ length (content_of r).seen → IsWrite r (with_call r (Write at bytes done)) at bytes done
writes r at bytes done within = record {
  bytes_are = λ is. subst (λ (d : Bool). HasBytes (content_of (with_call r (Write at bytes d))).seen at bytes) (sym is)
      (subst (λ (image : List ℕ). HasBytes image at bytes) (sym (write_done r at bytes)) (patched_has (content_of r).seen at bytes within));
  others = write_others r at bytes done;
  crash = write_crash r at bytes done;
  time = ticks r (Write at bytes done);
}

-- a sync leaves what a read gives
sync_seen : (r : Record) (done : Bool) → (content_of (with_call r (Sync done))).seen ≡ (content_of r).seen
sync_seen r true = ap (λ (c : Content). c.seen) (content_more r (Sync true))
sync_seen r false = ap (λ (c : Content). c.seen) (content_more r (Sync false))

-- where nothing is unsettled, a crash leaves what was settled
pub only_settled : (r : Record) (c : List ℕ) → unsettled r.calls ≡ [] → Suits r c → c ≡ (content_of r).settled
only_settled r c none suits =
    same_number_lists c (content_of r).settled (suits.size ∙ sym (sized r).settled) (λ i within. suits.settled i (subst (λ (ranges : List Range). IsOutside ranges i) (sym none) tt))

sync_durable : (r : Record) → Leaves (content_of (with_call r (Sync true))).seen (Suits (with_call r (Sync true)))
sync_durable r = λ c suits.
    let same : (content_of (with_call r (Sync true))).settled ≡ (content_of (with_call r (Sync true))).seen =
    ap (λ (d : Content). d.settled) (content_more r (Sync true)) ∙ sym (sync_seen r true) in
    only_settled (with_call r (Sync true)) c (unsettled_more r.calls (Sync true)) suits ∙ same

sync_crash : (r : Record) (done : Bool) → LeavesNoMore (Suits r) (Suits (with_call r (Sync done)))
sync_crash r true = λ c suits.
    let is : c ≡ (content_of r).seen = sync_durable r c suits ∙ sync_seen r true in
    subst (Suits r) (sym is) (seen_suits r)
sync_crash r false = λ c suits. record {
  size = suits.size;
  settled = λ i outside.
      suits.settled i (subst (λ (ranges : List Range). IsOutside ranges i) (sym (unsettled_more r.calls (Sync false))) outside)
      ∙ ap (λ (d : Content). slice_index d.settled i) (content_more r (Sync false));
}

pub syncs : (r : Record) (done : Bool) → IsSync r (with_call r (Sync done)) done
syncs r done = record {
  durable = λ is. subst (λ (d : Bool). Leaves (content_of (with_call r (Sync d))).seen (Suits (with_call r (Sync d)))) (sym is) (sync_durable r);
  stays = record { same = sync_seen r done; crash = sync_crash r done; time = ticks r (Sync done) };
}

-- what is filled keeps its size
pub length-filled : (image : List ℕ) (ranges : List Range) (byte : ℕ) → length (filled image ranges byte) ≡ length image
length-filled image [] byte = refl
length-filled image (range ∷ ranges) byte = length-filled (patched image range.0 (replicate range.1 byte)) ranges byte ∙ length-patched image range.0 (replicate range.1 byte)

-- and its bytes outside the ranges
filled_outside : (image : List ℕ) (ranges : List Range) (byte i : ℕ) → IsOutside ranges i → slice_index (filled image ranges byte) i ≡ slice_index image i
filled_outside image [] byte i outside = refl
filled_outside image (range ∷ ranges) byte i outside =
    let clear : (i < range.0) ⊎ (range.0 + length (replicate range.1 byte) ≤ i) = subst (λ (n : ℕ). (i < range.0) ⊎ (range.0 + n ≤ i)) (sym (length-replicate range.1 byte)) outside.0 in
    filled_outside (patched image range.0 (replicate range.1 byte)) ranges byte i outside.1 ∙ patched_outside image range.0 (replicate range.1 byte) i clear

pub restarts : (r : Record) (byte : ℕ) → Restarts r (restarted r byte)
restarts r byte = record {
  image = record {
    size = length-filled (content_of r).seen (unsettled r.calls) byte ∙ (sized r).seen;
    settled = λ i outside. filled_outside (content_of r).seen (unsettled r.calls) byte i outside ∙ (seen_suits r).settled i outside;
  };
  size = length-filled (content_of r).seen (unsettled r.calls) byte;
  settled = λ c suits. only_settled (restarted r byte) c refl suits;
  clock = refl;
}

-- so does a record of these calls
pub writes_to : (r : Record) (calls : List Call) (at : ℕ) (copy bytes : List ℕ) (done : Bool) → calls ≡ r.calls ++ Write at copy done ∷ [] → copy ≡ bytes → at + length bytes ≤ length (content_of r).seen → IsWrite r (record { base = r.base; calls = calls }) at bytes done
writes_to r calls at copy bytes done is same within =
    subst (λ (cs : List Call). IsWrite r (record { base = r.base; calls = cs }) at bytes done) (sym (is ∙ ap (λ (b : List ℕ). r.calls ++ Write at b done ∷ []) same)) (writes r at bytes done within)

pub syncs_to : (r : Record) (calls : List Call) (done : Bool) → calls ≡ r.calls ++ Sync done ∷ [] → IsSync r (record { base = r.base; calls = calls }) done
syncs_to r calls done is = subst (λ (cs : List Call). IsSync r (record { base = r.base; calls = cs }) done) (sym is) (syncs r done)
