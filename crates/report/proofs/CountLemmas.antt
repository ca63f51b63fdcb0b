-- Counts that grow by events.
use Rattle.std.proofs.Common.{◌≡◌, ◌≢◌, ℕ, ◌+◌, ◌*◌, ◌<◌, ◌≤◌, ◌⊎◌, inl, inr, zero, suc, Bool, cond, Some, List, [], ◌∷◌, ◌++◌, length, take, set, refl, sym, ap, ◌∙◌, subst, arith, get_or-set_same, get_or-set_other, map}
use Rattle.std.specs.Prelude.{◌==◌, slice_get}
use Rattle.std.specs.List.{count_by}
use Rattle.std.proofs.lemmas.Bool.{cases_eq, cases_lt}
use Rattle.std.proofs.lemmas.Bool.Decides.{nat_tests}
use Rattle.std.proofs.lemmas.List.{get_or-replicate, get_or_past, length-replicate, length-set, take_more}
use Rattle.std.proofs.lemmas.List.Sums.{count_by-le-length, sum_by-append, sum_by-cons}
use Rattle.std.proofs.lemmas.Option.{get_or_from_slice_get, same_Some, slice_get_within}
use Rattle.bspl_types.specs.declared.event.Event.{Event}
use Rattle.bspl_types.specs.declared.event.Event.TheVariants.{Emit, Receive}
use Rattle.bspl_types.specs.declared.event.Instance.{Instance}
use Rattle.bspl_types.specs.Limits.{message_limit}
use Rattle.local_store.specs.declared.act.Kind.{Kind}
use Rattle.local_store.specs.Outline.{outline_of, outlines}
use Rattle.local_store.specs.State.{StoreState, acts_of}
use Rattle.stamped_history.specs.declared.entry.Entry.{Entry}
use Rattle.report.specs.declared.count.Count.{Count}
use Rattle.report.specs.WorldText.{receives, sends}
use Rattle.report.specs.WorldCounts.{count_of_message, no_count}
use Rattle.report.specs.inner.Counts.{GrowBy, HaveRoom, no_counts}

-- of one item, one passes or none
count_one : {X : Type 0} (p : X → Bool) (x : X) → count_by p (x ∷ []) ≡ cond (p x) 1 0
count_one p x = let cons = sum_by-cons (λ y. cond (p y) 1 0) x [] in omega arith

-- the items of two lists that pass
pub count_append : {X : Type 0} (p : X → Bool) (xs ys : List X) → count_by p (xs ++ ys) ≡ count_by p xs + count_by p ys
count_append p xs ys = sum_by-append (λ x. cond (p x) 1 0) xs ys

-- an emission is one of its message
sent_one : (i : Instance) (m : ℕ) → m ≡ i.message → count_by (sends m) (Emit i ∷ []) ≡ 1
sent_one i m same =
    let one : cond (i.message == m) 1 0 ≡ 1 = grind (arith, nat_tests) in
    count_one (sends m) (Emit i) ∙ one

-- and none of another
sent_none : (i : Instance) (m : ℕ) → m ≢ i.message → count_by (sends m) (Emit i ∷ []) ≡ 0
sent_none i m differs =
    let none : cond (i.message == m) 1 0 ≡ 0 = grind (arith, nat_tests) in
    count_one (sends m) (Emit i) ∙ none

-- a receipt is one of its message
received_one : (i : Instance) (m : ℕ) → m ≡ i.message → count_by (receives m) (Receive i ∷ []) ≡ 1
received_one i m same =
    let one : cond (i.message == m) 1 0 ≡ 1 = grind (arith, nat_tests) in
    count_one (receives m) (Receive i) ∙ one

-- and none of another
received_none : (i : Instance) (m : ℕ) → m ≢ i.message → count_by (receives m) (Receive i ∷ []) ≡ 0
received_none i m differs =
    let none : cond (i.message == m) 1 0 ≡ 0 = grind (arith, nat_tests) in
    count_one (receives m) (Receive i) ∙ none

-- the events raise the counts of message m to those of c
record Raises (events : List Event) (m : ℕ) (old c : Count) : Type 0 where
  sent : c.sent ≡ old.sent + count_by (sends m) events
  received : c.received ≡ old.received + count_by (receives m) events

-- counts that are raised one by one grow
raised_grow : (events : List Event) (old new : List Count) → length new ≡ length old → ((m : ℕ) → m < length old → Raises events m (count_of_message old m) (count_of_message new m)) → GrowBy events old new
raised_grow events old new as_many each =
    record {
      as_many = as_many;
      sent = λ m within. (each m within).sent;
      received = λ m within. (each m within).received;
    }

-- the count of one message is replaced by a raised one, and the others count no event
replaced_grow : (events : List Event) (old : List Count) (at : ℕ) (c : Count) → at < length old → Raises events at (count_of_message old at) c → ((m : ℕ) → m ≢ at → Raises events m (count_of_message old m) (count_of_message old m)) → GrowBy events old (set old at c)
replaced_grow events old at c inside raises others = raised_grow events old (set old at c) (length-set old at c) (λ m within. elim (cases_eq m at) [
  | inl same ↦
      subst (λ (k : ℕ). Raises events k (count_of_message old k) (count_of_message (set old at c) k)) (sym same)
      (subst (Raises events at (count_of_message old at)) (sym (get_or-set_same old at c no_count inside)) raises)
  | inr differs ↦ subst (Raises events m (count_of_message old m)) (sym (get_or-set_other old at m c no_count differs)) (others m differs)
])

-- an emission raises no count of another message
emit_elsewhere : (i : Instance) (m : ℕ) (old : Count) → m ≢ i.message → Raises (Emit i ∷ []) m old old
emit_elsewhere i m old differs = record { sent = omega (arith, sent_none i m differs); received = omega (arith, count_one (receives m) (Emit i)) }

-- nor does a receipt
receive_elsewhere : (i : Instance) (m : ℕ) (old : Count) → m ≢ i.message → Raises (Receive i ∷ []) m old old
receive_elsewhere i m old differs = record { sent = omega (arith, count_one (sends m) (Receive i)); received = omega (arith, received_none i m differs) }

-- one emission more is counted
pub emission_grows : (i : Instance) (old : List Count) (c : Count) → i.message < length old → c.sent ≡ (count_of_message old i.message).sent + 1 → c.received ≡ (count_of_message old i.message).received → GrowBy (Emit i ∷ []) old (set old i.message c)
emission_grows i old c inside sent received =
    replaced_grow (Emit i ∷ []) old i.message c inside
    (record { sent = omega (arith, sent, sent_one i i.message refl); received = omega (arith, received, count_one (receives i.message) (Emit i)) })
    (λ m differs. emit_elsewhere i m (count_of_message old m) differs)

-- one receipt more is counted
pub receipt_grows : (i : Instance) (old : List Count) (c : Count) → i.message < length old → c.sent ≡ (count_of_message old i.message).sent → c.received ≡ (count_of_message old i.message).received + 1 → GrowBy (Receive i ∷ []) old (set old i.message c)
receipt_grows i old c inside sent received =
    replaced_grow (Receive i ∷ []) old i.message c inside
    (record { sent = omega (arith, sent, count_one (sends i.message) (Receive i)); received = omega (arith, received, received_one i i.message refl) })
    (λ m differs. receive_elsewhere i m (count_of_message old m) differs)

-- an emission of a message past the last count is none of theirs
pub emission_past : (i : Instance) (old : List Count) → length old ≤ i.message → GrowBy (Emit i ∷ []) old old
emission_past i old past = raised_grow (Emit i ∷ []) old old refl (λ m within. emit_elsewhere i m (count_of_message old m) (λ same. omega (arith, same, within, past)))

-- nor is such a receipt
pub receipt_past : (i : Instance) (old : List Count) → length old ≤ i.message → GrowBy (Receive i ∷ []) old old
receipt_past i old past = raised_grow (Receive i ∷ []) old old refl (λ m within. receive_elsewhere i m (count_of_message old m) (λ same. omega (arith, same, within, past)))

-- no event leaves the counts as they are
pub none_grow : (old : List Count) → GrowBy [] old old
none_grow old = record { as_many = refl; sent = λ m within. omega arith; received = λ m within. omega arith }

-- some events, and then others
pub both_grow : (one other : List Event) (old middle new : List Count) → GrowBy one old middle → GrowBy other middle new → GrowBy (one ++ other) old new
both_grow one other old middle new first second =
    record {
      as_many = second.as_many ∙ first.as_many;
      sent = λ m within. omega (arith, first.sent m within, second.sent m (omega (arith, within, first.as_many)), count_append (sends m) one other);
      received = λ m within. omega (arith, first.received m within, second.received m (omega (arith, within, first.as_many)), count_append (receives m) one other);
    }

-- after some events from low counts, one more can be counted
pub room_for_one : (events : List Event) (old new : List Count) → HaveRoom 4294967295 old → GrowBy events old new → length events < 4294967295 → HaveRoom 1 new
room_for_one events old new room grown few =
    let inside : (m : ℕ) → (m < length old) ⊎ (length old ≤ m) = λ m. cases_lt m (length old) in
    record {
      sent = λ m. elim (inside m) [
        | inl within ↦ omega (arith, grown.sent m within, room.sent m, count_by-le-length (sends m) events, few)
        | inr past ↦ let none = ap (λ (c : Count). c.sent) (get_or_past new m no_count (omega (arith, past, grown.as_many))) in omega (arith, none)
      ];
      received = λ m. elim (inside m) [
        | inl within ↦ omega (arith, grown.received m within, room.received m, count_by-le-length (receives m) events, few)
        | inr past ↦ let none = ap (λ (c : Count). c.received) (get_or_past new m no_count (omega (arith, past, grown.as_many))) in omega (arith, none)
      ];
    }

-- nothing is counted at first
pub nothing_counted : (m : ℕ) → count_of_message no_counts m ≡ no_count
nothing_counted m = elim (cases_lt m message_limit) [
  | inl within ↦ get_or-replicate message_limit m no_count no_count within
  | inr past ↦ get_or_past no_counts m no_count (omega (arith, past, length-replicate message_limit no_count))
]

-- after the events of some roles, those of a store can be counted
pub room_for_store : (events : List Event) (counts : List Count) (roles : ℕ) → GrowBy events no_counts counts → length events ≤ roles * 4294967295 → roles < 4294967296 → HaveRoom 4294967295 counts
room_for_store events counts roles grown few low =
    let inside : (m : ℕ) → (m < length no_counts) ⊎ (length no_counts ≤ m) = λ m. cases_lt m (length no_counts) in
    record {
      sent = λ m. elim (inside m) [
        | inl within ↦
            let none = ap (λ (c : Count). c.sent) (nothing_counted m) in
            omega (arith, grown.sent m within, none, count_by-le-length (sends m) events, few, low)
        | inr past ↦ let none = ap (λ (c : Count). c.sent) (get_or_past counts m no_count (omega (arith, past, grown.as_many))) in omega (arith, none)
      ];
      received = λ m. elim (inside m) [
        | inl within ↦
            let none = ap (λ (c : Count). c.received) (nothing_counted m) in
            omega (arith, grown.received m within, none, count_by-le-length (receives m) events, few, low)
        | inr past ↦ let none = ap (λ (c : Count). c.received) (get_or_past counts m no_count (omega (arith, past, grown.as_many))) in omega (arith, none)
      ];
    }

-- the events of the entries, with one of that outline at the index
entries_more : (entries : List Entry) (i : ℕ) (outline : Kind × ℕ) → slice_get {X = Kind × ℕ} (map (λ e. outline_of e.event) entries) i ≡ Some outline → (event : Event) × (outline_of event ≡ outline) × (slice_get (map (λ e. e.event) entries) i ≡ Some event)
entries_more [] i outline at = absurd (cc)
entries_more (e ∷ entries) zero outline at = (e.event, same_Some (outline_of e.event) outline at, refl)
entries_more (e ∷ entries) (suc i) outline at = entries_more entries i outline at

-- the events of a store, with one of that outline at the index
pub acts_more : (s : StoreState) (i : ℕ) (outline : Kind × ℕ) → slice_get {X = Kind × ℕ} (outlines s) i ≡ Some outline → (event : Event) × (outline_of event ≡ outline) × (take (i + 1) (acts_of s) ≡ take i (acts_of s) ++ event ∷ [])
acts_more s i outline at =
    let more = entries_more s.entries i outline at in
    let event : Event = more.0 in
    let here : slice_get (acts_of s) i ≡ Some event = more.2 in
    let within : i < length (acts_of s) = slice_get_within (acts_of s) i event here in (
      event,
      more.1,
      take_more (acts_of s) i event within ∙ ap (λ (e : Event). take i (acts_of s) ++ e ∷ []) (get_or_from_slice_get (acts_of s) i event event here),
    )
