-- In histories that a run explains each event may happen, and no receipts wait in a circle.
use Rattle.std.proofs.Common.{◌≡◌, ◌≢◌, ℕ, zero, suc, ◌+◌, ◌<◌, ◌≤◌, true, List, [], ◌∷◌, length, take, drop, Some, inl, inr, refl, sym, ap, ◌∙◌, subst, arith, Contains}
use Rattle.std.specs.Prelude.{◌==◌, ◌⊎◌, Bool, slice_get}
use Rattle.std.specs.List.{filter}
use Rattle.std.proofs.lemmas.Bool.{cases_lt}
use Rattle.std.proofs.lemmas.Bool.Decides.{Decides-eqb}
use Rattle.std.proofs.lemmas.List.{take_at, take-append-drop}
use Rattle.std.proofs.lemmas.List.Elements.{filter-append}
use Rattle.std.proofs.lemmas.Option.{same_Some}
use Rattle.list_base.proofs.Filtered.{filtered_index, FoundAt, unfiltered_index, unfiltered_order}
use Rattle.list_base.proofs.Members.{cons_cases, here, nowhere, there}
use Rattle.list_base.proofs.Membership.{early_index, member_at}
use Rattle.bspl_types.specs.declared.event.Event.{Event}
use Rattle.bspl_types.specs.declared.event.Event.TheVariants.{Emit, Receive}
use Rattle.bspl_types.specs.declared.expanded.Expanded.{Expanded}
use Rattle.bspl_types.specs.Expansion.{message_of}
use Rattle.bspl_types.specs.History.{history_of, role_of}
use Rattle.bspl_types.specs.Knowledge.{IsEnabled}
use Rattle.enactment_model.specs.declared.bad_event.Why.{Why}
use Rattle.enactment_model.specs.Laws.{LegalByPositions}
use Rattle.enactment_model.specs.Legal.{MayFollow}
use Rattle.history_audit.specs.declared.audit_no.Point.{Point}
use Rattle.history_audit.specs.Audit.{BadPlaceIsNotExplained, CycleIsNotExplained, HasNoExplanation, IsAuditFault}
use Rattle.history_audit.specs.declared.audit_no.AuditNo.{AuditNo}
use Rattle.history_audit.specs.declared.audit_no.AuditNo.TheVariants.{Bad, Cycle, NoMemory}
use Rattle.history_audit.specs.BadPlace.{IsFirstBadPlace, MayHappen}
use Rattle.history_audit.specs.Cycle.{IsCycle, WaitInTurn, WaitsBehind}
use Rattle.history_audit.specs.Histories.{Explains, events_at}

-- the events of a prefix that pass a test come first among all that pass
filter_front : {X : Type 0} (test : X → Bool) (xs : List X) (n : ℕ) → filter test (take n xs) ≡ take (length (filter test (take n xs))) (filter test xs)
filter_front {X} test xs n =
    sym (take_at (filter test (take n xs)) (filter test (drop n xs)) (length (filter test (take n xs))) refl)
    ∙ ap (take (length (filter test (take n xs)))) (sym (filter-append test (take n xs) (drop n xs)) ∙ ap (filter test) (take-append-drop n xs))

-- the test of a role
abbrev is_of : Expanded → ℕ → Event → Bool
is_of x role e = role_of x e == role

-- an event of the role passes it
passes_own : (x : Expanded) (role : ℕ) (e : Event) → role_of x e ≡ role → is_of x role e ≡ true
passes_own x role e own = (Decides-eqb (role_of x e) role).1 own

-- the event at the position of the run is the one at the point
record IsPosition (x : Expanded) (run : List Event) (p : Point) (t : ℕ) : Type 0 where
  event : Event
  at : slice_get run t ≡ Some event
  own : role_of x event ≡ p.role
  count : length (history_of x p.role (take t run)) + 1 ≡ p.place

module _ (law : LegalByPositions) (x : Expanded) (histories : List (List Event)) (run : List Event) (explains : Explains x run histories) where
  -- where the event of a place is in the run
  found_at : (role k : ℕ) (e : Event) → slice_get (events_at histories role) k ≡ Some e → FoundAt (is_of x role) run k e
  found_at role k e at = unfiltered_index (is_of x role) run k e (ap (λ (es : List Event). slice_get es k) (explains.each role) ∙ at)

  -- the place of an event of the run
  place_of : (role s : ℕ) (e : Event) → slice_get run s ≡ Some e → role_of x e ≡ role → slice_get (events_at histories role) (length (history_of x role (take s run))) ≡ Some e
  place_of role s e at own = sym (ap (λ (es : List Event). slice_get es (length (history_of x role (take s run)))) (explains.each role)) ∙ filtered_index (is_of x role) run s e at (passes_own x role e own)

  -- it may follow those before it
  follows : (s : ℕ) (e : Event) → slice_get run s ≡ Some e → MayFollow x (take s run) e
  follows s e at = (law x run).0 explains.legal.legal s e at

  -- what may follow may happen
  happens : (role k : ℕ) (e : Event) → (found : FoundAt (is_of x role) run k e) → role_of x e ≡ role → MayFollow x (take found.index run) e → MayHappen x histories (take k (events_at histories role)) e
  happens role k (Emit i) found own enabled =
      let front : history_of x role (take found.index run) ≡ take k (events_at histories role) =
      filter_front (is_of x role) run found.index ∙ ap (λ n. take n (history_of x role run)) found.count ∙ ap (take k) (explains.each role) in
      subst (λ es. IsEnabled x es i) front (subst (λ r. IsEnabled x (history_of x r (take found.index run)) i) own enabled)
  happens role k (Receive i) found own emitted =
      let sender : ℕ = (message_of x i.message).sender in
      let (s, before, at) = early_index run found.index (Emit i) emitted in
      member_at (events_at histories sender) (length (history_of x sender (take s run))) (Emit i) (place_of sender s (Emit i) at refl)

  -- each event of each history may happen
  pub explained_may : (role k : ℕ) (e : Event) → slice_get (events_at histories role) k ≡ Some e → MayHappen x histories (take k (events_at histories role)) e
  explained_may role k e at =
      let found = found_at role k e at in
      happens role k e found ((Decides-eqb (role_of x e) role).0 found.passes) (follows found.index e found.at)

  module _ (points : List Point) (next : (p : Point) → Contains points p → (q : Point) × Contains points q × WaitsBehind x histories p q) where
    -- the point that waits has a position
    position_of : (p q : Point) → WaitsBehind x histories p q → (t : ℕ) × IsPosition x run p t
    position_of p q waits =
        let found = found_at p.role waits.receipt.index (Receive waits.instance) waits.receipt.at in
        (found.index, record { event = Receive waits.instance; at = found.at; own = (Decides-eqb (role_of x (Receive waits.instance)) p.role).0 found.passes; count = omega (arith, found.count, waits.receipt.place_is) })

    -- it comes later than that of the next point
    earlier : (p q : Point) (t : ℕ) → WaitsBehind x histories p q → IsPosition x run p t → (r : Point) → WaitsBehind x histories q r → (s : ℕ) × (s < t) × IsPosition x run q s
    earlier p q t waits position r after =
        let place : slice_get (events_at histories p.role) waits.receipt.index ≡ Some position.event =
        subst (λ n. slice_get (events_at histories p.role) n ≡ Some position.event) (omega (arith, position.count, waits.receipt.place_is)) (place_of p.role t position.event position.at position.own) in
        let is_receipt : position.event ≡ Receive waits.instance = same_Some position.event (Receive waits.instance) (sym place ∙ waits.receipt.at) in
        let emitted : Contains (take t run) (Emit waits.instance) = subst (MayFollow x (take t run)) is_receipt (follows t position.event position.at) in
        let (s, before, at) = early_index run t (Emit waits.instance) emitted in
        let m : ℕ = length (history_of x q.role (take s run)) in
        let there_at : slice_get (events_at histories q.role) m ≡ Some (Emit waits.instance) = place_of q.role s (Emit waits.instance) at waits.sender in
        let late : waits.awaited ≤ m = elim (cases_lt m waits.awaited) [ inl early ↦ absurd (waits.first.none_before m early there_at) | inr more ↦ omega (arith, more) ] in
        let own_place = found_at q.role after.receipt.index (Receive after.instance) after.receipt.at in
        let emission : FoundAt (is_of x q.role) run m (Emit waits.instance) = record { index = s; at = at; passes = passes_own x q.role (Emit waits.instance) waits.sender; count = refl } in
        let in_order : own_place.index < s = unfiltered_order (is_of x q.role) run after.receipt.index m (Receive after.instance) (Emit waits.instance) own_place emission (omega (arith, late, waits.after, after.receipt.place_is)) in
        (own_place.index, omega (arith, in_order, before), record { event = Receive after.instance; at = own_place.at; own = (Decides-eqb (role_of x (Receive after.instance)) q.role).0 own_place.passes; count = omega (arith, own_place.count, after.receipt.place_is) })

    -- so no point has a position
    nowhere_in_run : (n t : ℕ) (p : Point) → Contains points p → t < n → IsPosition x run p t → ⊥
    nowhere_in_run zero t p among less position = absurd (omega (arith, less))
    nowhere_in_run (suc n) t p among less position =
        let (q, among_q, waits) = next p among in
        let (r, _, after) = next q among_q in
        let (s, before, place) = earlier p q t waits position r after in
        nowhere_in_run n s q among_q (omega (arith, before, less)) place

    -- and there is none
    pub no_point : (p : Point) → Contains points p → ⊥
    no_point p among =
        let (q, _, waits) = next p among in
        let (t, position) = position_of p q waits in
        nowhere_in_run (t + 1) t p among (omega arith) position

-- each point that waits in turn waits behind one of them, or behind the end
next_in_turn : (x : Expanded) (histories : List (List Event)) (points : List Point) (end p : Point) → WaitInTurn x histories points end → Contains points p → (q : Point) × (Contains points q ⊎ (end ≡ q)) × WaitsBehind x histories p q
next_in_turn x histories [] end p in_turn among = absurd (nowhere p among)
next_in_turn x histories (first ∷ []) end p in_turn among = elim (cons_cases first [] p among) [
  | inl is ↦ (end, inr refl, subst (λ r. WaitsBehind x histories r end) is in_turn.0)
  | inr none ↦ absurd (nowhere p none)
]
next_in_turn x histories (first ∷ (second ∷ points)) end p in_turn among = elim (cons_cases first (second ∷ points) p among) [
  | inl is ↦ (second, inl (there first (second ∷ points) second (here second points)), subst (λ r. WaitsBehind x histories r second) is in_turn.0)
  | inr later ↦
      let (q, member, waits) = next_in_turn x histories (second ∷ points) end p in_turn.1 later in
      (q, elim member [ inl among_q ↦ inl (there first (second ∷ points) q among_q) | inr is_end ↦ inr is_end ], waits)
]

-- a bad place is not explained
pub bad_unexplained : LegalByPositions → (x : Expanded) (histories : List (List Event)) (role place : ℕ) (why : Why) → IsFirstBadPlace x histories role place why → HasNoExplanation x histories
bad_unexplained law x histories role place why bad run explains = bad.bad.bad (explained_may law x histories run explains role bad.index bad.bad.event bad.bad.at)

-- nor is a cycle
pub cycle_unexplained : LegalByPositions → (x : Expanded) (histories : List (List Event)) (points : List Point) → IsCycle x histories points → HasNoExplanation x histories
cycle_unexplained law x histories points cycle run explains =
    let among : Contains points cycle.first = subst (λ ps. Contains ps cycle.first) (sym cycle.split) (here cycle.first cycle.others) in
    no_point law x histories run explains points
    (λ p member.
    let (q, where_q, waits) = next_in_turn x histories points cycle.first p cycle.in_turn member in
    (q, elim where_q [ inl inside ↦ inside | inr is ↦ subst (Contains points) is among ], waits))
    cycle.first among

-- so it is with each fault
pub fault_unexplained : BadPlaceIsNotExplained → CycleIsNotExplained → (x : Expanded) (histories : List (List Event)) (no : AuditNo) → IsAuditFault x histories no → no ≢ NoMemory → HasNoExplanation x histories
fault_unexplained bad cycle x histories (Bad role place why) fault some = bad x histories role place why fault
fault_unexplained bad cycle x histories (Cycle points) fault some = cycle x histories points fault.cycle
fault_unexplained bad cycle x histories NoMemory fault some = absurd (some refl)
