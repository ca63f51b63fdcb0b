-- In an admitted protocol one event is the first bad one, for one reason.
use Rattle.std.proofs.Common.{◌≡◌, ◌≢◌, ℕ, ◌+◌, List, [], ◌∷◌, ◌++◌, length, drop, get_or, ◌⊎◌, inl, inr, refl, sym, ap, ◌∙◌, subst}
use Rattle.std.specs.List.{All, Contains}
use Rattle.std.proofs.lemmas.List.{append-nil, append_assoc}
use Rattle.std.proofs.lemmas.List.Elements.{All-contains, Contains-append_left, Contains-append_right}
use Rattle.list_base.proofs.Members.{here}
use Rattle.bspl_types.specs.declared.event.Event.{Event}
use Rattle.bspl_types.specs.declared.event.Event.TheVariants.{Emit, Receive}
use Rattle.bspl_types.specs.declared.event.Instance.{Instance}
use Rattle.bspl_types.specs.declared.expanded.Expanded.{Expanded}
use Rattle.bspl_types.specs.declared.protocol.Adornment.{Adornment}
use Rattle.bspl_types.specs.declared.protocol.Adornment.TheVariants.{In, Out, Nil}
use Rattle.bspl_types.specs.declared.protocol.Carried.{Carried}
use Rattle.bspl_types.specs.declared.value.Value.{Value}
use Rattle.bspl_types.specs.Admission.{IsAdmitted}
use Rattle.bspl_types.specs.Expansion.{message_of}
use Rattle.bspl_types.specs.Knowledge.{CanEmit, IsEnabled, IsKnown}
use Rattle.bspl_types.specs.History.{sender_history}
use Rattle.role_knowledge.specs.Blocked.{IsPermitted, Permits}
use Rattle.role_knowledge.specs.FirstKnown.{IsFirstKnown}
use Rattle.role_knowledge.specs.Laws.{FirstKnownIsOne}
use Rattle.enactment_model.specs.declared.bad_event.BadEvent.{BadEvent}
use Rattle.enactment_model.specs.declared.bad_event.Why.{Why}
use Rattle.enactment_model.specs.declared.bad_event.Why.TheVariants.{Missing, Bound, Other, Unsent}
use Rattle.enactment_model.specs.BadEvent.{IsAllowed, IsFirstBadEvent, IsFirstReason, IsReasonOf, MayNotFollow}
use Rattle.enactment_model.specs.Legal.{IsLegal, LegalAfter, MayFollow}

-- the item comes in the list after those of the first list
abbrev IsWithin : {X : Type 0} → List X → X → List X → Type 0
IsWithin {X} before x xs = (rest : List X) × (xs ≡ before ++ x ∷ rest)

-- two splits of one list are the same, or one item comes before the other
splits : {X : Type 0} (before other : List X) (x y : X) (after rest : List X) → before ++ x ∷ after ≡ other ++ y ∷ rest → ((before ≡ other) × (x ≡ y)) ⊎ (IsWithin before x other ⊎ IsWithin other y before)
splits [] [] x y after rest same = inl (refl, ap (λ zs. get_or zs 0 x) same)
splits [] (z ∷ other) x y after rest same = inr (inl (other, ap (λ w. w ∷ other) (sym (ap (λ zs. get_or zs 0 x) same))))
splits (z ∷ before) [] x y after rest same = inr (inr (before, ap (λ w. w ∷ before) (ap (λ zs. get_or zs 0 z) same)))
splits (z ∷ before) (w ∷ other) x y after rest same =
    let first = ap (λ zs. get_or zs 0 z) same in
    elim (splits before other x y after rest (ap (drop 1) same)) [
      | inl both ↦ inl (λ i. first i ∷ both.0 i, both.1)
      | inr (inl within) ↦ inr (inl (within.0, λ i. sym first i ∷ within.1 i))
      | inr (inr within) ↦ inr (inr (within.0, λ i. first i ∷ within.1 i))
    ]

-- what holds of a whole list holds of an item within
holds_within : {X : Type 0} (P : X → Type 0) (before : List X) (x : X) (xs : List X) → IsWithin before x xs → All P xs → P x
holds_within P before x xs within all =
    All-contains P xs x all (subst (λ ys. Contains ys x) (sym within.1) (Contains-append_right before (x ∷ within.0) x (here x within.0)))

-- an event of a legal run may follow those before it
follows_after : (x : Expanded) (earlier before : List Event) (event : Event) (after : List Event) → LegalAfter x earlier (before ++ event ∷ after) → MayFollow x (earlier ++ before) event
follows_after x earlier [] event after legal = subst (λ h. MayFollow x h event) (sym (append-nil earlier)) legal.0
follows_after x earlier (first ∷ before) event after legal =
    subst (λ h. MayFollow x h event) (append_assoc earlier (first ∷ []) before) (follows_after x (earlier ++ first ∷ []) before event after legal.1)

-- also if the run is given by another list
follows_within : (x : Expanded) (before : List Event) (event : Event) (run : List Event) → IsWithin before event run → IsLegal x run → MayFollow x before event
follows_within x before event run within legal = follows_after x [] before event within.0 (subst (IsLegal x) within.1 legal)

-- a value that is known first is known
known_first : (x : Expanded) (history : List Event) (key : List Value) (p : ℕ) (v : Value) → IsFirstKnown x history key p v → IsKnown x history key p
known_first x history key p v first =
    let knows = first.knows in
    let among = Contains-append_right first.before (first.event ∷ first.after) knows.event (Contains-append_left (first.event ∷ []) first.after knows.event knows.among) in (
      v,
      record {
        event = knows.event;
        among = subst (λ h. Contains h knows.event) (sym first.split) among;
        under = knows.under;
        adornment = knows.adornment;
        carries = knows.carries;
      },
    )

-- an `out` or `nil` parameter that is permitted is not known
permitted_unknown : (a : Adornment) (K : Type 0) → a ≢ In → Permits a K → ¬ K
permitted_unknown In K not_in permitted = absurd (not_in refl)
permitted_unknown Out K not_in permitted = permitted
permitted_unknown Nil K not_in permitted = permitted

-- what keeps an instance back is not allowed
not_allowed : (x : Expanded) (history : List Event) (i : Instance) (c : Carried) (why : Why) → IsReasonOf x history i c why → ¬ IsAllowed x history i c
not_allowed x history i c (Missing p) why allowed = why.1.unknown (subst (λ a. Permits a (IsKnown x history i.key c.param)) why.1.adorned allowed.permitted)
not_allowed x history i c (Bound p kept) why allowed =
    permitted_unknown c.adornment (IsKnown x history i.key c.param) why.1.adorned allowed.permitted (known_first x history i.key c.param kept why.1.first)
not_allowed x history i c (Other p kept) why allowed = why.1.unknown (allowed.same why.1.value why.1.adorned why.1.carries)
not_allowed x history i c Unsent why allowed = why

-- a message that can be emitted has permitted parameters alone
permitted_if_emits : (x : Expanded) (history : List Event) (m : ℕ) (key : List Value) → CanEmit x history m key → (c : Carried) → Contains (message_of x m).carried c → IsPermitted x history key c
permitted_if_emits x history m key can c =
    elim c.adornment as (λ a. Contains (message_of x m).carried (record { param = c.param; adornment = a }) → Permits a (IsKnown x history key c.param)) [
      | In ↦ can.ins c.param
      | Out ↦ can.outs c.param
      | Nil ↦ can.nils c.param
    ]

-- an instance with a reason not to be emitted is not enabled
not_enabled : (x : Expanded) (history : List Event) (i : Instance) (why : Why) → IsFirstReason x history i (message_of x i.message).carried why → ¬ IsEnabled x history i
not_enabled x history i why reason enabled =
    let c = reason.refused in
    let among = subst (λ cs. Contains cs c) (sym reason.split) (Contains-append_right reason.before (c ∷ reason.after) c (here c reason.after)) in
    not_allowed x history i c why reason.reason (record {
      permitted = permitted_if_emits x history i.message i.key enabled.can c among;
      same = λ v _ carries. enabled.same c.param v carries;
    })

-- an event that may not follow does not follow
not_follows : (x : Expanded) (before : List Event) (event : Event) (why : Why) → MayNotFollow x before event why → ¬ MayFollow x before event
not_follows x before (Emit i) why bad follows = not_enabled x (sender_history x before i.message) i why bad follows
not_follows x before (Receive i) why bad follows = bad.1 follows

-- a parameter has one reason
one_reason : FirstKnownIsOne → (x : Expanded) (history : List Event) (i : Instance) (c : Carried) → IsAdmitted x → (why other : Why) → IsReasonOf x history i c why → IsReasonOf x history i c other → why ≡ other
one_reason once x history i c admitted (Missing p) (Missing q) one two = ap Missing (one.0 ∙ sym two.0)
one_reason once x history i c admitted (Missing p) (Bound q w) one two = absurd (two.1.adorned one.1.adorned)
one_reason once x history i c admitted (Missing p) (Other q w) one two = absurd (one.1.unknown (known_first x history i.key c.param w two.1.first))
one_reason once x history i c admitted (Missing p) Unsent one two = absurd two
one_reason once x history i c admitted (Bound p v) (Missing q) one two = absurd (one.1.adorned two.1.adorned)
one_reason once x history i c admitted (Bound p v) (Bound q w) one two =
    λ j. Bound ((one.0 ∙ sym two.0) j) (once x history i.key c.param v w admitted one.1.first two.1.first j)
one_reason once x history i c admitted (Bound p v) (Other q w) one two = absurd (one.1.adorned two.1.adorned)
one_reason once x history i c admitted (Bound p v) Unsent one two = absurd two
one_reason once x history i c admitted (Other p v) (Missing q) one two = absurd (two.1.unknown (known_first x history i.key c.param v one.1.first))
one_reason once x history i c admitted (Other p v) (Bound q w) one two = absurd (two.1.adorned one.1.adorned)
one_reason once x history i c admitted (Other p v) (Other q w) one two =
    λ j. Other ((one.0 ∙ sym two.0) j) (once x history i.key c.param v w admitted one.1.first two.1.first j)
one_reason once x history i c admitted (Other p v) Unsent one two = absurd two
one_reason once x history i c admitted Unsent other one two = absurd one

-- an instance has one first reason
one_first_reason : FirstKnownIsOne → (x : Expanded) (history : List Event) (i : Instance) (carried : List Carried) → IsAdmitted x → (why other : Why) → IsFirstReason x history i carried why → IsFirstReason x history i carried other → why ≡ other
one_first_reason once x history i carried admitted why other one two =
    elim (splits one.before two.before one.refused two.refused one.after two.after (sym one.split ∙ two.split)) [
      | inl same ↦ one_reason once x history i one.refused admitted why other one.reason (subst (λ c. IsReasonOf x history i c other) (sym same.1) two.reason)
      | inr (inl within) ↦ absurd (not_allowed x history i one.refused why one.reason (holds_within (IsAllowed x history i) one.before one.refused two.before within two.allowed))
      | inr (inr within) ↦ absurd (not_allowed x history i two.refused other two.reason (holds_within (IsAllowed x history i) two.before two.refused one.before within one.allowed))
    ]

-- an event may not follow for one reason
one_why : FirstKnownIsOne → (x : Expanded) (before : List Event) (event : Event) → IsAdmitted x → (why other : Why) → MayNotFollow x before event why → MayNotFollow x before event other → why ≡ other
one_why once x before (Emit i) admitted why other one two =
    one_first_reason once x (sender_history x before i.message) i (message_of x i.message).carried admitted why other one two
one_why once x before (Receive i) admitted why other one two = one.0 ∙ sym two.0

-- a legal run has no bad event
pub legal_has_none : (x : Expanded) (run : List Event) (bad : BadEvent) → IsFirstBadEvent x run bad → ¬ IsLegal x run
legal_has_none x run bad first legal =
    not_follows x first.before first.event bad.why first.why (follows_within x first.before first.event run (first.after, first.split) legal)

-- a run has one first bad event
pub one_bad_event : FirstKnownIsOne → (x : Expanded) (run : List Event) (bad other : BadEvent) → IsAdmitted x → IsFirstBadEvent x run bad → IsFirstBadEvent x run other → bad ≡ other
one_bad_event once x run bad other admitted one two =
    elim (splits one.before two.before one.event two.event one.after two.after (sym one.split ∙ two.split)) [
      | inl same ↦
          let places = one.place ∙ ap (λ b. length b + 1) same.0 ∙ sym two.place in
          let moved = subst (λ e. MayNotFollow x one.before e other.why) (sym same.1) (subst (λ b. MayNotFollow x b two.event other.why) (sym same.0) two.why) in
          let reasons = one_why once x one.before one.event admitted bad.why other.why one.why moved in
          λ j. record { place = places j; why = reasons j }
      | inr (inl within) ↦ absurd (not_follows x one.before one.event bad.why one.why (follows_within x one.before one.event two.before within two.legal))
      | inr (inr within) ↦ absurd (not_follows x two.before two.event other.why two.why (follows_within x two.before two.event one.before within one.legal))
    ]
