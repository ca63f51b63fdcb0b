-- Events at places of the histories.
use Rattle.std.proofs.Common.{◌≡◌, ℕ, ◌<◌, List, [], ◌∷◌, length, Some, inl, inr, refl, sym, ap, ◌∙◌, subst, All, arith}
use Rattle.std.specs.Prelude.{◌==◌, slice_get, slice_index_or}
use Rattle.std.proofs.lemmas.Bool.{cases_lt, cond-true}
use Rattle.std.proofs.lemmas.Bool.Decides.{Decides-eqb}
use Rattle.std.proofs.lemmas.List.{get_or_past, get_or_read}
use Rattle.std.proofs.lemmas.List.Elements.{All-head, All-tail}
use Rattle.std.proofs.lemmas.Option.{get_or_from_slice_get, none-some, slice_get_read, slice_get_within}
use Rattle.bspl_types.specs.declared.event.Event.{Event}
use Rattle.bspl_types.specs.declared.event.Instance.{Instance}
use Rattle.bspl_types.specs.declared.expanded.Expanded.{Expanded}
use Rattle.bspl_types.specs.Expansion.{message_of, no_message}
use Rattle.bspl_types.specs.History.{history_of, instance_of, role_of}
use Rattle.bspl_types.specs.Instance.{Fits}
use Rattle.history_audit.specs.Histories.{AreHistories, events_at}
use Rattle.history_audit.specs.inner.Places.{AreOwn}

-- what holds of all items holds of the one at an index
pub all_at : {X : Type 0} (P : X → Type 0) (xs : List X) (k : ℕ) (x : X) → All P xs → slice_get xs k ≡ Some x → P x
all_at P xs k x all at = subst P (get_or_from_slice_get xs k x x at) (all k x (slice_get_within xs k x at))

-- a role's own events are all of its history
pub own_history : (x : Expanded) (role : ℕ) (events : List Event) → AreOwn x role events → history_of x role events ≡ events
own_history x role [] own = refl
own_history x role (e ∷ events) own =
    let here : role_of x e ≡ role = All-head (λ f. role_of x f ≡ role) e events own in
    cond-true (role_of x e == role) (e ∷ history_of x role events) (history_of x role events) ((Decides-eqb (role_of x e) role).1 here)
    ∙ ap (λ es. e ∷ es) (own_history x role events (All-tail (λ f. role_of x f ≡ role) e events own))

-- a role with an event has a history
pub role_within : (histories : List (List Event)) (role k : ℕ) (e : Event) → slice_get (events_at histories role) k ≡ Some e → role < length histories
role_within histories role k e at = elim (cases_lt role (length histories)) [
  | inl within ↦ within
  | inr past ↦ absurd (none-some e (sym (ap (λ (es : List Event). slice_get es k) (get_or_past histories role [] past)) ∙ at))
]

-- its instance fits
pub fits_at : (x : Expanded) (histories : List (List Event)) (role k : ℕ) (e : Event) → AreHistories x histories → slice_get (events_at histories role) k ≡ Some e → Fits x (instance_of e)
fits_at x histories role k e are at = all_at (λ f. Fits x (instance_of f)) (events_at histories role) k e (are.fit role) at

-- and it is the role's
pub own_at : (x : Expanded) (histories : List (List Event)) (role k : ℕ) (e : Event) → AreHistories x histories → slice_get (events_at histories role) k ≡ Some e → role_of x e ≡ role
own_at x histories role k e are at = all_at (λ f. role_of x f ≡ role) (events_at histories role) k e (are.own role) at

-- the sender of an instance that fits is a role
pub sender_known : (x : Expanded) (i : Instance) → Fits x i → (message_of x i.message).sender < length x.roles
sender_known x i fits = (x.shape.each_message i.message no_message fits.known).known_sender

-- the history that is read at an index of the list is that role's
pub item_history : (histories : List (List Event)) (role : ℕ) (history : List Event) → role < length histories → history ≡ slice_index_or histories role history → history ≡ events_at histories role
item_history histories role history within is = get_or_read histories role history within is []

-- so it is with the index of a history
pub index_history : (x : Expanded) (indices histories : List (List Event)) (role : ℕ) (index : List Event) → indices ≡ histories → AreHistories x histories → role < length x.roles → index ≡ slice_index_or indices role index → index ≡ events_at histories role
index_history x indices histories role index same are known is =
    item_history histories role index (omega (arith, known, are.count)) (subst (λ all. index ≡ slice_index_or all role index) same is)

-- an event that is read at an index of a history
pub event_at : (histories : List (List Event)) (role k : ℕ) (history : List Event) (e : Event) → history ≡ events_at histories role → k < length history → e ≡ slice_index_or history k e → slice_get (events_at histories role) k ≡ Some e
event_at histories role k history e same within is = subst (λ es. slice_get es k ≡ Some e) same (slice_get_read history (length history) k e refl within is)
