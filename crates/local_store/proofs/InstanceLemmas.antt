-- The pairs of an instance, and what one event makes known.
use Rattle.std.proofs.Common.{◌≡◌, ℕ, ◌<◌, ◌≤◌, ◌⊎◌, ⊎_elim, List, [], ◌∷◌, ◌++◌, length, inl, inr, refl, sym, ap, ◌∙◌, subst}
use Rattle.std.specs.List.{Contains}
use Rattle.std.proofs.lemmas.Bool.{cases_lt}
use Rattle.std.proofs.lemmas.List.{get_or_past}
use Rattle.std.proofs.lemmas.List.Elements.{All-contains, All-get_or, Contains-append_left, Contains-push_cases}
use Rattle.list_base.proofs.Filtered.{filtered_member}
use Rattle.list_base.proofs.Members.{here, nowhere}
use Rattle.list_base.proofs.Partners.{partner_of, zipped_member}
use Rattle.bspl_types.specs.declared.event.Event.{Event}
use Rattle.bspl_types.specs.declared.event.Instance.{Instance}
use Rattle.bspl_types.specs.declared.expanded.Expanded.{Expanded}
use Rattle.bspl_types.specs.declared.protocol.Carried.{Carried}
use Rattle.bspl_types.specs.declared.value.Value.{Value}
use Rattle.bspl_types.specs.Admission.{IsAdmitted}
use Rattle.bspl_types.specs.Adornment.{has_value, valued}
use Rattle.bspl_types.specs.Expansion.{message_of, no_message}
use Rattle.bspl_types.specs.History.{instance_of}
use Rattle.bspl_types.specs.Instance.{pairs}
use Rattle.bspl_types.specs.Knowledge.{IsKnown, Knows}
use Rattle.bspl_types.specs.Shape.{IsMessageOf}
use Rattle.role_knowledge.specs.Laws.{FirstKnownIsOne}

-- the parameters of a message exist
pub params_exist : (x : Expanded) (m : ℕ) (c : Carried) → Contains (message_of x m).carried c → c.param < length x.params
params_exist x m c among =
    ⊎_elim
    (λ (known : m < length x.messages). All-contains (λ d. d.param < length x.params) (message_of x m).carried c (All-get_or (IsMessageOf (length x.roles) (length x.params)) x.messages m no_message known x.shape.each_message).known_params among)
    (λ (past : length x.messages ≤ m). absurd (nowhere c (subst (λ message. Contains message.carried c) (get_or_past x.messages m no_message past) among)))
    (cases_lt m (length x.messages))

-- and those of an instance's pairs
pub pair_exists : (x : Expanded) (i : Instance) (c : Carried) (v : Value) → Contains (pairs x i) (c, v) → c.param < length x.params
pair_exists x i c v among =
    let carried = (message_of x i.message).carried in
    params_exist x i.message c (filtered_member (λ d. has_value d.adornment) carried c (zipped_member (valued carried) i.values c v among)).0

-- an instance's value is known under its key
pub knows_own : (x : Expanded) (history : List Event) (e : Event) (key : List Value) (c : Carried) (v : Value) → Contains history e → (instance_of e).key ≡ key → Contains (pairs x (instance_of e)) (c, v) → Knows x history key c.param v
knows_own x history e key c v among under pair = record { event = e; among = among; under = under; adornment = c.adornment; carries = pair }

-- a history that is longer knows as much
pub knows_more : (x : Expanded) (history : List Event) (e : Event) (key : List Value) (p : ℕ) (v : Value) → Knows x history key p v → Knows x (history ++ e ∷ []) key p v
knows_more x history e key p v k = record { event = k.event; among = Contains-append_left history (e ∷ []) k.event k.among; under = k.under; adornment = k.adornment; carries = k.carries }

-- what is known after one more event was known before, or is a value of the event
pub knows_cases : (x : Expanded) (history : List Event) (e : Event) (key : List Value) (p : ℕ) (v : Value) → Knows x (history ++ e ∷ []) key p v → Knows x history key p v ⊎ (((instance_of e).key ≡ key) × ((c : Carried) × Contains (pairs x (instance_of e)) (c, v) × (c.param ≡ p)))
knows_cases x history e key p v k = elim (Contains-push_cases history e k.event k.among) [
  | inl among ↦ inl (record { event = k.event; among = among; under = k.under; adornment = k.adornment; carries = k.carries })
  | inr is ↦ inr (ap (λ f. (instance_of f).key) is ∙ k.under, (record { param = p; adornment = k.adornment }, subst (λ f. Contains (pairs x (instance_of f)) (record { param = p; adornment = k.adornment }, v)) (sym is) k.carries, refl))
]

-- an instance has one value of a parameter
pub one_pair : FirstKnownIsOne → (x : Expanded) → IsAdmitted x → (e : Event) (c d : Carried) (v w : Value) → Contains (pairs x (instance_of e)) (c, v) → Contains (pairs x (instance_of e)) (d, w) → c.param ≡ d.param → v ≡ w
one_pair law x admitted e c d v w one other same =
    let key = (instance_of e).key in
    let first = λ (f : Carried) (u : Value) (among : Contains (pairs x (instance_of e)) (f, u)). knows_own x (e ∷ []) e key f u (here e []) refl among in
    let nothing : ¬ IsKnown x [] key c.param = λ known. nowhere known.1.event known.1.among in
    law x (e ∷ []) key c.param v w admitted
    (record { before = []; event = e; after = []; split = refl; unknown = nothing; knows = first c v one })
    (record { before = []; event = e; after = []; split = refl; unknown = nothing; knows = subst (λ p. Knows x (e ∷ []) key p w) (sym same) (first d w other) })

-- each parameter with a value has a pair
pub pair_of : (x : Expanded) (i : Instance) (c : Carried) → length i.values ≡ length (valued (message_of x i.message).carried) → Contains (valued (message_of x i.message).carried) c → (v : Value) × Contains (pairs x i) (c, v)
pair_of x i c each among = partner_of (valued (message_of x i.message).carried) i.values c each among
