-- The kinds that make a parameter known at a role: those of its events whose message binds the parameter.
use Rattle.std.proofs.Common.{◌≡◌, ◌⊎◌, ℕ, ◌<◌, Bool, true, cond, List, [], ◌∷◌, length, inl, inr, sym, subst, arith, Contains}
use Rattle.std.specs.Prelude.{◌==◌}
use Rattle.std.proofs.lemmas.Bool.{cond-true, cond_both, eq-eqb, eqb-true}
use Rattle.std.proofs.lemmas.List.Elements.{Contains-append_cases, Contains-append_left, Contains-append_right}
use Rattle.std.proofs.lemmas.List.Folds.{Any-from_list_any, list_any-from_Any}
use Rattle.list_base.proofs.Filtered.{filtered_member, kept_member}
use Rattle.list_base.proofs.Members.{here, nowhere, only}
use Rattle.bspl_types.specs.declared.event.Event.{Event}
use Rattle.bspl_types.specs.declared.event.Event.TheVariants.{Emit, Receive}
use Rattle.bspl_types.specs.declared.expanded.Expanded.{Expanded}
use Rattle.bspl_types.specs.declared.protocol.Message.{Message}
use Rattle.bspl_types.specs.Adornment.{Binds, has_value, valued}
use Rattle.bspl_types.specs.Expansion.{message_of}
use Rattle.bspl_types.specs.History.{instance_of, role_of}
use Rattle.clause_encoding.specs.declared.variables.Variables.{Variables}
use Rattle.clause_encoding.specs.Carriers.{binds, carriers, kinds_at}
use Rattle.clause_encoding.specs.Variables.{IsKind, message_numbers, received, sent}
use Rattle.first_occurrences.specs.Occurrence.{kind_of}
use Rattle.first_occurrences.specs.Report.{AreVariablesOf}
use Rattle.first_occurrences.proofs.ListedLemmas.{joined_from, joined_member, range_bound, range_member, some_member}

-- a message that binds the parameter passes the test
pub binds_from : (m : Message) (p : ℕ) → Binds m.carried p → binds m p ≡ true
binds_from m p binding =
    let (k, c, within, is, (param_is, has)) = binding.among in
    list_any-from_Any (λ d. d.param == p) (valued m.carried)
    (some_member (λ d. (d.param == p) ≡ true) (valued m.carried) c (kept_member (λ d. has_value d.adornment) m.carried c has (k, within, is)) (eq-eqb c.param p param_is))

-- and only such a message
pub binding_from : (m : Message) (p : ℕ) → binds m p ≡ true → Binds m.carried p
binding_from m p passes =
    let (k, c, within, is, same) = Any-from_list_any (λ d. d.param == p) (valued m.carried) passes in
    let (among, has) = filtered_member (λ d. has_value d.adornment) m.carried c (k, within, is) in
    record { among = some_member _ m.carried c among (eqb-true c.param p same, has) }

-- one item or none: the item is there if the test passes
item_if : {X : Type 0} (b : Bool) (x : X) → b ≡ true → Contains (cond b (x ∷ []) []) x
item_if {X} b x passes = subst (λ (xs : List X). Contains xs x) (sym (cond-true b (x ∷ []) [] passes)) (here x [])

-- and only then
if_item : {X : Type 0} (b : Bool) (x y : X) → Contains (cond b (x ∷ []) []) y → (b ≡ true) × (x ≡ y)
if_item b x y = cond_both b (x ∷ []) [] (λ xs. Contains xs y → (b ≡ true) × (x ≡ y)) (λ passes among. (passes, only x y among)) (λ fails among. absurd (nowhere y among))

-- an event's kind is one of its message's at its role
own_kind : (x : Expanded) (role : ℕ) (e : Event) → (role_of x e == role) ≡ true → Contains (kinds_at x role (instance_of e).message) (kind_of e)
own_kind x role (Emit i) at = Contains-append_left (cond ((message_of x i.message).sender == role) (sent i.message ∷ []) []) _ (sent i.message) (item_if _ (sent i.message) at)
own_kind x role (Receive i) at = Contains-append_right (cond ((message_of x i.message).sender == role) (sent i.message ∷ []) []) _ (received i.message) (item_if _ (received i.message) at)

-- the kind of an event at a role whose message binds the parameter is among those that make it known there
pub carrier_member : (x : Expanded) (role p : ℕ) (e : Event) → (instance_of e).message < length x.messages → (role_of x e == role) ≡ true → Binds (message_of x (instance_of e).message).carried p → Contains (carriers x role p) (kind_of e)
carrier_member x role p e known at binding =
    let m = (instance_of e).message in
    joined_member (kinds_at x role) _ m (kind_of e)
    (kept_member (λ n. binds (message_of x n) p) (message_numbers x) m (binds_from (message_of x m) p binding) (range_member (length x.messages) m known))
    (own_kind x role e at)

-- the kind is that of a message at the role
abbrev pub IsKindAt : Expanded → ℕ → ℕ → ℕ → Type 0
IsKindAt x role n kind = (((message_of x n).sender == role ≡ true) × (sent n ≡ kind)) ⊎ (((message_of x n).receiver == role ≡ true) × (received n ≡ kind))

-- a kind that makes the parameter known at the role
pub record IsCarrier (x : Expanded) (role p kind : ℕ) : Type 0 where
  pub message : ℕ
  pub known : message < length x.messages
  pub binding : Binds (message_of x message).carried p
  pub at : IsKindAt x role message kind

-- each kind among them is one
pub carrier_from : (x : Expanded) (role p kind : ℕ) → Contains (carriers x role p) kind → IsCarrier x role p kind
carrier_from x role p kind among =
    let (n, member, part) = joined_from (kinds_at x role) _ kind among in
    let (number, passes) = filtered_member (λ k. binds (message_of x k) p) (message_numbers x) n member in
    record {
      message = n;
      known = range_bound (length x.messages) n number;
      binding = binding_from (message_of x n) p passes;
      at = elim (Contains-append_cases (cond ((message_of x n).sender == role) (sent n ∷ []) []) (cond ((message_of x n).receiver == role) (received n ∷ []) []) kind part) [
        | inl one ↦ inl (if_item ((message_of x n).sender == role) (sent n) kind one)
        | inr other ↦ inr (if_item ((message_of x n).receiver == role) (received n) kind other)
      ];
    }

-- it is a kind of the protocol
pub carrier_kind : (x : Expanded) (vars : Variables) (role p kind : ℕ) → AreVariablesOf x vars → IsCarrier x role p kind → IsKind vars kind
carrier_kind x vars role p kind are carrier =
    let known = carrier.known in
    let kinds = are.kinds in
    elim carrier.at [
      | inl (at, is) ↦ record { from_one = omega arith; up_to = omega arith }
      | inr (at, is) ↦ record { from_one = omega arith; up_to = omega arith }
    ]

-- an event of the kind of a message at a role is one of that message, at the role
event_at : (x : Expanded) (role n : ℕ) (e : Event) → IsKindAt x role n (kind_of e) → (n ≡ (instance_of e).message) × ((role_of x e == role) ≡ true)
event_at x role n (Emit i) (inl (at, same)) = let is : n ≡ i.message = omega arith in (is, subst (λ k. ((message_of x k).sender == role) ≡ true) is at)
event_at x role n (Emit i) (inr (at, same)) = absurd (omega arith)
event_at x role n (Receive i) (inl (at, same)) = absurd (omega arith)
event_at x role n (Receive i) (inr (at, same)) = let is : n ≡ i.message = omega arith in (is, subst (λ k. ((message_of x k).receiver == role) ≡ true) is at)

-- so an event of such a kind is at the role, and its message binds the parameter
pub carrier_event : (x : Expanded) (role p : ℕ) (e : Event) → IsCarrier x role p (kind_of e) → ((role_of x e == role) ≡ true) × Binds (message_of x (instance_of e).message).carried p
carrier_event x role p e carrier =
    let (is, at) = event_at x role carrier.message e carrier.at in
    (at, subst (λ k. Binds (message_of x k).carried p) is carrier.binding)
