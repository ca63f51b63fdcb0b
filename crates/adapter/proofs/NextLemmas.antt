-- The order of a kept desk's role, and its first message that is ready.
use Rattle.std.proofs.Common.{◌≡◌, ℕ, ◌+◌, ◌-◌, ◌<◌, Option, None, Some, List, [], ◌++◌, length, get_or, slice_get, take, drop, sym, ◌∙◌, ap, subst, All, Contains}
use Rattle.std.specs.Prelude.{MatchOption}
use Rattle.std.proofs.lemmas.List.{take-append-drop, drop_more}
use Rattle.std.proofs.lemmas.List.Elements.{All-contains}
use Rattle.std.proofs.lemmas.Option.{get_or_from_slice_get}
use Rattle.list_base.proofs.Membership.{member_at}
use Rattle.bspl_types.specs.declared.value.Value.{Value}
use Rattle.agent_scripts.specs.Job.{Job}
use Rattle.agent_scripts.specs.Laws.{FitsProtocol}
use Rattle.agent_scripts.specs.Script.{Script}
use Rattle.agent_scripts.specs.Statement.{IsSentBy}
use Rattle.local_store.specs.State.{StoreState}
use Rattle.adapter.specs.Desk.{DeskState}
use Rattle.adapter.specs.Kept.{IsKept}
use Rattle.adapter.specs.Next.{IsFirstToEmit, IsNext, IsPassedOver, CanEmitNext}

-- a ready message after those that are passed over is the first one
pub first_at : (script : Script) (s : StoreState) (n : ℕ) (key : List Value) (order : List ℕ) (k : ℕ) → k < length order → All (IsPassedOver script s n key) (take k order) → CanEmitNext script s n key (get_or order k 0) → IsFirstToEmit script s n key order (get_or order k 0)
first_at script s n key order k within passed ready =
    record {
      before = take k order;
      after = drop (k + 1) order;
      split = sym (take-append-drop k order) ∙ ap (λ rest. take k order ++ rest) (drop_more order k 0 within);
      passed = passed;
      ready = ready;
    }

-- there is an order for the desk's role
pub has_order : (job : Job) (d : DeskState) → FitsProtocol job.protocol job.script → IsKept job d.store.role d → d.store.role < length job.script.orders
has_order job d fits kept =
    let known : d.store.role < length d.store.protocol.roles = kept.consistent.known_role in
    let known_in : d.store.role < length job.protocol.roles = subst (λ x. d.store.role < length x.roles) kept.protocol_is known in
    subst (λ n. d.store.role < n) (sym fits.roles) known_in

-- the role sends its messages
pub order_sent : (job : Job) (d : DeskState) (order : List ℕ) → FitsProtocol job.protocol job.script → IsKept job d.store.role d → slice_get job.script.orders d.store.role ≡ Some order → All (IsSentBy d.store.protocol d.store.role) order
order_sent job d order fits kept at =
    subst (λ x. All (IsSentBy x d.store.role) order) (sym kept.protocol_is) (fits.sent d.store.role order at)

-- a workload key is held
pub key_held : (job : Job) (d : DeskState) (k : ℕ) (key : List Value) → IsKept job d.store.role d → slice_get job.script.keys k ≡ Some key → Contains d.store.keys key
key_held job d k key kept at = All-contains (Contains d.store.keys) job.script.keys key kept.held (member_at job.script.keys k key at)

-- what is first in the order under the key is next
pub next_is : (job : Job) (s : StoreState) (n : ℕ) (key : List Value) (order : List ℕ) (next : Option ℕ) → slice_get job.script.keys (n - 1) ≡ Some key → slice_get job.script.orders s.role ≡ Some order → MatchOption next (All (IsPassedOver job.script s n key) order) (IsFirstToEmit job.script s n key order) → IsNext job s n next
next_is job s n key order None at_key at_order all =
    let key_is = sym (get_or_from_slice_get job.script.keys (n - 1) key [] at_key) in
    let order_is = sym (get_or_from_slice_get job.script.orders s.role order [] at_order) in
    subst (λ os. All (IsPassedOver job.script s n (get_or job.script.keys (n - 1) [])) os) order_is (subst (λ k. All (IsPassedOver job.script s n k) order) key_is all)
next_is job s n key order (Some m) at_key at_order first =
    let key_is = sym (get_or_from_slice_get job.script.keys (n - 1) key [] at_key) in
    let order_is = sym (get_or_from_slice_get job.script.orders s.role order [] at_order) in
    subst (λ os. IsFirstToEmit job.script s n (get_or job.script.keys (n - 1) []) os m) order_is (subst (λ k. IsFirstToEmit job.script s n k order m) key_is first)

-- the same of what equals the script and the store
pub next_is_seen : (job : Job) (s : StoreState) (n : ℕ) (key : List Value) (order : List ℕ) (script : Script) (seen : StoreState) (next : Option ℕ) → script ≡ job.script → seen ≡ s → slice_get job.script.keys (n - 1) ≡ Some key → slice_get job.script.orders s.role ≡ Some order → MatchOption next (All (IsPassedOver script seen n key) order) (IsFirstToEmit script seen n key order) → IsNext job s n next
next_is_seen job s n key order script seen next script_is seen_is at_key at_order first =
    next_is job s n key order next at_key at_order
    (subst (λ (t : StoreState). MatchOption next (All (IsPassedOver job.script t n key) order) (IsFirstToEmit job.script t n key order)) seen_is
    (subst (λ (r : Script). MatchOption next (All (IsPassedOver r seen n key) order) (IsFirstToEmit r seen n key order)) script_is first))
