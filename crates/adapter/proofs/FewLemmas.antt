-- A kept desk has at most one event for each pair of a workload key and a message of its role.
use Rattle.std.proofs.Common.{◌≡◌, ◌≢◌, ℕ, ◌+◌, ◌*◌, ◌<◌, ◌≤◌, List, [], ◌∷◌, ◌++◌, length, map, get_or, refl, sym, ap, ◌∙◌, subst, arith, All, Contains}
use Rattle.std.specs.List.{AllPairs, flat_map}
use Rattle.std.proofs.Math.Nat.{suc-mul, zero-mul}
use Rattle.std.proofs.lemmas.List.{length-append, length-map}
use Rattle.std.proofs.lemmas.List.Elements.{All-map}
use Rattle.std.proofs.lemmas.List.Concat.{flat_map-cons}
use Rattle.list_base.proofs.Mapped.{all_of_mapped, mapped_pairs}
use Rattle.list_base.proofs.Pigeonhole.{few_distinct}
use Rattle.bspl_types.specs.declared.event.Event.{Event}
use Rattle.bspl_types.specs.declared.event.Event.TheVariants.{Emit, Receive}
use Rattle.bspl_types.specs.declared.expanded.Expanded.{Expanded}
use Rattle.bspl_types.specs.declared.value.Value.{Value}
use Rattle.bspl_types.specs.Admission.{IsAdmitted}
use Rattle.bspl_types.specs.Expansion.{message_of, no_message}
use Rattle.bspl_types.specs.History.{instance_of, role_of}
use Rattle.bspl_types.specs.Instance.{Fits}
use Rattle.agent_scripts.specs.Job.{Job}
use Rattle.local_store.specs.State.{acts_of}
use Rattle.stamped_history.specs.declared.entry.Entry.{Entry}
use Rattle.adapter.specs.Desk.{DeskState}
use Rattle.adapter.specs.Kept.{AreDistinctEvents, IsKept}
use Rattle.adapter.specs.Laws.{KeptEventsAreFew}
use Rattle.adapter.specs.Pending.{messages_of, pairs_of}
use Rattle.adapter.proofs.PendingLemmas.{Pair, among_pairs, own_message}

-- the key and the message of an event
abbrev pair_of : Event → Pair
pair_of e = ((instance_of e).key, (instance_of e).message)

-- how many pairs there are
pairs_count : (keys : List (List Value)) (messages : List ℕ) → length (pairs_of keys messages) ≡ length keys * length messages
pairs_count [] messages = sym (zero-mul (length messages))
pairs_count (key ∷ keys) messages =
    ap length (flat_map-cons (λ (k : List Value). map (λ (m : ℕ). (k, m)) messages) key keys)
    ∙ length-append (map (λ (m : ℕ). (key, m)) messages) (pairs_of keys messages)
    ∙ ap (λ n. n + length (pairs_of keys messages)) (length-map messages (λ (m : ℕ). (key, m)))
    ∙ ap (λ n. length messages + n) (pairs_count keys messages)
    ∙ omega (arith, suc-mul (length keys) (length messages))

-- no role sends and receives a message
two_roles : (x : Expanded) (m role : ℕ) → IsAdmitted x → m < length x.messages → (message_of x m).sender ≡ role → (message_of x m).receiver ≡ role → ⊥
two_roles x m role admitted within sends receives = (admitted.each_message m no_message within).two_roles (sends ∙ sym receives)

-- two events of a role have two pairs
distinct_pairs : (x : Expanded) (role : ℕ) (e f : Event) → IsAdmitted x → (instance_of e).message < length x.messages → role_of x e ≡ role → role_of x f ≡ role → AreDistinctEvents e f → pair_of e ≢ pair_of f
distinct_pairs x role (Emit i) (Emit j) admitted within own other distinct = λ same. distinct (ap (λ (p : Pair). p.0) same) (ap (λ (p : Pair). p.1) same)
distinct_pairs x role (Receive i) (Receive j) admitted within own other distinct = λ same. distinct (ap (λ (p : Pair). p.0) same) (ap (λ (p : Pair). p.1) same)
distinct_pairs x role (Emit i) (Receive j) admitted within own other distinct = λ same.
    two_roles x i.message role admitted within own (ap (λ (m : ℕ). (message_of x m).receiver) (ap (λ (p : Pair). p.1) same) ∙ other)
distinct_pairs x role (Receive i) (Emit j) admitted within own other distinct = λ same.
    two_roles x i.message role admitted within (ap (λ (m : ℕ). (message_of x m).sender) (ap (λ (p : Pair). p.1) same) ∙ other) own

-- so there are at most as many events as pairs
pub kept_few : KeptEventsAreFew
kept_few job role d kept =
    let x = d.store.protocol in
    let events : List Event = acts_of d.store in
    let keys = job.script.keys in
    let local = kept.consistent.local in
    let own : All (λ (e : Event). role_of x e ≡ role) events = subst (λ (r : ℕ). All (λ (e : Event). role_of x e ≡ r) events) kept.role_is local.own in
    let distinct : AllPairs ◌≢◌ (map pair_of events) = mapped_pairs ◌≢◌ pair_of events (λ i j e before within.
    distinct_pairs x role (get_or events i e) (get_or events j e) kept.consistent.admitted (local.fits i e (omega arith)).known (own i e (omega arith)) (own j e within) (kept.once i j e before within)) in
    let among : All (Contains (pairs_of keys (messages_of x role))) (map pair_of events) = All-map (Contains (pairs_of keys (messages_of x role))) pair_of events (λ k e within.
    among_pairs keys (messages_of x role) (instance_of (get_or events k e)).key (instance_of (get_or events k e)).message (kept.played.workload k e within) (own_message x role (get_or events k e) (local.fits k e within).known (own k e within))) in
    let few : length (map pair_of events) ≤ length (pairs_of keys (messages_of x role)) = few_distinct (map pair_of events) (pairs_of keys (messages_of x role)) distinct among in
    let count : length (map pair_of events) ≡ length d.store.entries = length-map events pair_of ∙ length-map d.store.entries (λ (e : Entry). e.event) in
    let all : length (pairs_of keys (messages_of x role)) ≡ length keys * length (messages_of x role) = pairs_count keys (messages_of x role) in
    subst (λ (y : Expanded). length d.store.entries ≤ length keys * length (messages_of y role)) kept.protocol_is (omega (arith, few, count, all))
