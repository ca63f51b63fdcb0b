-- Desks without events: what room they need, that they are kept, and that they are sound.
use Rattle.std.proofs.Common.{◌≡◌, ◌≢◌, ℕ, zero, suc, ◌+◌, ◌*◌, ◌<◌, ◌≤◌, ◌⊎◌, inl, inr, Bool, true, false, cond, get_or, take, drop, Some, List, [], ◌∷◌, ◌++◌, length, map, refl, sym, ap, ◌∙◌, subst, arith, All, Contains}
use Rattle.std.specs.Prelude.{◌==◌, ◌||◌, max, not, slice_get}
use Rattle.std.specs.List.{AllPairs, enumerate_from, filter, list_any}
use Rattle.std.proofs.lemmas.Bool.{cond_both}
use Rattle.std.proofs.lemmas.List.{drop_more, length-append, length-map, take-append-drop, take_more}
use Rattle.std.proofs.Math.Nat.{suc-mul, zero-mul}
use Rattle.std.proofs.lemmas.List.Concat.{flat_map-cons}
use Rattle.std.proofs.lemmas.List.Elements.{All-contains_itself, All-nil}
use Rattle.std.proofs.lemmas.List.Sums.{sum_by-le}
use Rattle.std.proofs.lemmas.Nat.{mul-le}
use Rattle.std.proofs.lemmas.Option.{get_or_from_slice_get, slice_get_within}
use Rattle.list_base.proofs.Members.{nowhere}
use Rattle.list_base.proofs.Membership.{not_before}
use Rattle.bspl_types.specs.declared.envelope.Envelope.{Envelope}
use Rattle.bspl_types.specs.declared.event.Event.TheVariants.{Emit}
use Rattle.bspl_types.specs.declared.expanded.Expanded.{Expanded}
use Rattle.bspl_types.specs.declared.protocol.Message.{Message}
use Rattle.bspl_types.specs.declared.value.Value.{Value}
use Rattle.adapter.specs.Desk.{DeskState}
use Rattle.adapter.specs.Kept.{AreDistinctEvents, IsFor}
use Rattle.adapter.specs.Pending.{is_of_pair, messages_of, pairs_of, pending}
use Rattle.adapter.specs.Rules.{rules_of}
use Rattle.agent_scripts.specs.Job.{Job}
use Rattle.agent_scripts.specs.Script.{Script}
use Rattle.local_store.specs.Consistent.{IsConsistent}
use Rattle.local_store.specs.State.{acts_of, AddsKey, new_store, StoreState}
use Rattle.stamped_history.specs.Played.{Played}
use Rattle.stamped_history.specs.declared.entry.Entry.{Entry}
use Rattle.stamped_history.specs.Entries.{events_of}
use Rattle.stamped_history.specs.Explained.{history_at}
use Rattle.world_run.specs.Sent.{IsSent}
use Rattle.world_run.specs.Settling.{AreNew}
use Rattle.world_run.specs.World.{histories_of}
use Rattle.world_run.specs.inner.Opened.{AreOpened, envelopes_to, events_of_role, IsOpened, opened_store, own}
use Rattle.world_run.specs.inner.InProgress.{AreSound, AreWhole}
use Rattle.world_run.proofs.WorldLemmas.{all_items, each_history, played_none}

-- a filtered list is not longer
filter_short : {X : Type 0} (test : X → Bool) (xs : List X) → length (filter test xs) ≤ length xs
filter_short test [] = omega arith
filter_short test (x ∷ xs) = cond_both (test x) (x ∷ filter test xs) (filter test xs) (λ ys. length ys ≤ suc (length xs))
    (λ yes. omega (arith, filter_short test xs)) (λ no. omega (arith, filter_short test xs))

-- as many numbers as messages pass
numbered_pass : (test : Message → Bool) (k : ℕ) (messages : List Message) → length (filter (λ (q : ℕ × Message). test q.1) (enumerate_from k messages)) ≡ length (filter test messages)
numbered_pass test k [] = refl
numbered_pass test k (m ∷ messages) = (elim (test m) as (λ b. length (cond b ((k, m) ∷ filter (λ (q : ℕ × Message). test q.1) (enumerate_from (k + 1) messages)) (filter (λ (q : ℕ × Message). test q.1) (enumerate_from (k + 1) messages))) ≡ length (cond b (m ∷ filter test messages) (filter test messages))) [
  | true ↦ ap suc (numbered_pass test (k + 1) messages)
  | false ↦ numbered_pass test (k + 1) messages
])

-- each key with each message
pairs_count : (keys : List (List Value)) (messages : List ℕ) → length (pairs_of keys messages) ≡ length keys * length messages
pairs_count [] messages = sym (zero-mul (length messages))
pairs_count (key ∷ keys) messages =
    ap length (flat_map-cons (λ (k : List Value). map (λ (m : ℕ). (k, m)) messages) key keys)
    ∙ length-append (map (λ (m : ℕ). (key, m)) messages) (pairs_of keys messages)
    ∙ ap (λ n. n + length (pairs_of keys messages)) (length-map messages (λ (m : ℕ). (key, m)))
    ∙ ap (λ n. length messages + n) (pairs_count keys messages)
    ∙ omega (arith, suc-mul (length keys) (length messages))

-- the room that a desk without events needs
room_needed : (job : Job) (role : ℕ) → length (pending [] (pairs_of job.script.keys (messages_of job.protocol role))) ≤ length job.script.keys * length (own job.protocol.messages role)
room_needed job role =
    let short = filter_short (λ (pair : List Value × ℕ). not (list_any (is_of_pair pair) [])) (pairs_of job.script.keys (messages_of job.protocol role)) in
    let count : length (messages_of job.protocol role) ≡ length (own job.protocol.messages role) =
    length-map (filter (λ (q : ℕ × Message). q.1.sender == role || q.1.receiver == role) (enumerate_from 0 job.protocol.messages)) (λ (q : ℕ × Message). q.0)
    ∙ numbered_pass (λ m. m.sender == role || m.receiver == role) 0 job.protocol.messages in
    let pairs = pairs_count job.script.keys (messages_of job.protocol role) in
    omega (arith, short, pairs ∙ ap (λ n. length job.script.keys * n) count)

-- a desk with that store is kept
pub opened : (job : Job) (role : ℕ) (d : DeskState) → IsConsistent d.store → d.store ≡ opened_store job role → d.inbox.envelopes ≡ [] → envelopes_to job role ≤ d.inbox.spare → IsOpened job role d
opened job role d consistent store_is empty envelopes =
    let entries : d.store.entries ≡ [] = ap (λ (s : StoreState). s.entries) store_is in
    let acts : acts_of d.store ≡ [] = ap events_of entries in
    record {
      kept = record {
        protocol_is = ap (λ (s : StoreState). s.protocol) store_is;
        role_is = ap (λ (s : StoreState). s.role) store_is;
        consistent = consistent;
        once = subst (AllPairs AreDistinctEvents) (sym acts) (λ i j e before within. absurd (omega (arith, within)));
        held = subst (λ ks. All (Contains ks) job.script.keys) (sym (ap (λ (s : StoreState). s.keys) store_is)) (All-contains_itself job.script.keys);
        room = subst (λ h. length (pending h (pairs_of job.script.keys (messages_of job.protocol role))) < d.store.spare) (sym acts) (omega (arith, ap (λ (s : StoreState). s.spare) store_is, room_needed job role));
        played = subst (Played job.protocol (rules_of job)) (sym acts) (played_none job);
        inbox = subst (λ es. All (IsFor job role) es) (sym empty) (All-nil (IsFor job role));
      };
      store = store_is;
      no_envelopes = empty;
      envelopes = envelopes;
    }

-- the histories of such desks
no_history : (job : Job) (desks : List DeskState) → AreOpened job desks → (role : ℕ) → history_at (histories_of desks) role ≡ []
no_history job desks opened role = each_history (λ r h. h ≡ []) desks (λ r d at. ap (λ (s : StoreState). s.entries) (opened.each r d at).store) (λ r. refl) role

-- such desks are sound
pub opened_sound : (job : Job) (desks : List DeskState) → AreOpened job desks → AreSound job desks
opened_sound job desks opened =
    record {
      kept = record { count = opened.count; each = λ role d at. (opened.each role d at).kept };
      explained = λ role before after e i is received. absurd (omega (arith, ap length (sym (no_history job desks opened role) ∙ is), length-append before (e ∷ after)));
      sent = λ role d at. subst (λ es. All (λ (e : Envelope). IsSent job.protocol (histories_of desks) e.message) es) (sym (opened.each role d at).no_envelopes) (All-nil (λ (e : Envelope). IsSent job.protocol (histories_of desks) e.message));
      run = record {
        run = [];
        legal = record { fits = λ k d within. absurd (omega (arith, within)); legal = tt };
        kept = λ role. ap events_of (sym (no_history job desks opened role));
        stamps = λ role. subst (λ h. All (λ (e : Entry). e.stamp ≤ 0) h) (sym (no_history job desks opened role)) (All-nil (λ (e : Entry). e.stamp ≤ 0));
        count =
            let none : All (λ h. length h ≤ 0) (histories_of desks) = all_items (λ h. length h ≤ 0) (histories_of desks) (λ k h at.
            subst (λ g. length g ≤ 0) (sym (no_history job desks opened k) ∙ get_or_from_slice_get (histories_of desks) k h [] at) (omega arith)) in
            omega (arith, sum_by-le length 0 (histories_of desks) none);
      };
    }

-- and whole
pub opened_whole : (job : Job) (desks : List DeskState) → AreOpened job desks → AreWhole job desks
opened_whole job desks opened role d at i receiver among survives r_at =
    absurd (nowhere (Emit i) (subst (λ es. Contains (events_of es) (Emit i)) (ap (λ (s : StoreState). s.entries) (opened.each role d at).store) among))

-- an item of a longer list was there, or is the last one
item_push : {X : Type 0} (xs : List X) (x : X) (k : ℕ) (z : X) → slice_get (xs ++ x ∷ []) k ≡ Some z → (slice_get xs k ≡ Some z) ⊎ ((k ≡ length xs) × (x ≡ z))
item_push [] x zero z at = inr (refl, (cc))
item_push [] x (suc k) z at = absurd (cc)
item_push (y ∷ xs) x zero z at = inl at
item_push (y ∷ xs) x (suc k) z at = elim (item_push xs x k z at) [
  | inl early ↦ inl early
  | inr last ↦ inr (ap suc last.0, last.1)
]

-- the desks of the first roles
pub record OpenedTo (job : Job) (desks : List DeskState) (count : ℕ) : Type 0 where
  pub length_is : length desks ≡ count
  pub each : (role : ℕ) (d : DeskState) → slice_get desks role ≡ Some d → IsOpened job role d

-- none yet
pub opened_start : (job : Job) → OpenedTo job [] 0
opened_start job = record { length_is = refl; each = λ role d at. absurd (cc) }

-- one more
pub opened_more : (job : Job) (desks : List DeskState) (count : ℕ) (d : DeskState) → OpenedTo job desks count → IsOpened job count d → OpenedTo job (desks ++ d ∷ []) (count + 1)
opened_more job desks count d before is =
    record {
      length_is = length-append desks (d ∷ []) ∙ ap (λ n. n + 1) before.length_is;
      each = λ role e at. elim (item_push desks d role e at) [
        | inl early ↦ before.each role e early
        | inr last ↦ subst (λ r. IsOpened job r e) (sym (last.0 ∙ before.length_is)) (subst (IsOpened job count) last.1 is)
      ];
    }

-- all of them
pub opened_all : (job : Job) (desks : List DeskState) → OpenedTo job desks (length job.protocol.roles) → AreOpened job desks
opened_all job desks all = record { count = all.length_is; each = all.each }

-- one key more is held
pub keys_more : (base old new : StoreState) (keys : List (List Value)) (k : ℕ) (key : List Value) → AllPairs ◌≢◌ keys → slice_get keys k ≡ Some key → old ≡ record base { keys = take k keys } → AddsKey old key new → new ≡ record base { keys = take (k + 1) keys }
keys_more base old new keys k key distinct at old_is adds =
    let within : k < length keys = slice_get_within keys k key at in
    let here : get_or keys k key ≡ key = get_or_from_slice_get keys k key key at in
    let split : keys ≡ take k keys ++ key ∷ drop (k + 1) keys =
    sym (take-append-drop k keys)
    ∙ ap (λ rest. take k keys ++ rest) (drop_more keys k key within)
    ∙ ap (λ (x : List Value). take k keys ++ x ∷ drop (k + 1) keys) here in
    let new_key : Contains old.keys key → ⊥ = λ held.
    not_before (take k keys) key (drop (k + 1) keys) (subst (AllPairs ◌≢◌) split distinct) (subst (λ (s : StoreState). Contains s.keys key) old_is held) in
    adds.first new_key
    ∙ ap (λ (s : StoreState). record s { keys = s.keys ++ key ∷ [] }) old_is
    ∙ ap (λ (ks : List (List Value)). record base { keys = ks }) (ap (λ (x : List Value). take k keys ++ x ∷ []) (sym here) ∙ sym (take_more keys k key within))

-- few messages pass a test
pub few_passing : (job : Job) (test : Message → Bool) → length (filter test job.protocol.messages) ≤ 64
few_passing job test = omega (arith, filter_short test job.protocol.messages, job.protocol.shape.counts.few_messages)

-- few keys with few messages
pub product_small : (keys messages : ℕ) → keys ≤ 10000 → messages ≤ 64 → keys * messages ≤ 640000
product_small keys messages few_keys few_messages = mul-le keys messages 10000 64 few_keys few_messages

-- the store of a new desk, as it is made
pub store_made : (job : Job) (role room : ℕ) (a : Expanded) (first held last : StoreState) → room ≡ events_of_role job role + 1 → a ≡ job.protocol → first ≡ new_store a role → held ≡ record first { keys = job.script.keys } → last ≡ record held { spare = max held.spare room } → last ≡ opened_store job role
store_made job role room a first held last room_is a_is first_is held_is last_is =
    let one : first ≡ new_store job.protocol role = first_is ∙ ap (λ (x : Expanded). new_store x role) a_is in
    let two : held ≡ record { protocol = job.protocol; role = role; keys = job.script.keys; entries = []; spare = 0 } = held_is ∙ ap (λ (s : StoreState). record s { keys = job.script.keys }) one in
    let most : max 0 room ≡ events_of_role job role + 1 = omega (arith, room_is) in
    last_is ∙ ap (λ (s : StoreState). record s { spare = max s.spare room }) two
    ∙ ap (λ (n : ℕ). record { protocol = job.protocol; role = role; keys = job.script.keys; entries = []; spare = n }) most

-- as many keys as the script has
pub keys_of_script : (job : Job) (s : Script) (n : ℕ) → n ≡ length s.keys → s ≡ job.script → n ≡ length job.script.keys
keys_of_script job s n count is = count ∙ ap (λ (t : Script). length t.keys) is

-- the messages of the job's protocol
pub messages_of_job : (job : Job) (a x : Expanded) (messages : List Message) → messages ≡ x.messages → x ≡ a → a ≡ job.protocol → messages ≡ job.protocol.messages
messages_of_job job a x messages are same is = are ∙ ap (λ (y : Expanded). y.messages) (same ∙ is)

-- new desks are kept, without events
pub opened_new : (job : Job) (desks : List DeskState) → AreOpened job desks → AreNew job desks
opened_new job desks opened =
    record {
      kept = (opened_sound job desks opened).kept;
      none = λ role d at. ap (λ (s : StoreState). s.entries) (opened.each role d at).store;
    }
