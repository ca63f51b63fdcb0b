-- What the first entries of a local history keep.
use Rattle.std.proofs.Common.{◌≡◌, ℕ, ◌+◌, ◌*◌, ◌<◌, ◌≤◌, Bool, Some, List, [], ◌∷◌, ◌++◌, length, take, drop, sym, ap, ◌∙◌, subst, arith, All, Contains}
use Rattle.std.specs.Prelude.{slice_get}
use Rattle.std.proofs.lemmas.List.{append_assoc, length-take-le, map-append, take-append-drop, take_more}
use Rattle.std.proofs.lemmas.List.Elements.{Contains-append_left}
use Rattle.std.proofs.lemmas.Option.{get_or_from_slice_get, slice_get_within}
use Rattle.list_base.proofs.Mapped.{all_of_mapped}
use Rattle.list_base.proofs.Membership.{all_prefix}
use Rattle.adapter.specs.Desk.{DeskState}
use Rattle.adapter.specs.Kept.{IsKept}
use Rattle.adapter.specs.Laws.{KeptEventsAreFew}
use Rattle.adapter.specs.Pending.{messages_of}
use Rattle.local_store.specs.State.{StoreState}
use Rattle.restart_run.specs.Disks.{bytes_for}
use Rattle.bspl_types.specs.declared.event.Event.{Event}
use Rattle.bspl_types.specs.declared.expanded.Expanded.{Expanded}
use Rattle.bspl_types.specs.declared.value.Value.{Value}
use Rattle.bspl_types.specs.History.{instance_of, role_of}
use Rattle.bspl_types.specs.Instance.{Fits}
use Rattle.bspl_types.specs.Knowledge.{Knows}
use Rattle.agent_scripts.specs.Job.{Job}
use Rattle.durable_store.specs.State.{DurableState}
use Rattle.role_journal.specs.Counts.{Counts}
use Rattle.role_journal.specs.Journal.{places}
use Rattle.stamped_history.specs.declared.entry.Entry.{Entry}
use Rattle.stamped_history.specs.Entries.{events_of}
use Rattle.stamped_history.specs.Local.{IsLocal}
use Rattle.restart_run.specs.inner.Keeping.{HasKept, MayAppend, MayKeep}

-- the events of two rows of entries
events_append : (xs ys : List Entry) → events_of (xs ++ ys) ≡ events_of xs ++ events_of ys
events_append xs ys = map-append (λ (e : Entry). e.event) xs ys

-- what the first events tell, all of them tell
knows_more : (x : Expanded) (xs ys : List Event) (key : List Value) (p : ℕ) (v : Value) → Knows x xs key p v → Knows x (xs ++ ys) key p v
knows_more x xs ys key p v knows = record {
  event = knows.event;
  among = Contains-append_left xs ys knows.event knows.among;
  under = knows.under;
  adornment = knows.adornment;
  carries = knows.carries;
}

-- the first entries are local by themselves
pub local_prefix : (x : Expanded) (role : ℕ) (xs ys : List Entry) → IsLocal x role (xs ++ ys) → IsLocal x role xs
local_prefix x role xs ys local =
    let events : events_of (xs ++ ys) ≡ events_of xs ++ events_of ys = events_append xs ys in
    record {
      fits = all_prefix (λ (e : Event). Fits x (instance_of e)) (events_of xs) (events_of ys) (subst (All (λ (e : Event). Fits x (instance_of e))) events local.fits);
      own = all_prefix (λ (e : Event). role_of x e ≡ role) (events_of xs) (events_of ys) (subst (All (λ (e : Event). role_of x e ≡ role)) events local.own);
      follows = λ before after e is. local.follows before (after ++ ys) e (ap (λ (h : List Entry). h ++ ys) is ∙ append_assoc before (e ∷ after) ys);
      one_value = λ key p v w one other.
          local.one_value key p v w
          (subst (λ (es : List Event). Knows x es key p v) (sym events) (knows_more x (events_of xs) (events_of ys) key p v one))
          (subst (λ (es : List Event). Knows x es key p w) (sym events) (knows_more x (events_of xs) (events_of ys) key p w other));
    }

-- one item more is one more of the first
pub take_next : {X : Type 0} (xs : List X) (k : ℕ) (x : X) → slice_get xs k ≡ Some x → take k xs ++ x ∷ [] ≡ take (k + 1) xs
take_next {X} xs k x at =
    ap (λ (y : X). take k xs ++ y ∷ []) (sym (get_or_from_slice_get xs k x x at)) ∙ sym (take_more xs k x (slice_get_within xs k x at))

-- the next entry may be appended after those before it
pub may_append : {D : Type 0} (seen : D → List ℕ) (counts : D → Counts) (job : Job) (role size k : ℕ) (entries : List Entry) (restarted : Bool) (s : DurableState D) (e : Entry) → MayKeep job role entries size → HasKept seen counts job role (take k entries) size restarted s → slice_get entries k ≡ Some e → MayAppend seen job role s e
may_append seen counts job role size k entries restarted s e may kept at =
    let within : k < length entries = slice_get_within entries k e at in
    let next : s.store.entries ++ e ∷ [] ≡ take (k + 1) entries = ap (λ (h : List Entry). h ++ e ∷ []) kept.entries_are ∙ take_next entries k e at in
    let whole : take (k + 1) entries ++ drop (k + 1) entries ≡ entries = take-append-drop (k + 1) entries in
    record {
      local = subst (IsLocal job.protocol role) (sym next) (local_prefix job.protocol role (take (k + 1) entries) (drop (k + 1) entries) (subst (IsLocal job.protocol role) (sym whole) may.local));
      under = subst (λ (f : Entry). Contains job.script.keys (instance_of f.event).key) (get_or_from_slice_get entries k e e at) (may.under k e within);
      room = subst (λ (n : ℕ). length s.store.entries < places n) (sym kept.size_is) (omega (arith, ap length kept.entries_are, length-take-le k entries (omega arith), may.few));
    }

-- what a kept desk has may be kept on a disk that is large enough
pub desk_may : (job : Job) (role size given : ℕ) (d : DeskState) (s : StoreState) → s ≡ d.store → IsKept job role d → KeptEventsAreFew → bytes_for job role ≤ given → size ≡ given → MayKeep job role s.entries size
desk_may job role size given d s is kept few large same =
    let count : length d.store.entries ≤ length job.script.keys * length (messages_of job.protocol role) = few job role d kept in
    let may : MayKeep job role d.store.entries size = record {
      local = subst (λ (x : Expanded). IsLocal x role d.store.entries) kept.protocol_is (subst (λ (r : ℕ). IsLocal d.store.protocol r d.store.entries) kept.role_is kept.consistent.local);
      under = all_of_mapped (λ (e : Event). Contains job.script.keys (instance_of e).key) (λ (e : Entry). e.event) d.store.entries kept.played.workload;
      few = omega (arith, count, large, same, kept.consistent.few);
    } in
    subst (λ (t : StoreState). MayKeep job role t.entries size) (sym is) may
