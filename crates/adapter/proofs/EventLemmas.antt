-- What a desk keeps with one event more.
use Rattle.std.proofs.Common.{◌≡◌, ◌≢◌, ℕ, ◌-◌, ◌<◌, List, [], ◌∷◌, ◌++◌, length, get_or, sym, ◌∙◌, ap, subst, arith, All, Contains}
use Rattle.std.specs.List.{AllPairs}
use Rattle.std.proofs.lemmas.List.{map-append}
use Rattle.std.proofs.lemmas.List.Elements.{All-contains, All-contains_itself}
use Rattle.std.proofs.lemmas.List.Quantifiers.{all_pairs_push}
use Rattle.bspl_types.specs.declared.event.Event.{Event}
use Rattle.bspl_types.specs.declared.event.Event.TheVariants.{Emit, Receive}
use Rattle.bspl_types.specs.declared.expanded.Expanded.{Expanded}
use Rattle.bspl_types.specs.declared.value.Value.{Value}
use Rattle.bspl_types.specs.Admission.{IsAdmitted}
use Rattle.bspl_types.specs.Expansion.{message_of, no_message}
use Rattle.bspl_types.specs.History.{instance_of, role_of}
use Rattle.bspl_types.specs.Value.{EqualValuesAreOne}
use Rattle.stamped_history.specs.declared.entry.Entry.{Entry}
use Rattle.agent_scripts.specs.Job.{Job}
use Rattle.enactment_model.specs.Liveness.{IsEmitted}
use Rattle.local_store.specs.Consistent.{IsConsistent}
use Rattle.local_store.specs.State.{acts_of, with_entry}
use Rattle.stamped_history.specs.PlayedLaws.{PlayedGrows}
use Rattle.stamped_history.specs.Played.{IsPlayed, Played}
use Rattle.adapter.specs.Desk.{DeskState}
use Rattle.adapter.specs.Kept.{AreDistinctEvents, IsKept}
use Rattle.adapter.specs.Pending.{messages_of, pairs_of, pending}
use Rattle.adapter.specs.Rules.{rules_of}
use Rattle.adapter.proofs.PendingLemmas.{fewer_pending, HasNone}

-- an event of a new pair is apart from the others
apart : (history : List Event) (e : Event) → HasNone history (instance_of e).key (instance_of e).message → (f : Event) → Contains history f → AreDistinctEvents f e
apart history (Emit j) none (Emit i) among = λ one other. none (Emit i) among one other
apart history (Emit j) none (Receive i) among = tt
apart history (Receive j) none (Emit i) among = tt
apart history (Receive j) none (Receive i) among = λ one other. none (Receive i) among one other

all_apart : (history : List Event) (e : Event) → HasNone history (instance_of e).key (instance_of e).message → AllPairs AreDistinctEvents history → AllPairs AreDistinctEvents (history ++ e ∷ [])
all_apart history e none once = all_pairs_push AreDistinctEvents history e once (λ k d within. apart history e none (get_or history k d) (All-contains_itself history k d within))

-- an event of a new pair, which is played, leaves the desk kept
pub with_event : PlayedGrows → EqualValuesAreOne → (job : Job) (role : ℕ) (d : DeskState) (e : Event) (stamp number : ℕ) → IsKept job role d → Contains job.script.keys (instance_of e).key → (instance_of e).message < length job.protocol.messages → role_of job.protocol e ≡ role → HasNone (acts_of d.store) (instance_of e).key (instance_of e).message → IsPlayed job.protocol (rules_of job) (acts_of d.store) e → IsConsistent (with_entry d.store e stamp number) → IsKept job role (record d { store = with_entry d.store e stamp number })
with_event grows equal job role d e stamp number kept keyed within own none played consistent =
    let acts : List Event = acts_of d.store in
    let entry : Entry = record { event = e; stamp = stamp; number = number } in
    let grown : acts ++ e ∷ [] ≡ acts_of (with_entry d.store e stamp number) = sym (map-append (λ (f : Entry). f.event) d.store.entries (entry ∷ [])) in
    let pairs = pairs_of job.script.keys (messages_of job.protocol role) in
    let less = fewer_pending job.protocol role job.script.keys acts e equal keyed within own none in
    let room : length (pending (acts ++ e ∷ []) pairs) < d.store.spare - 1 = omega (arith, less, kept.room) in
    record {
      protocol_is = kept.protocol_is;
      role_is = kept.role_is;
      consistent = consistent;
      once = subst (AllPairs AreDistinctEvents) grown (all_apart acts e none kept.once);
      held = kept.held;
      room = subst (λ (es : List Event). length (pending es pairs) < d.store.spare - 1) grown room;
      played = subst (λ (es : List Event). Played job.protocol (rules_of job) es) grown (grows job.protocol (rules_of job) acts e kept.played keyed played);
      inbox = kept.inbox;
    }

-- a message goes from one role to another
pub two_roles : (x : Expanded) (m : ℕ) → IsAdmitted x → m < length x.messages → (message_of x m).sender ≢ (message_of x m).receiver
two_roles x m admitted within = (admitted.each_message m no_message within).two_roles

-- a message that the role sends and never emitted under the key has no event there
pub none_if_not_emitted : (x : Expanded) (role : ℕ) (history : List Event) (key : List Value) (m : ℕ) → IsAdmitted x → m < length x.messages → All (λ e. role_of x e ≡ role) history → (message_of x m).sender ≡ role → ¬ IsEmitted history key m → HasNone history key m
none_if_not_emitted x role history key m admitted within own sends never (Emit i) among under is = never (record { instance = i; emitted = among; under = under; message_is = is })
none_if_not_emitted x role history key m admitted within own sends never (Receive i) among under is =
    let takes : (message_of x i.message).receiver ≡ role = All-contains (λ e. role_of x e ≡ role) history (Receive i) own among in
    let taken : (message_of x m).receiver ≡ role = ap (λ k. (message_of x k).receiver) (sym is) ∙ takes in
    two_roles x m admitted within (sends ∙ sym taken)
