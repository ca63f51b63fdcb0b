-- What a role took out of its mailbox explains the role's receipt.
use Rattle.std.proofs.Common.{◌≡◌, ℕ, ◌+◌, Bool, true, false, List, [], ◌∷◌, ◌++◌, length, Some, slice_get, refl, sym, ◌∙◌, ap, subst, inl, inr, Contains}
use Rattle.std.specs.Prelude.{max, if◌then◌else◌}
use Rattle.std.specs.List.{flat_map}
use Rattle.std.proofs.lemmas.List.Elements.{Contains-append_cases}
use Rattle.list_base.proofs.Members.{nowhere, only}
use Rattle.bspl_types.specs.declared.envelope.Envelope.{Envelope}
use Rattle.bspl_types.specs.declared.event.Event.{Event}
use Rattle.bspl_types.specs.declared.event.Event.TheVariants.{Emit, Receive}
use Rattle.bspl_types.specs.declared.event.Instance.{Instance}
use Rattle.bspl_types.specs.declared.expanded.Expanded.{Expanded}
use Rattle.bspl_types.specs.Expansion.{message_of}
use Rattle.stamped_history.specs.declared.entry.Entry.{Entry}
use Rattle.stamped_history.specs.Entries.{last_stamp}
use Rattle.stamped_history.specs.Explained.{history_at}
use Rattle.stamped_history.specs.Local.{MayFollowAs}
use Rattle.agent_scripts.specs.Job.{Job}
use Rattle.adapter.specs.Laws.{TakenEnvelopesExplain}
use Rattle.adapter.specs.Posted.{posted_by_event}

-- the item of a list that gives a member of a flat list
record IsGivenBy {X Y : Type 0} (f : X → List Y) (xs : List X) (y : Y) : Type 0 where
  before : List X
  item : X
  after : List X
  split : xs ≡ before ++ item ∷ after
  among : Contains (f item) y

given_by : {X Y : Type 0} (f : X → List Y) (xs : List X) (y : Y) → Contains (flat_map f xs) y → IsGivenBy f xs y
given_by f [] y among = absurd (nowhere y among)
given_by f (x ∷ xs) y among = elim (Contains-append_cases (f x) (flat_map f xs) y among) [
  | inl here ↦ record { before = []; item = x; after = xs; split = refl; among = here }
  | inr rest ↦ let r = given_by f xs y rest in record { before = x ∷ r.before; item = r.item; after = r.after; split = ap (λ l. x ∷ l) r.split; among = r.among }
]

at_split : {X : Type 0} (before : List X) (x : X) (after : List X) → slice_get (before ++ x ∷ after) (length before) ≡ Some x
at_split [] x after = refl
at_split (y ∷ before) x after = at_split before x after

one_or_none : (test : Bool) (e x : Envelope) → Contains (if test then e ∷ [] else []) x → e ≡ x
one_or_none true e x among = only e x among
one_or_none false e x among = absurd (nowhere x among)

-- a posted envelope has the instance, the stamp and the number of its emission
is_emission : (job : Job) (sender role : ℕ) (event : Event) (stamp number : ℕ) (x : Envelope) → Contains (posted_by_event job sender role event stamp number) x
    → (event ≡ Emit x.message.instance) × (stamp ≡ x.message.stamp) × (number ≡ x.message.number)
is_emission job sender role (Emit i) stamp number x among =
    let is = one_or_none _ _ x among in
    (ap (λ (y : Envelope). Emit y.message.instance) is, ap (λ (y : Envelope). y.message.stamp) is, ap (λ (y : Envelope). y.message.number) is)
is_emission job sender role (Receive i) stamp number x among = absurd (nowhere x among)

-- an emission's number is its index
own_number : (x : Expanded) (before : List Entry) (e : Entry) (i : Instance) → e.event ≡ Emit i → MayFollowAs x before e.event e.stamp e.number → e.number ≡ length before
own_number x before e i is may = (subst (λ (event : Event). MayFollowAs x before event e.stamp e.number) is may).own

pub explained : TakenEnvelopesExplain
explained job histories sender role taken before i receipt local was posted among =
    let x = was.envelope in
    let entries = history_at histories sender in
    let r = given_by (λ (e : Entry). posted_by_event job sender role e.event e.stamp e.number) entries x among in
    let e = r.item in
    let emission = is_emission job sender role e.event e.stamp e.number x r.among in
    let own = own_number job.protocol r.before e x.message.instance emission.0 (local.follows r.before r.after e r.split) in
    let number : receipt.number ≡ length r.before = was.number_is ∙ sym emission.2 ∙ own in
    let sent_by : (message_of job.protocol i.message).sender ≡ sender = ap (λ (j : Instance). (message_of job.protocol j.message).sender) (sym was.instance_is) ∙ posted.sent_by in
    record {
      emission = e;
      numbered = subst (λ (y : ℕ × ℕ). slice_get (history_at histories y.0) y.1 ≡ Some e) (λ k. (sym sent_by k, sym number k)) (subst (λ (l : List Entry). slice_get l (length r.before) ≡ Some e) (sym r.split) (at_split r.before e r.after));
      emitted = emission.0 ∙ ap (λ (j : Instance). Emit j) was.instance_is;
      stamped = was.stamped ∙ ap (λ n. max (last_stamp before) n + 1) (sym emission.1);
    }
