-- What a store emits at an agent's step is what the rules ask for.
use Rattle.std.proofs.Common.{◌≡◌, ◌≢◌, ℕ, ◌+◌, ◌-◌, ◌<◌, Bool, true, List, [], ◌∷◌, ◌++◌, length, get_or, take, Some, slice_get, refl, sym, ◌∙◌, ap, subst, arith, inl, inr, All, Contains}
use Rattle.std.specs.Prelude.{◌==◌}
use Rattle.std.specs.List.{AllPairs, filter}
use Rattle.std.proofs.lemmas.Bool.{cond-true}
use Rattle.std.proofs.lemmas.Bool.Decides.{Decides-eqb}
use Rattle.std.proofs.Math.Seq.{get_or-append_seam, take-append_seam}
use Rattle.std.proofs.lemmas.List.{length-map}
use Rattle.std.proofs.lemmas.List.Elements.{All-contains, All-head, All-tail, Contains-append_right}
use Rattle.std.proofs.lemmas.Option.{slice_get-get_or}
use Rattle.list_base.proofs.Members.{here}
use Rattle.list_base.proofs.Membership.{early_member, member_at, one_index}
use Rattle.bspl_types.specs.declared.envelope.Envelope.{Envelope}
use Rattle.bspl_types.specs.declared.envelope.Stamped.{Stamped}
use Rattle.bspl_types.specs.declared.event.Event.{Event}
use Rattle.bspl_types.specs.declared.event.Event.TheVariants.{Emit}
use Rattle.bspl_types.specs.declared.expanded.Expanded.{Expanded}
use Rattle.bspl_types.specs.declared.protocol.Carried.{Carried}
use Rattle.bspl_types.specs.declared.value.Value.{Value}
use Rattle.bspl_types.specs.Admission.{IsAdmitted}
use Rattle.bspl_types.specs.Expansion.{message_of}
use Rattle.bspl_types.specs.History.{history_of, role_of}
use Rattle.bspl_types.specs.Instance.{Fits}
use Rattle.bspl_types.specs.Knowledge.{CanEmit, Knows}
use Rattle.bspl_types.specs.Value.{EqualValuesAreOne}
use Rattle.agent_scripts.specs.Job.{Job}
use Rattle.agent_scripts.specs.Script.{is_declined, rule_of, value_at, message_values}
use Rattle.agent_scripts.specs.Statement.{IsSentBy}
use Rattle.enactment_model.specs.Liveness.{IsEmitted}
use Rattle.local_store.specs.Consistent.{IsConsistent}
use Rattle.bspl_types.specs.Choice.{chosen_params}
use Rattle.local_store.specs.Emission.{chosen_values, IsEmission, IsPlannedAt}
use Rattle.local_store.specs.State.{acts_of}
use Rattle.stamped_history.specs.PlayedLaws.{PlayedGrows}
use Rattle.stamped_history.specs.Played.{IsChosen, IsPassed}
use Rattle.stamped_history.specs.Rules.{IsNumber, TriesBefore}
use Rattle.reorder_net.specs.Losses.{copies_of}
use Rattle.reorder_net.specs.Mail.{IsPosted}
use Rattle.adapter.specs.declared.step.Planned.{Planned}
use Rattle.adapter.specs.declared.step.Step.{Step}
use Rattle.adapter.specs.Desk.{DeskState}
use Rattle.adapter.specs.Kept.{IsKept}
use Rattle.adapter.specs.Next.{IsAtWork, IsNext, IsPassedOver, IsWorkload}
use Rattle.adapter.specs.Rules.{key_of, rules_of}
use Rattle.adapter.specs.Steps.{IsPlanned, with_emission}
use Rattle.adapter.specs.Laws.{IsOrderly}
use Rattle.adapter.specs.Posted.{envelope_of}
use Rattle.adapter.specs.inner.NextStep.{IsNextStep, IsPlan, IsPossible}
use Rattle.adapter.proofs.EventLemmas.{none_if_not_emitted, with_event}
use Rattle.adapter.proofs.NextLemmas.{has_order, key_held, order_sent}
use Rattle.adapter.proofs.ValueLemmas.{given_value}

-- the order of the desk's role
order_at : (job : Job) (d : DeskState) → IsOrderly job → IsKept job d.store.role d → slice_get job.script.orders d.store.role ≡ Some ((rules_of job).order d.store.role)
order_at job d orderly kept = slice_get-get_or job.script.orders d.store.role [] (has_order job d orderly.fits kept)

-- what stands in it is sent by the role
sent : (job : Job) (d : DeskState) (m : ℕ) → IsOrderly job → IsKept job d.store.role d → Contains ((rules_of job).order d.store.role) m → IsSentBy d.store.protocol d.store.role m
sent job d m orderly kept among =
    All-contains (IsSentBy d.store.protocol d.store.role) ((rules_of job).order d.store.role) m (order_sent job d ((rules_of job).order d.store.role) orderly.fits kept (order_at job d orderly kept)) among

-- the step's message stands in it
in_order : (job : Job) (d : DeskState) (n m : ℕ) → IsNext job d.store n (Some m) → Contains ((rules_of job).order d.store.role) m
in_order job d n m next = subst (λ (ms : List ℕ). Contains ms m) (sym next.split) (Contains-append_right next.before (m ∷ next.after) m (here m next.after))

-- the key of the number
key_at : (job : Job) (n : ℕ) → IsWorkload job n → slice_get job.script.keys (n - 1) ≡ Some (key_of job n)
key_at job n number = slice_get-get_or job.script.keys (n - 1) [] (omega (arith, number.some, number.within))

-- has no other number
same_number : (job : Job) (n k : ℕ) (key : List Value) → IsOrderly job → IsWorkload job n → key ≡ key_of job n → IsNumber (rules_of job) k key → k ≡ n
same_number job n k key orderly number is other =
    let same : k - 1 ≡ n - 1 = one_index job.script.keys (k - 1) (n - 1) (key_of job n) orderly.fitting.distinct (other.at ∙ ap (λ v. Some v) is) (key_at job n number) in
    omega (arith, same, other.some, number.some)

-- the store can emit the step's message
pub possible : (job : Job) (d : DeskState) (n : ℕ) (t : Step) → IsOrderly job → IsKept job d.store.role d → IsWorkload job n → IsNextStep job d.store n t → IsPossible d.store t
possible job d n t orderly kept number step =
    let own : IsSentBy d.store.protocol d.store.role t.message = sent job d t.message orderly kept (in_order job d n t.message step.next) in
    let many : length t.outs ≡ length (chosen_params job.protocol t.message) = ap length step.outs_are ∙ length-map (chosen_params job.protocol t.message) (λ (c : Carried). value_at (rule_of job.script.rules t.message c.param) n) in
    record {
      attempt = record {
        proposal = record {
          held = subst (λ (key : List Value). Contains d.store.keys key) (sym step.key_is) (key_held job d (n - 1) (key_of job n) kept (key_at job n number));
          chosen = subst (λ (x : Expanded). length t.outs ≡ length (chosen_params x t.message)) (sym kept.protocol_is) many;
          clock = step.clock;
        };
        known = own.0;
        own = own.1;
        spare = omega (arith, kept.room);
      };
      row_is = step.row_is;
      can = subst (λ (key : List Value). CanEmit d.store.protocol (acts_of d.store) t.message key) (sym step.key_is) step.next.ready.can;
    }

-- a history of one role is its own part
all_pass : {X : Type 0} (p : X → Bool) (xs : List X) → All (λ x. p x ≡ true) xs → filter p xs ≡ xs
all_pass p [] all = refl
all_pass {X} p (x ∷ xs) all =
    cond-true (p x) (x ∷ filter p xs) (filter p xs) (All-head (λ (y : X). p y ≡ true) x xs all) ∙ ap (λ rest. x ∷ rest) (all_pass p xs (All-tail (λ (y : X). p y ≡ true) x xs all))

own_history : (x : Expanded) (role : ℕ) (history : List Event) → All (λ e. role_of x e ≡ role) history → history_of x role history ≡ history
own_history x role history own = all_pass (λ e. role_of x e == role) history (λ k d within. (Decides-eqb (role_of x (get_or history k d)) role).1 (own k d within))

-- what the role tries before the step's message was passed over
tried : (job : Job) (d : DeskState) (n m first : ℕ) → IsOrderly job → IsKept job d.store.role d → IsNext job d.store n (Some m) → TriesBefore (rules_of job) d.store.role first m → IsPassedOver job.script d.store n (key_of job n) first
tried job d n m first orderly kept next tries =
    let order : List ℕ = (rules_of job).order d.store.role in
    let parts : List ℕ = next.before ++ m ∷ next.after in
    let within : length next.before < length parts = omega (arith, length-seam next.before m next.after) in
    let seam : slice_get parts (length next.before) ≡ Some m = slice_get-get_or parts (length next.before) m within ∙ ap (λ k. Some k) (get_or-append_seam next.before m next.after m) in
    let distinct : AllPairs ◌≢◌ order = orderly.orders d.store.role order (order_at job d orderly kept) in
    let here_is : slice_get order (length next.before) ≡ Some m = ap (λ (ms : List ℕ). slice_get ms (length next.before)) next.split ∙ seam in
    let same : tries.later ≡ length next.before = one_index order tries.later (length next.before) m distinct tries.other_at here_is in
    let earlier : tries.index < length next.before = omega (arith, same, tries.in_order) in
    let among : Contains (take (length next.before) order) first = early_member order tries.index (length next.before) first tries.first_at earlier in
    let front : take (length next.before) order ≡ next.before = ap (λ (ms : List ℕ). take (length next.before) ms) next.split ∙ take-append_seam next.before (m ∷ next.after) in
    All-contains (IsPassedOver job.script d.store n (key_of job n)) next.before first next.passed (subst (λ (ms : List ℕ). Contains ms first) front among)
  where
    length-seam : (xs : List ℕ) (y : ℕ) (ys : List ℕ) → length (xs ++ y ∷ ys) ≡ length xs + length ys + 1
    length-seam [] y ys = omega arith
    length-seam (x ∷ xs) y ys = let rest = length-seam xs y ys in omega (arith, rest)

passed : (job : Job) (d : DeskState) (n first : ℕ) → IsKept job d.store.role d → IsSentBy d.store.protocol d.store.role first → IsPassedOver job.script d.store n (key_of job n) first → IsPassed job.protocol (rules_of job) (acts_of d.store) first n (key_of job n)
passed job d n first kept own over = elim over [
  | inl declined ↦ inl declined
  | inr rest ↦ elim rest [
    | inl emitted ↦ inr (inl emitted)
    | inr cannot ↦ inr (inr (λ can. cannot
        (subst (λ (x : Expanded). CanEmit x (acts_of d.store) first (key_of job n)) (sym kept.protocol_is)
        (subst (λ (es : List Event). CanEmit job.protocol es first (key_of job n)) whole can))))
  ]
]
  where
    sender_is : (message_of job.protocol first).sender ≡ d.store.role
    sender_is = subst (λ (x : Expanded). (message_of x first).sender ≡ d.store.role) kept.protocol_is own.1

    whole : history_of job.protocol (message_of job.protocol first).sender (acts_of d.store) ≡ acts_of d.store
    whole = ap (λ r. history_of job.protocol r (acts_of d.store)) sender_is ∙ own_history job.protocol d.store.role (acts_of d.store) (subst (λ (x : Expanded). All (λ e. role_of x e ≡ d.store.role) (acts_of d.store)) kept.protocol_is kept.consistent.local.own)

-- the agents' rules allow the emission
pub chosen : (job : Job) (d : DeskState) (n : ℕ) (t : Step) (m : Stamped) → IsOrderly job → IsKept job d.store.role d → IsWorkload job n → IsNextStep job d.store n t → IsEmission d.store t.message t.key t.outs m → IsChosen job.protocol (rules_of job) (acts_of d.store) m.instance
chosen job d n t m orderly kept number step emission =
    let i = m.instance in
    let key_is : i.key ≡ key_of job n = emission.key_is ∙ step.key_is in
    let same = λ (k : ℕ) (is : IsNumber (rules_of job) k i.key). same_number job n k i.key orderly number key_is is in
    let next : IsNext job d.store n (Some i.message) = subst (λ k. IsNext job d.store n (Some k)) (sym emission.message_is) step.next in
    let given : chosen_values d.store.protocol i ≡ message_values job.protocol job.script i.message n = emission.outs_are ∙ step.outs_are ∙ ap (λ k. message_values job.protocol job.script k n) (sym emission.message_is) in
    let given_there = subst (λ (x : Expanded). chosen_values x i ≡ message_values job.protocol job.script i.message n) kept.protocol_is given in
    let own : IsSentBy d.store.protocol d.store.role i.message = sent job d i.message orderly kept (in_order job d n i.message next) in
    let sender_is : (message_of job.protocol i.message).sender ≡ d.store.role = subst (λ (x : Expanded). (message_of x i.message).sender ≡ d.store.role) kept.protocol_is own.1 in
    record {
      accepted = λ k is. ap (λ j. is_declined job.script i.message j) (same k is) ∙ next.ready.accepted;
      first = subst (λ (key : List Value). ¬ IsEmitted (acts_of d.store) key i.message) (sym key_is) next.ready.never;
      values = λ k p v is carries free. given_value job.protocol job.script i n p v given_there carries free ∙ ap (λ j. (rules_of job).value i.message p j) (sym (same k is));
      passed = λ k first is tries.
          let before : TriesBefore (rules_of job) d.store.role first i.message = subst (λ r. TriesBefore (rules_of job) r first i.message) sender_is tries in
          let own_first = sent job d first orderly kept (member_at ((rules_of job).order d.store.role) before.index first before.first_at) in
          let over = passed job d n first kept own_first (tried job d n i.message first orderly kept next before) in
          subst (λ j. IsPassed job.protocol (rules_of job) (acts_of d.store) first j i.key) (sym (same k is))
          (subst (λ (key : List Value). IsPassed job.protocol (rules_of job) (acts_of d.store) first n key) (sym key_is) over);
    }

-- so its envelope is the planned one
pub planned : (job : Job) (d : DeskState) (n : ℕ) (t : Step) (m : Stamped) → IsOrderly job → IsKept job d.store.role d → IsWorkload job n → IsNextStep job d.store n t → IsEmission d.store t.message t.key t.outs m → IsPlanned job d.store n (envelope_of job d.store.role n m)
planned job d n t m orderly kept number step emission =
    record {
      clock = step.clock;
      next = subst (λ k. IsNext job d.store n (Some k)) (sym emission.message_is) step.next;
      emission = record {
        fits = emission.fits;
        message_is = refl;
        key_is = emission.key_is ∙ step.key_is;
        ins = λ p v carries. subst (λ (key : List Value). Knows d.store.protocol (acts_of d.store) key p v) step.key_is (emission.ins p v carries);
        outs_are = emission.outs_are ∙ step.outs_are ∙ ap (λ k. message_values job.protocol job.script k n) (sym emission.message_is);
        stamp_is = emission.stamp_is;
        number_is = emission.number_is;
      };
      played = chosen job d n t m orderly kept number step emission;
      from = refl;
      to = refl;
      copies = refl;
    }

-- if it has copies, the envelope can be posted
mailed : (job : Job) (d : DeskState) (n : ℕ) (t : Step) (m : Stamped) → IsOrderly job → IsKept job d.store.role d → IsWorkload job n → IsNextStep job d.store n t → IsEmission d.store t.message t.key t.outs m → 0 < copies_of job.plan m.instance.message n → IsPosted job d.store.role (message_of job.protocol m.instance.message).receiver (envelope_of job d.store.role n m)
mailed job d n t m orderly kept number step emission some =
    let i = m.instance in
    let key_is : i.key ≡ key_of job n = emission.key_is ∙ step.key_is in
    let next : IsNext job d.store n (Some i.message) = subst (λ k. IsNext job d.store n (Some k)) (sym emission.message_is) step.next in
    let own : IsSentBy d.store.protocol d.store.role i.message = sent job d i.message orderly kept (in_order job d n i.message next) in
    record {
      from_is = refl;
      to_is = refl;
      fits = subst (λ (x : Expanded). Fits x i) kept.protocol_is emission.fits;
      sent_by = subst (λ (x : Expanded). (message_of x i.message).sender ≡ d.store.role) kept.protocol_is own.1;
      sent_to = refl;
      workload = member_at job.script.keys (n - 1) i.key (key_at job n number ∙ ap (λ v. Some v) (sym key_is));
      copies = λ k is. ap (copies_of job.plan i.message) (sym (same_number job n k i.key orderly number key_is (record { some = is.some; at = is.at })));
      some = some;
    }

-- a desk that emitted it is kept
pub emitted_kept : PlayedGrows → EqualValuesAreOne → (job : Job) (d new : DeskState) (n : ℕ) (t : Step) (m : Stamped) → IsOrderly job → IsKept job d.store.role d → IsWorkload job n → IsNextStep job d.store n t → IsEmission d.store t.message t.key t.outs m → new ≡ with_emission d m → IsConsistent new.store → IsKept job d.store.role new
emitted_kept grows equal job d new n t m orderly kept number step emission changed consistent =
    let x = job.protocol in
    let role : ℕ = d.store.role in
    let i = m.instance in
    let key_is : i.key ≡ key_of job n = emission.key_is ∙ step.key_is in
    let played = chosen job d n t m orderly kept number step emission in
    let own : IsSentBy d.store.protocol role i.message = sent job d i.message orderly kept (in_order job d n i.message (subst (λ k. IsNext job d.store n (Some k)) (sym emission.message_is) step.next)) in
    let own_there : IsSentBy x role i.message = subst (λ (y : Expanded). IsSentBy y role i.message) kept.protocol_is own in
    let keyed = member_at job.script.keys (n - 1) i.key (key_at job n number ∙ ap (λ v. Some v) (sym key_is)) in
    let owns = subst (λ (y : Expanded). All (λ e. role_of y e ≡ role) (acts_of d.store)) kept.protocol_is kept.consistent.local.own in
    let admitted = subst IsAdmitted kept.protocol_is kept.consistent.admitted in
    let none = none_if_not_emitted x role (acts_of d.store) i.key i.message admitted own_there.0 owns own_there.1 played.first in
    subst (IsKept job role) (sym changed)
    (with_event grows equal job role d (Emit i) m.stamp m.number kept keyed own_there.0 own_there.1 none played (subst (λ (e : DeskState). IsConsistent e.store) changed consistent))

-- the same of an envelope that equals the message's
pub planned_as : (job : Job) (d : DeskState) (n role : ℕ) (t : Step) (m : Stamped) (e : Envelope) → IsOrderly job → IsKept job d.store.role d → IsWorkload job n → IsNextStep job d.store n t → IsEmission d.store t.message t.key t.outs m → role ≡ d.store.role → e ≡ envelope_of job role n m → IsPlanned job d.store n e
planned_as job d n role t m e orderly kept number step emission role_is is =
    subst (IsPlanned job d.store n) (sym (is ∙ ap (λ r. envelope_of job r n m) role_is)) (planned job d n t m orderly kept number step emission)

pub mailed_as : (job : Job) (d : DeskState) (n role : ℕ) (t : Step) (m : Stamped) (e : Envelope) → IsOrderly job → IsKept job d.store.role d → IsWorkload job n → IsNextStep job d.store n t → IsEmission d.store t.message t.key t.outs m → role ≡ d.store.role → e ≡ envelope_of job role n m → 0 < e.copies → IsPosted job d.store.role e.to e
mailed_as job d n role t m e orderly kept number step emission role_is is =
    subst (λ (f : Envelope). 0 < f.copies → IsPosted job d.store.role f.to f) (sym (is ∙ ap (λ r. envelope_of job r n m) role_is)) (mailed job d n t m orderly kept number step emission)

-- and it can be emitted under the step's row
pub plan_is : (job : Job) (d : DeskState) (n role : ℕ) (t : Step) (m : Stamped) (e : Envelope) → IsOrderly job → IsKept job d.store.role d → IsWorkload job n → IsNextStep job d.store n t → IsEmission d.store t.message t.key t.outs m → role ≡ d.store.role → e ≡ envelope_of job role n m → IsPlan job d.store n (record { row = t.row; envelope = e })
plan_is job d n role t m e orderly kept number step emission role_is is =
    let can = possible job d n t orderly kept number step in
    record {
      next = planned_as job d n role t m e orderly kept number step emission role_is is;
      possible = subst (λ (f : Envelope). IsPlannedAt d.store t.row f.message) (sym is)
          (record { message = t.message; key = t.key; outs = t.outs; attempt = can.attempt; can = can.can; row_is = step.row_is; emission = emission });
      mailed = mailed_as job d n role t m e orderly kept number step emission role_is is;
    }

-- a desk that emits what was planned is kept
pub plan_kept : PlayedGrows → EqualValuesAreOne → (job : Job) (d new : DeskState) (n : ℕ) (p : Planned) → IsOrderly job → IsAtWork job d n → IsPlan job d.store n p → new ≡ with_emission d p.envelope.message → IsConsistent new.store → IsKept job d.store.role new
plan_kept grows equal job d new n p orderly work plan changed consistent =
    let m = p.envelope.message in
    let step : Step = record { message = m.instance.message; row = p.row; key = key_of job n; outs = message_values job.protocol job.script m.instance.message n } in
    let is : IsNextStep job d.store n step = record {
      clock = plan.next.clock;
      next = plan.next.next;
      key_is = refl;
      row_is = plan.possible.row_is ∙ ap (λ (k : List Value). Some k) (sym plan.possible.emission.key_is ∙ plan.next.emission.key_is);
      outs_are = refl;
    } in
    emitted_kept grows equal job d new n step m orderly work.kept work.number is plan.next.emission changed consistent
