-- A kept desk has one next envelope at a number, or none.
use Rattle.std.proofs.Common.{◌≡◌, ℕ, true, None, Some, List, [], ◌∷◌, ◌++◌, length, refl, sym, ◌∙◌, ap, subst, arith, inl, inr, ⊎_elim, All, Contains}
use Rattle.std.specs.List.{zip}
use Rattle.std.proofs.lemmas.Bool.{true≢false}
use Rattle.std.proofs.lemmas.List.Elements.{All-contains, All-head, All-tail, Contains-append_right}
use Rattle.std.proofs.lemmas.Option.{same_Some}
use Rattle.list_base.proofs.Filtered.{filtered_member}
use Rattle.list_base.proofs.Members.{here}
use Rattle.list_base.proofs.Membership.{index_of}
use Rattle.list_base.proofs.Partners.{zipped_member}
use Rattle.bspl_types.specs.declared.envelope.Envelope.{Envelope}
use Rattle.bspl_types.specs.declared.event.Instance.{Instance}
use Rattle.bspl_types.specs.declared.expanded.Expanded.{Expanded}
use Rattle.bspl_types.specs.declared.protocol.Adornment.{Adornment}
use Rattle.bspl_types.specs.declared.protocol.Adornment.TheVariants.{In, Out, Nil}
use Rattle.bspl_types.specs.declared.protocol.Carried.{Carried}
use Rattle.bspl_types.specs.declared.value.Value.{Value}
use Rattle.bspl_types.specs.Adornment.{has_value, valued}
use Rattle.bspl_types.specs.Expansion.{message_of}
use Rattle.bspl_types.specs.Instance.{Carries, Fits, pairs}
use Rattle.bspl_types.specs.KeyAgrees.{KeyAgrees}
use Rattle.bspl_types.specs.Knowledge.{Knows}
use Rattle.stamped_history.specs.Local.{KnowsOneValue}
use Rattle.agent_scripts.specs.Job.{Job}
use Rattle.agent_scripts.specs.Script.{rule_of, Script, value_at, message_values}
use Rattle.local_store.specs.Emission.{chosen_values}
use Rattle.local_store.specs.State.{StoreState, acts_of}
use Rattle.reorder_net.specs.Losses.{copies_of}
use Rattle.adapter.specs.Desk.{DeskState}
use Rattle.adapter.specs.Kept.{IsKept}
use Rattle.adapter.specs.Laws.{NextEnvelopesAreOne}
use Rattle.adapter.specs.Next.{IsFirstToEmit, IsPassedOver, CanEmitNext}
use Rattle.adapter.specs.Rules.{key_of, rules_of}
use Rattle.adapter.specs.Steps.{IsNextEnvelope, IsPlanned}
use Rattle.adapter.proofs.TakingLemmas.{same_values}
use Rattle.adapter.proofs.ValueLemmas.{given_value, is_among}

-- what is passed over is not ready
not_both : (script : Script) (s : StoreState) (n : ℕ) (key : List Value) (m : ℕ) → IsPassedOver script s n key m → CanEmitNext script s n key m → ⊥
not_both script s n key m over ready = elim over [
  | inl declined ↦ true≢false (sym declined ∙ ready.accepted)
  | inr rest ↦ elim rest [
    | inl emitted ↦ ready.never emitted
    | inr cannot ↦ cannot ready.can
  ]
]

-- the first item of a kind, after others that are not of it, is one
first_is_one : (P R : ℕ → Type 0) → ((k : ℕ) → P k → R k → ⊥) → (xs ys : List ℕ) (x y : ℕ) (after other : List ℕ) → (xs ++ x ∷ after) ≡ (ys ++ y ∷ other) → All P xs → R x → All P ys → R y → x ≡ y
first_is_one P R apart [] [] x y after other same over ready over_too ready_too = let first : x ≡ y = cc in first
first_is_one P R apart [] (z ∷ ys) x y after other same over ready over_too ready_too =
    let first : x ≡ z = cc in
    absurd (apart z (All-head P z ys over_too) (subst R first ready))
first_is_one P R apart (z ∷ xs) [] x y after other same over ready over_too ready_too =
    let first : y ≡ z = cc in
    absurd (apart z (All-head P z xs over) (subst R first ready_too))
first_is_one P R apart (z ∷ xs) (w ∷ ys) x y after other same over ready over_too ready_too =
    let rest : (xs ++ x ∷ after) ≡ (ys ++ y ∷ other) = cc in
    first_is_one P R apart xs ys x y after other rest (All-tail P z xs over) ready (All-tail P w ys over_too) ready_too

first_to_emit_is_one : (script : Script) (s : StoreState) (n : ℕ) (key : List Value) (order : List ℕ) (m k : ℕ) → IsFirstToEmit script s n key order m → IsFirstToEmit script s n key order k → m ≡ k
first_to_emit_is_one script s n key order m k one other =
    first_is_one (IsPassedOver script s n key) (CanEmitNext script s n key) (not_both script s n key) one.before other.before m k one.after other.after (sym one.split ∙ other.split) one.passed one.ready other.passed other.ready

-- nothing is ready if all is passed over
none_can_emit : (script : Script) (s : StoreState) (n : ℕ) (key : List Value) (order : List ℕ) (m : ℕ) → All (IsPassedOver script s n key) order → IsFirstToEmit script s n key order m → ⊥
none_can_emit script s n key order m all first =
    let among : Contains order m = subst (λ (ms : List ℕ). Contains ms m) (sym first.split) (Contains-append_right first.before (m ∷ first.after) m (here m first.after)) in
    not_both script s n key m (All-contains (IsPassedOver script s n key) order m all among) first.ready

-- the value of a key parameter is the key's
key_value : (keys : List ℕ) (key : List Value) (c : Carried) (v w : Value) → Contains keys c.param → KeyAgrees keys key (c, v) → KeyAgrees keys key (c, w) → v ≡ w
key_value keys key c v w among one other =
    let at = index_of keys c.param among in
    same_Some v w (sym (one.same at.0 at.1) ∙ other.same at.0 at.1)

-- the values of a planned emission: what is known, the key's, or the script's
record Determines (x : Expanded) (s : StoreState) (script : Script) (n : ℕ) (i : Instance) : Type 0 where
  fits : Fits x i
  ins : (p : ℕ) (v : Value) → Carries x i In p v → Knows x (acts_of s) i.key p v
  given : chosen_values x i ≡ message_values x script i.message n

-- are the same in two of one message and one key
one_value : (x : Expanded) (s : StoreState) (script : Script) (n : ℕ) (i j : Instance) → KnowsOneValue x (acts_of s) → Determines x s script n i → Determines x s script n j → i.message ≡ j.message → i.key ≡ j.key → (c : Carried) (v w : Value) → Contains (pairs x i) (c, v) → Contains (pairs x j) (c, w) → v ≡ w
one_value x s script n i j knows one other message key c v w among among_too =
    (elim c.adornment as (λ (a : Adornment). c.adornment ≡ a → v ≡ w) [
      | In ↦ λ is.
          knows j.key c.param v w
          (subst (λ (k : List Value). Knows x (acts_of s) k c.param v) key (one.ins c.param v (carried i v In is among)))
          (other.ins c.param w (carried j w In is among_too))
      | Out ↦ λ is. ⊎_elim
          (λ (is_key : Contains x.keys c.param). key_value x.keys j.key c v w is_key
          (subst (λ (k : List Value). KeyAgrees x.keys k (c, v)) key (All-contains (KeyAgrees x.keys i.key) (pairs x i) (c, v) one.fits.key_values among))
          (All-contains (KeyAgrees x.keys j.key) (pairs x j) (c, w) other.fits.key_values among_too))
          (λ (free : ¬ Contains x.keys c.param).
          given_value x script i n c.param v one.given (carried i v Out is among) free
          ∙ ap (λ m. value_at (rule_of script.rules m c.param) n) message
          ∙ sym (given_value x script j n c.param w other.given (carried j w Out is among_too) free))
          (is_among x.keys c.param)
      | Nil ↦ λ is.
          let has : has_value c.adornment ≡ true = (filtered_member (λ d. has_value d.adornment) (message_of x i.message).carried c (zipped_member (valued (message_of x i.message).carried) i.values c v among)).1 in
          absurd (true≢false (sym has ∙ ap has_value is))
    ]) refl
  where
    carried : (k : Instance) (u : Value) (a : Adornment) → c.adornment ≡ a → Contains (pairs x k) (c, u) → Carries x k a c.param u
    carried k u a is within = subst (λ (b : Adornment). Contains (pairs x k) (record { param = c.param; adornment = b }, u)) is within

-- so two are one instance
one_instance : (x : Expanded) (s : StoreState) (script : Script) (n : ℕ) (i j : Instance) → KnowsOneValue x (acts_of s) → Determines x s script n i → Determines x s script n j → i.message ≡ j.message → i.key ≡ j.key → i ≡ j
one_instance x s script n i j knows one other message key =
    let cs = valued (message_of x j.message).carried in
    let same_zip = ap (λ m. zip (valued (message_of x m).carried) i.values) message in
    let values : i.values ≡ j.values = same_values cs i.values j.values (one.fits.each_value ∙ ap (λ m. length (valued (message_of x m).carried)) message) other.fits.each_value
    (λ c v w first second. one_value x s script n i j knows one other message key c v w (subst (λ ps. Contains ps (c, v)) (sym same_zip) first) second) in
    λ k. record { message = message k; key = key k; values = values k }

determined : (job : Job) (d : DeskState) (role n : ℕ) (e : Envelope) → IsKept job role d → IsPlanned job d.store n e → Determines job.protocol d.store job.script n e.message.instance
determined job d role n e kept plan =
    let i = e.message.instance in
    record {
      fits = subst (λ (x : Expanded). Fits x i) kept.protocol_is plan.emission.fits;
      ins = λ p v carries. subst (λ (key : List Value). Knows job.protocol (acts_of d.store) key p v) (sym plan.emission.key_is)
          (subst (λ (x : Expanded). Carries x i In p v → Knows x (acts_of d.store) (key_of job n) p v) kept.protocol_is (plan.emission.ins p v) carries);
      given = subst (λ (x : Expanded). chosen_values x i ≡ message_values job.protocol job.script i.message n) kept.protocol_is plan.emission.outs_are;
    }

-- and two planned envelopes are one
one_plan : (job : Job) (role : ℕ) (d : DeskState) (n : ℕ) (e f : Envelope) → IsKept job role d → IsPlanned job d.store n e → IsPlanned job d.store n f → e ≡ f
one_plan job role d n e f kept one other =
    let message = first_to_emit_is_one job.script d.store n (key_of job n) ((rules_of job).order d.store.role) e.message.instance.message f.message.instance.message one.next other.next in
    let knows = subst (λ (x : Expanded). KnowsOneValue x (acts_of d.store)) kept.protocol_is kept.consistent.local.one_value in
    let instance = one_instance job.protocol d.store job.script n e.message.instance f.message.instance knows (determined job d role n e kept one) (determined job d role n f kept other) message (one.emission.key_is ∙ sym other.emission.key_is) in
    let stamp = one.emission.stamp_is ∙ sym other.emission.stamp_is in
    let number = one.emission.number_is ∙ sym other.emission.number_is in
    let to = one.to ∙ ap (λ m. (message_of job.protocol m).receiver) message ∙ sym other.to in
    let from = one.from ∙ sym other.from in
    let copies = one.copies ∙ ap (λ m. copies_of job.plan m n) message ∙ sym other.copies in
    λ k. record { to = to k; from = from k; message = record { instance = instance k; stamp = stamp k; number = number k }; copies = copies k }

-- an envelope is planned only if there is a step
no_plan : (job : Job) (d : DeskState) (n : ℕ) (e : Envelope) → IsNextEnvelope job d.store n None → IsPlanned job d.store n e → ⊥
no_plan job d n e nothing plan = elim nothing [
  | inl all ↦ none_can_emit job.script d.store n (key_of job n) ((rules_of job).order d.store.role) e.message.instance.message all plan.next
  | inr limit ↦ omega (arith, limit, plan.clock)
]

pub one_next : NextEnvelopesAreOne
one_next job role d n None None kept one other = refl
one_next job role d n None (Some f) kept one other = absurd (no_plan job d n f one other)
one_next job role d n (Some e) None kept one other = absurd (no_plan job d n e other one)
one_next job role d n (Some e) (Some f) kept one other = ap (λ g. Some g) (one_plan job role d n e f kept one other)
