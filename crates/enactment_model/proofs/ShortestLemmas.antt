-- Whether a position is the second of a conflict is decided, so a run with a conflict has a first one.
use Rattle.std.proofs.Common.{◌≡◌, ℕ, ◌+◌, ◌<◌, Bool, true, false, List, take, Option, Some, None, inl, inr, refl, sym, ap, ◌∙◌, subst, arith}
use Rattle.std.specs.Prelude.{◌==◌, slice_get}
use Rattle.std.specs.List.{Contains}
use Rattle.std.proofs.lemmas.Bool.{both_ways, eq-eqb}
use Rattle.std.proofs.lemmas.Bool.Decides.{Decides-eqb}
use Rattle.std.proofs.lemmas.Option.{none-some, same_Some}
use Rattle.list_base.proofs.Membership.{early_index, early_member}
use Rattle.bspl_types.specs.declared.event.Event.{Event}
use Rattle.bspl_types.specs.declared.event.Event.TheVariants.{Emit, Receive}
use Rattle.bspl_types.specs.declared.event.Instance.{Instance}
use Rattle.bspl_types.specs.declared.expanded.Expanded.{Expanded}
use Rattle.bspl_types.specs.declared.protocol.Adornment.TheVariants.{In, Out, Nil}
use Rattle.bspl_types.specs.declared.protocol.Carried.{Carried}
use Rattle.bspl_types.specs.declared.value.Value.{Value}
use Rattle.bspl_types.specs.Expansion.{Adorns, message_of}
use Rattle.bspl_types.specs.History.{instance_of}
use Rattle.bspl_types.specs.Value.{EqualValuesAreOne, equal_values}
use Rattle.enactment_model.specs.Legal.{IsLegalRun}
use Rattle.enactment_model.specs.Safety.{Conflict}
use Rattle.enactment_model.specs.ShortestConflict.{HasShortestConflict}
use Rattle.enactment_model.specs.Rivals.{IsProducer}
use Rattle.enactment_model.proofs.ConflictLemmas.{conflict_adorns, conflict_key, prefix_position, prefix_producer, producer_within, whole_producer}
use Rattle.enactment_model.proofs.DecidedLemmas.{Decided, HasMember, Least, least_of, member_decided}
use Rattle.enactment_model.proofs.LegalLemmas.{prefix_legal_run}

-- a test decides what it is exact for
tested : (b : Bool) (P : Type 0) → (b ≡ true → P) → (P → b ≡ true) → Decided P
tested true P sound complete = inl (sound refl)
tested false P sound complete = inr (λ holds. both_ways false refl (complete holds))

-- whether two keys are one
keys_decided : EqualValuesAreOne → (one other : List Value) → Decided (one ≡ other)
keys_decided exact one other = tested (equal_values one other) (one ≡ other) (exact one other).0 (exact one other).1

-- whether a parameter is adorned `out`
out_decided : (c : Carried) → Decided (c.adornment ≡ Out)
out_decided c = elim c.adornment as (λ a. Decided (a ≡ Out)) [
  | In ↦ inr (λ same. absurd (cc))
  | Out ↦ inl refl
  | Nil ↦ inr (λ same. absurd (cc))
]

-- whether a parameter is the one, adorned `out`
produced_decided : (p : ℕ) (c : Carried) → Decided (c ≡ record { param = p; adornment = Out })
produced_decided p c = elim (out_decided c) [
  | inl is_out ↦ tested (c.param == p) (c ≡ record { param = p; adornment = Out })
      (λ same i. record { param = (Decides-eqb c.param p).0 same i; adornment = is_out i })
      (λ same. eq-eqb c.param p (ap (λ d. d.param) same))
  | inr not_out ↦ inr (λ same. not_out (ap (λ d. d.adornment) same))
]

-- whether an event is an emission under the key that produces the parameter
producer_decided : EqualValuesAreOne → (x : Expanded) (key : List Value) (p : ℕ) (e : Event) → Decided (IsProducer x key p e)
producer_decided exact x key p (Receive i) = inr (λ producer. absurd (cc producer.emitted))
producer_decided exact x key p (Emit i) = elim (keys_decided exact i.key key) [
  | inr other ↦ inr (λ producer. other (ap (λ e. (instance_of e).key) producer.emitted ∙ producer.under))
  | inl under ↦ elim (member_decided (λ c. c ≡ record { param = p; adornment = Out }) (produced_decided p) (message_of x i.message).carried) [
    | inl (c, among, is) ↦ inl (record { instance = i; emitted = refl; under = under; adorned = subst (Contains (message_of x i.message).carried) is among })
    | inr none ↦ inr (λ producer. none (record { param = p; adornment = Out }, subst (λ e. Adorns x (instance_of e).message Out p) (sym producer.emitted) producer.adorned, refl))
  ]
]

-- the event at the position is the second of a conflict
pub record EndsConflict (x : Expanded) (run : List Event) (second : ℕ) : Type 0 where
  pub key : List Value
  pub param : ℕ
  pub first : ℕ
  pub conflict : Conflict x run key param first second

-- the parameter is produced by an emission and by an earlier event under its key
abbrev IsShared : Expanded → List Event → Instance → Carried → Type 0
IsShared x earlier i c = (c.adornment ≡ Out) × HasMember (IsProducer x i.key c.param) earlier

-- a shared parameter makes a conflict
conflict_from_shared : (x : Expanded) (run : List Event) (second : ℕ) (i : Instance) → slice_get run second ≡ Some (Emit i) → HasMember (IsShared x (take second run) i) (message_of x i.message).carried → EndsConflict x run second
conflict_from_shared x run second i at (c, carried, (is_out, (e, among, producer))) =
    let (first, before, first_at) = early_index run second e among in
    record {
      key = i.key;
      param = c.param;
      first = first;
      conflict = record {
        in_order = before;
        first_produces = record { instance = producer.instance; emitted = first_at ∙ ap Some producer.emitted; under = producer.under; adorned = producer.adorned };
        second_produces = record { instance = i; emitted = at; under = refl; adorned = subst (λ a. Contains (message_of x i.message).carried (record { param = c.param; adornment = a })) is_out carried };
      };
    }

-- and a conflict has a shared parameter
shared_from_conflict : (x : Expanded) (run : List Event) (second : ℕ) (i : Instance) → slice_get run second ≡ Some (Emit i) → EndsConflict x run second → HasMember (IsShared x (take second run) i) (message_of x i.message).carried
shared_from_conflict x run second i at ends =
    let one = ends.conflict.first_produces in (
      record { param = ends.param; adornment = Out },
      conflict_adorns x run ends.key ends.param ends.first second i at ends.conflict,
      (
        refl,
        (
          Emit one.instance,
          early_member run ends.first second (Emit one.instance) one.emitted ends.conflict.in_order,
          record { instance = one.instance; emitted = refl; under = one.under ∙ conflict_key x run ends.key ends.param ends.first second i at ends.conflict; adorned = one.adorned },
        ),
      ),
    )

-- whether a parameter is shared
shared_decided : EqualValuesAreOne → (x : Expanded) (earlier : List Event) (i : Instance) (c : Carried) → Decided (IsShared x earlier i c)
shared_decided exact x earlier i c = elim (out_decided c) [
  | inr not_out ↦ inr (λ shared. not_out shared.0)
  | inl is_out ↦ elim (member_decided (IsProducer x i.key c.param) (producer_decided exact x i.key c.param) earlier) [
    | inl member ↦ inl (is_out, member)
    | inr none ↦ inr (λ shared. none shared.1)
  ]
]

-- whether the event at a position is the second of a conflict
ends_at : EqualValuesAreOne → (x : Expanded) (run : List Event) (second : ℕ) (found : Option Event) → slice_get run second ≡ found → Decided (EndsConflict x run second)
ends_at exact x run second None past = inr (λ ends. none-some (Emit ends.conflict.second_produces.instance) (sym past ∙ ends.conflict.second_produces.emitted))
ends_at exact x run second (Some (Receive i)) at = inr (λ ends.
    let same = same_Some (Receive i) (Emit ends.conflict.second_produces.instance) (sym at ∙ ends.conflict.second_produces.emitted) in
    absurd (cc same))
ends_at exact x run second (Some (Emit i)) at = elim (member_decided (IsShared x (take second run) i) (shared_decided exact x (take second run) i) (message_of x i.message).carried) [
  | inl shared ↦ inl (conflict_from_shared x run second i at shared)
  | inr none ↦ inr (λ ends. none (shared_from_conflict x run second i at ends))
]

-- a conflict of the first events is one of the run, and its second event is among them
ends_in_prefix : (x : Expanded) (run : List Event) (n : ℕ) (key : List Value) (p first second : ℕ) → Conflict x (take n run) key p first second → EndsConflict x run second × (second < n)
ends_in_prefix x run n key p first second conflict = (
  record {
    key = key;
    param = p;
    first = first;
    conflict = record {
      in_order = conflict.in_order;
      first_produces = whole_producer x run key p first n conflict.first_produces;
      second_produces = whole_producer x run key p second n conflict.second_produces;
    };
  },
  prefix_position x run key p second n conflict.second_produces,
)

-- the first position that ends a conflict ends the shortest prefix with one
shortest_from_first : (x : Expanded) (run : List Event) → IsLegalRun x run → Least (EndsConflict x run) → HasShortestConflict x run
shortest_from_first x run is_legal found =
    let ends = found.holds in
    let n = found.number + 1 in
    record {
      events = n;
      within = omega (arith, producer_within x run ends.key ends.param found.number ends.conflict.second_produces);
      legal = prefix_legal_run x run n is_legal;
      key = ends.key;
      param = ends.param;
      first = ends.first;
      second = found.number;
      conflict = record {
        in_order = ends.conflict.in_order;
        first_produces = prefix_producer x run ends.key ends.param ends.first n (omega (arith, ends.conflict.in_order)) ends.conflict.first_produces;
        second_produces = prefix_producer x run ends.key ends.param found.number n (omega arith) ends.conflict.second_produces;
      };
      last = refl;
      shorter = λ fewer below key p first second conflict.
          let (earlier, among) = ends_in_prefix x run fewer key p first second conflict in
          found.least second (omega arith) earlier;
    }

-- so a legal run with a conflict has a shortest prefix with one
pub shortest_conflict : EqualValuesAreOne → (x : Expanded) (run : List Event) (key : List Value) (p first second : ℕ) → IsLegalRun x run → Conflict x run key p first second → HasShortestConflict x run
shortest_conflict exact x run key p first second is_legal conflict =
    shortest_from_first x run is_legal
    (least_of (EndsConflict x run) (λ k. ends_at exact x run k (slice_get run k) refl) second (record { key = key; param = p; first = first; conflict = conflict }))
