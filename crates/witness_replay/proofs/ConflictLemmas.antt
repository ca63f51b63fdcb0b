-- The run of a model has a conflict, and so has its prefix up to the second producer.
use Rattle.std.proofs.Common.{◌≡◌, ◌≢◌, ℕ, ◌<◌, ◌≤◌, Bool, true, List, length, take, None, Option, IfSome, Some, slice_get, inl, inr, refl, sym, ap, ◌∙◌, subst, arith, Contains, length-take}
use Rattle.std.specs.Prelude.{IsNone, IsSome}
use Rattle.std.proofs.lemmas.Bool.{cases_order}
use Rattle.std.proofs.lemmas.List.{get_or-take, length-take-le}
use Rattle.std.proofs.lemmas.Option.{get_or_from_slice_get, same_Some, slice_get-get_or, slice_get_within}
use Rattle.list_base.proofs.Membership.{index_of}
use Rattle.bspl_types.specs.declared.event.Event.{Event}
use Rattle.bspl_types.specs.declared.event.Event.TheVariants.{Emit, Receive}
use Rattle.bspl_types.specs.declared.event.Instance.{Instance}
use Rattle.bspl_types.specs.declared.expanded.Expanded.{Expanded}
use Rattle.bspl_types.specs.declared.protocol.Adornment.TheVariants.{Out}
use Rattle.bspl_types.specs.declared.value.Value.{Value}
use Rattle.bspl_types.specs.Expansion.{Adorns}
use Rattle.clause_core.specs.Clause.{Satisfies, SatisfiesAll}
use Rattle.clause_encoding.specs.Formula.{safety_clauses, safety_variables}
use Rattle.clause_encoding.specs.Families.{shared_clauses}
use Rattle.clause_encoding.specs.Rivals.{rival_clauses}
use Rattle.clause_encoding.specs.Variables.{IsKind, sent}
use Rattle.enactment_model.specs.declared.conflicts.Conflict.{Conflict as SpecConflict}
use Rattle.enactment_model.specs.LeastConflict.{IsLeastConflict}
use Rattle.enactment_model.specs.Property.{HasConflict}
use Rattle.enactment_model.specs.Safety.{Conflict, HasNoConflict, ProducesAt}
use Rattle.first_occurrences.specs.Occurrence.{kind_of}
use Rattle.first_occurrences.specs.Report.{AreVariablesOf}
use Rattle.witness_replay.specs.Refuting.{IsCutAtConflict}
use Rattle.witness_replay.specs.Witness.{IsRunOfAssignment, key_of_ones}
use Rattle.witness_replay.proofs.FamilyLemmas.{all_right}
use Rattle.witness_replay.proofs.RivalLemmas.{some_sent}
use Rattle.witness_replay.proofs.RunLemmas.{event_of, under_ones}

-- the variables of the safety formula are a formula's
pub are_safety_variables : (x : Expanded) → AreVariablesOf x (safety_variables x)
are_safety_variables x = record { kinds = refl; occurrences_first = omega arith }

-- where a message is emitted that produces a parameter
record HasProducer (x : Expanded) (run : List Event) (m p : ℕ) : Type 0 where
  position : ℕ
  instance : Instance
  at : slice_get run position ≡ Some (Emit instance)
  message : instance.message ≡ m
  produces : ProducesAt x run (key_of_ones x) p position

module _ (x : Expanded) (v : ℕ → Bool) (run : List Event) (is_run : IsRunOfAssignment x (safety_variables x) v run) where
  -- an event of the emission of a producer
  producer_of_event : (m p : ℕ) (e : Event) → Contains run e → kind_of e ≡ sent m → Adorns x m Out p → HasProducer x run m p
  producer_of_event m p (Emit i) among of_kind adorned =
      let (position, at) = index_of run (Emit i) among in
      let message : i.message ≡ m = omega arith in
      record {
        position = position;
        instance = i;
        at = at;
        message = message;
        produces = record {
          instance = i;
          emitted = at;
          under = (under_ones x is_run.kinds run is_run.run_of (Emit i) among).key;
          adorned = subst (λ (n : ℕ). Adorns x n Out p) (sym message) adorned;
        };
      }
  producer_of_event m p (Receive i) among of_kind adorned = absurd (omega arith)

  -- each producer that occurs has one
  has_producer : (m p : ℕ) → m < length x.messages → v (sent m) ≡ true → Adorns x m Out p → HasProducer x run m p
  has_producer m p known occurs adorned =
      let is_kind : IsKind (safety_variables x) (sent m) = record { from_one = omega arith; up_to = omega arith } in
      let (e, among, of_kind) = event_of x is_run.kinds run is_run.run_of (sent m) ((is_run.ordered.occurring (sent m)).1 (is_kind, occurs)) in
      producer_of_event m p e among of_kind adorned

  -- two of them are in conflict, in one order or the other
  in_conflict : (m n p : ℕ) → m ≢ n → HasProducer x run m p → HasProducer x run n p → HasConflict x run
  in_conflict m n p apart one other =
      elim (cases_order one.position other.position) [
        | inl same ↦
            let both : Emit one.instance ≡ Emit other.instance = same_Some (Emit one.instance) (Emit other.instance) (sym one.at ∙ ap (slice_get run) same ∙ other.at) in
            let instances : one.instance ≡ other.instance = cc in
            absurd (apart (sym one.message ∙ ap (λ i. i.message) instances ∙ other.message))
        | inr (inl less) ↦ record { key = key_of_ones x; param = p; first = one.position; second = other.position; conflict = record { in_order = less; first_produces = one.produces; second_produces = other.produces } }
        | inr (inr more) ↦ record { key = key_of_ones x; param = p; first = other.position; second = one.position; conflict = record { in_order = more; first_produces = other.produces; second_produces = one.produces } }
      ]

  -- so the run of a model has a conflict
  pub has_conflict : SatisfiesAll v (safety_clauses x) → HasConflict x run
  has_conflict satisfied =
      let chosen = some_sent x v (all_right (Satisfies v) (shared_clauses x (safety_variables x)) (rival_clauses x) satisfied) in
      let two = chosen.two in
      let rivals = chosen.rivals in
      in_conflict two.first two.second two.param rivals.apart
      (has_producer two.first two.param rivals.first_known chosen.first rivals.first_produces)
      (has_producer two.second two.param rivals.second_known chosen.second rivals.second_produces)

-- an item is there among the first items too
taken : {X : Type 0} (n : ℕ) (xs : List X) (k : ℕ) (x : X) → k < n → slice_get xs k ≡ Some x → slice_get (take n xs) k ≡ Some x
taken n xs k x early at =
    let within = slice_get_within xs k x at in
    slice_get-get_or (take n xs) k x (omega (arith, length-take n xs)) ∙ ap Some (get_or-take n xs k x early ∙ get_or_from_slice_get xs k x x at)

-- a producer is one of the first events too
producer_taken : (x : Expanded) (run : List Event) (key : List Value) (p position n : ℕ) → position < n → ProducesAt x run key p position → ProducesAt x (take n run) key p position
producer_taken x run key p position n early at =
    record { instance = at.instance; emitted = taken n run position (Emit at.instance) early at.emitted; under = at.under; adorned = at.adorned }

-- a run that has a conflict has a least one
pub some_conflict : (o : Option SpecConflict) (x : Expanded) (run : List Event) → (IsNone o → HasNoConflict x run) → HasConflict x run → IsSome o
some_conflict None x run none has = absurd (none refl has.key has.param has.first has.second has.conflict)
some_conflict (Some found) x run none has = refl

-- and it is the least one of the run
pub found_least : (o : Option SpecConflict) (found : SpecConflict) (x : Expanded) (run : List Event) → o ≡ Some found → IfSome o (IsLeastConflict x run) → IsLeastConflict x run found
found_least o found x run is = subst (λ (other : Option SpecConflict). IfSome other (IsLeastConflict x run)) is

-- the least conflict is within the run
pub least_within : (x : Expanded) (run : List Event) (found : SpecConflict) → IsLeastConflict x run found → found.second ≤ length run
least_within x run found least =
    let produces = least.conflict.second_produces in
    let within = slice_get_within run least.second (Emit produces.instance) produces.emitted in
    let is = least.second_is in
    omega arith

-- an item among the first ones is there among all
left_over : {X : Type 0} (n : ℕ) (xs : List X) (k : ℕ) (x : X) → slice_get (take n xs) k ≡ Some x → slice_get xs k ≡ Some x
left_over n xs k x at =
    let within = slice_get_within (take n xs) k x at in
    let early : k < n = omega (arith, within, length-take n xs) in
    let inside : k < length xs = omega (arith, within, length-take n xs) in
    slice_get-get_or xs k x inside ∙ ap Some (sym (get_or-take n xs k x early) ∙ get_or_from_slice_get (take n xs) k x x at)

-- so is a producer
producer_there : (x : Expanded) (run : List Event) (n : ℕ) (key : List Value) (p position : ℕ) → ProducesAt x (take n run) key p position → ProducesAt x run key p position
producer_there x run n key p position at =
    record { instance = at.instance; emitted = left_over n run position (Emit at.instance) at.emitted; under = at.under; adorned = at.adorned }

-- and a conflict
conflict_there : (x : Expanded) (run : List Event) (n : ℕ) (key : List Value) (p first second : ℕ) → Conflict x (take n run) key p first second → Conflict x run key p first second
conflict_there x run n key p first second cut = record {
  in_order = cut.in_order;
  first_produces = producer_there x run n key p first cut.first_produces;
  second_produces = producer_there x run n key p second cut.second_produces;
}

-- the least conflict of a run is that of its events up to the second producer
least_kept : (x : Expanded) (run : List Event) (found : SpecConflict) → IsLeastConflict x run found → IsLeastConflict x (take found.second run) found
least_kept x run found least =
    let n = found.second in
    let conflict = least.conflict in
    let is = least.second_is in
    let in_order = conflict.in_order in
    record {
      key = least.key;
      first = least.first;
      second = least.second;
      first_is = least.first_is;
      second_is = is;
      conflict = record {
        in_order = in_order;
        first_produces = producer_taken x run least.key found.param least.first n (omega (arith, is, in_order)) conflict.first_produces;
        second_produces = producer_taken x run least.key found.param least.second n (omega (arith, is)) conflict.second_produces;
      };
      least_second = λ any p i j other. least.least_second any p i j (conflict_there x run n any p i j other);
      least_param = λ any p i other. least.least_param any p i (conflict_there x run n any p i least.second other);
      least_first = λ any i other. least.least_first any i (conflict_there x run n any found.param i least.second other);
    }

-- the run is cut there
pub cut_at : (x : Expanded) (whole run : List Event) (found : SpecConflict) → IsLeastConflict x whole found → run ≡ take found.second whole → IsCutAtConflict x whole run
cut_at x whole run found least is = record {
  found = found;
  of_whole = least;
  cut = is;
  least = subst (λ (events : List Event). IsLeastConflict x events found) (sym is) (least_kept x whole found least);
  last = sym (ap length is ∙ length-take-le found.second whole (least_within x whole found least));
}
