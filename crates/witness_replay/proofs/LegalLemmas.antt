-- The run of an assignment is legal.
use Rattle.std.proofs.Common.{◌≡◌, ◌⊎◌, inl, inr, ℕ, Bool, true, List, ◌∷◌, get_or, length, take, Some, slice_get, Contains, refl, sym, ◌∙◌, subst}
use Rattle.std.specs.Prelude.{◌==◌}
use Rattle.std.specs.List.{list_any}
use Rattle.std.proofs.lemmas.Bool.{both_ways, cases_Bool, eqb-true, eq-eqb}
use Rattle.std.proofs.lemmas.List.Elements.{All-contains, Contains-append_right}
use Rattle.std.proofs.lemmas.List.Folds.{Any-from_list_any, list_any-from_Any}
use Rattle.std.proofs.lemmas.Option.{same_Some, slice_get_within}
use Rattle.list_base.proofs.Filtered.{filtered_member}
use Rattle.list_base.proofs.Members.{here_same, only}
use Rattle.list_base.proofs.Membership.{index_of}
use Rattle.list_base.proofs.Partners.{zipped_member}
use Rattle.bspl_types.specs.declared.event.Event.{Event}
use Rattle.bspl_types.specs.declared.event.Event.TheVariants.{Emit, Receive}
use Rattle.bspl_types.specs.declared.event.Instance.{Instance}
use Rattle.bspl_types.specs.declared.expanded.Expanded.{Expanded}
use Rattle.bspl_types.specs.declared.protocol.Adornment.TheVariants.{In}
use Rattle.bspl_types.specs.declared.value.Value.{Value}
use Rattle.bspl_types.specs.declared.value.Value.TheVariants.{Number}
use Rattle.bspl_types.specs.Adornment.{has_value, valued}
use Rattle.bspl_types.specs.Expansion.{Adorns, message_of}
use Rattle.bspl_types.specs.History.{history_of, instance_of, role_of, sender_history}
use Rattle.bspl_types.specs.Instance.{Carries}
use Rattle.bspl_types.specs.KeyAgrees.{KeyAgrees}
use Rattle.bspl_types.specs.Knowledge.{CanEmit, IsEnabled, Knows}
use Rattle.clause_core.specs.Clause.{SatisfiesAll}
use Rattle.clause_encoding.specs.declared.variables.Variables.{Variables}
use Rattle.clause_encoding.specs.Families.{shared_clauses}
use Rattle.clause_encoding.specs.Variables.{sent}
use Rattle.enactment_model.specs.Laws.{HistoryIsRun, KnownExactlyIfSomeEventBinds, LegalByPositions}
use Rattle.enactment_model.specs.Legal.{IsLegalRun, MayFollow}
use Rattle.first_occurrences.specs.Report.{AreVariablesOf}
use Rattle.role_knowledge.specs.FirstKnown.{IsFirstKnown}
use Rattle.witness_replay.specs.Witness.{AreOrdered, IsRunOfAssignment, IsRunOfKinds, IsWitness, IsWitnessValue, key_of_ones}
use Rattle.witness_replay.proofs.HappenLemmas.{may_happen}
use Rattle.witness_replay.proofs.ListedLemmas.{some_member}
use Rattle.witness_replay.proofs.RunLemmas.{kind_at, run_fits, run_prefix, under_ones}
use Rattle.witness_replay.proofs.ValueLemmas.{one_at}

-- a parameter is a key or not
pub key_or_not : (keys : List ℕ) (p : ℕ) → Contains keys p ⊎ (¬ Contains keys p)
key_or_not keys p = elim (cases_Bool (list_any (λ k. k == p) keys)) [
  | inl found ↦ let (k, q, within, is, same) = Any-from_list_any (λ j. j == p) keys found in inl (k, within, subst (λ j. get_or keys k j ≡ j) (eqb-true q p same) is)
  | inr none ↦ inr (λ among. both_ways (list_any (λ k. k == p) keys) none (list_any-from_Any (λ k. k == p) keys (some_member (λ k. (k == p) ≡ true) keys p among (eq-eqb p p refl))))
]

-- the value that is known first is known
known_first : (x : Expanded) (history : List Event) (key : List Value) (p : ℕ) (v : Value) → IsFirstKnown x history key p v → Knows x history key p v
known_first x history key p v first =
    let knows = first.knows in
    record {
      event = knows.event;
      among =
          subst (λ (events : List Event). Contains events knows.event) (sym first.split)
          (Contains-append_right first.before (first.event ∷ first.after) knows.event (here_same first.event first.after knows.event (only first.event knows.event knows.among)));
      under = knows.under;
      adornment = knows.adornment;
      carries = knows.carries;
    }

-- what is carried with an adornment is adorned so
adorned : (x : Expanded) (i : Instance) (p : ℕ) (v : Value) → Carries x i In p v → Adorns x i.message In p
adorned x i p v carries =
    (filtered_member (λ c. has_value c.adornment) (message_of x i.message).carried (record { param = p; adornment = In })
    (zipped_member (valued (message_of x i.message).carried) i.values (record { param = p; adornment = In }) v carries)).0

module _ (x : Expanded) (kinds : List ℕ) (run : List Event) (is_run : IsRunOfKinds x kinds run) where
  -- the value that an event knows of a key is 1
  key_is_one : (role p : ℕ) (w : Value) → Contains x.keys p → Knows x (history_of x role run) (key_of_ones x) p w → Number 1 ≡ w
  key_is_one role p w is_key knows =
      let (index, at) = index_of x.keys p is_key in
      let e = knows.event in
      let fits = (under_ones x kinds run is_run e (filtered_member (λ f. role_of x f == role) run e knows.among).0).fits in
      let agrees = All-contains (KeyAgrees x.keys (instance_of e).key) _ (record { param = p; adornment = knows.adornment }, w) fits.key_values knows.carries in
      let here : slice_get (key_of_ones x) index ≡ Some w = subst (λ (k : List Value). slice_get k index ≡ Some w) knows.under (agrees.same index at) in
      same_Some (Number 1) w (sym (one_at (length x.keys) index (slice_get_within x.keys index p at)) ∙ here)

  -- what can be emitted after these events is enabled with its values
  enabled : (i : Instance) → IsWitness x run i → CanEmit x (sender_history x run i.message) i.message (key_of_ones x) → IsEnabled x (sender_history x run i.message) i
  enabled i witness can =
      let history = sender_history x run i.message in
      record {
        can = subst (λ (k : List Value). CanEmit x history i.message k) (sym witness.key) can;
        same = λ p v carries.
            let value = All-contains (IsWitnessValue x run i.message) _ (record { param = p; adornment = In }, v) witness.values carries in
            subst (λ (k : List Value). Knows x history k p v) (sym witness.key)
            (elim (key_or_not x.keys p) [
              | inl is_key ↦
                  let (w, knows) = can.ins p (adorned x i p v carries) in
                  let same : w ≡ v = sym (value.key is_key ∙ key_is_one (message_of x i.message).sender p w is_key knows) in
                  subst (λ (u : Value). Knows x history (key_of_ones x) p u) same knows
              | inr other ↦ known_first x history (key_of_ones x) p v (value.first other refl)
            ]);
      }

-- each event may follow those before it
may_follow : KnownExactlyIfSomeEventBinds → HistoryIsRun → (x : Expanded) (vars : Variables) (v : ℕ → Bool) (kinds : List ℕ) (run : List Event) → AreVariablesOf x vars → SatisfiesAll v (shared_clauses x vars) → AreOrdered vars v kinds → IsRunOfKinds x kinds run → (position : ℕ) (e : Event) → slice_get run position ≡ Some e → MayFollow x (take position run) e
may_follow known histories x vars v kinds run are satisfied ordered is_run position (Receive i) at = is_run.each position (Receive i) at
may_follow known histories x vars v kinds run are satisfied ordered is_run position (Emit i) at =
    let before = run_prefix x kinds run position is_run in
    let may = may_happen known histories x vars v kinds are satisfied ordered position (sent i.message) (kind_at x kinds run is_run position (Emit i) at) (take position run) before in
    enabled x (take position kinds) (take position run) before i (is_run.each position (Emit i) at) (may.sending i.message refl)

-- so the run is legal
pub run_is_legal : LegalByPositions → KnownExactlyIfSomeEventBinds → HistoryIsRun → (x : Expanded) (vars : Variables) (v : ℕ → Bool) (run : List Event) → AreVariablesOf x vars → SatisfiesAll v (shared_clauses x vars) → IsRunOfAssignment x vars v run → IsLegalRun x run
run_is_legal by_positions known histories x vars v run are satisfied is_run_of =
    record {
      fits = run_fits x is_run_of.kinds run is_run_of.run_of;
      legal = (by_positions x run).1 (may_follow known histories x vars v is_run_of.kinds run are satisfied is_run_of.ordered is_run_of.run_of);
    }
