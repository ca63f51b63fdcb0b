-- What is shown as known is what is known first.
use Rattle.std.proofs.Common.{◌≡◌, ℕ, true, false, List, [], ◌∷◌, ◌++◌, Option, None, Some, refl, sym, ap, subst}
use Rattle.std.specs.Prelude.{cond, ◌↔◌, IfSome, IsSome, MatchOption}
use Rattle.std.specs.List.{flat_map}
use Rattle.std.proofs.lemmas.Bool.{false≢true}
use Rattle.std.proofs.Math.Bool.{Bool-set}
use Rattle.std.proofs.Math.Logic.{∥∥₁_elim}
use Rattle.bspl_types.specs.declared.event.Event.{Event}
use Rattle.bspl_types.specs.declared.expanded.Expanded.{Expanded}
use Rattle.bspl_types.specs.declared.value.Value.{Value}
use Rattle.bspl_types.specs.Admission.{IsAdmitted}
use Rattle.bspl_types.specs.History.{history_of, instance_of}
use Rattle.bspl_types.specs.Instance.{pairs}
use Rattle.bspl_types.specs.Knowledge.{IsKnown}
use Rattle.bspl_types.specs.Equality.{same_value_decides}
use Rattle.bspl_types.specs.Value.{equal_values, same_value}
use Rattle.enactment_model.specs.Projection.{run_under}
use Rattle.role_knowledge.specs.FirstKnown.{IsFirstKnown}
use Rattle.role_knowledge.specs.Laws.{FirstKnownIsOne}
use Rattle.role_knowledge.specs.inner.FirstValue.{first_value}
use Rattle.run_chart.specs.Knowledge.{value_known}
use Rattle.run_chart.specs.Laws.{ShowsKnowledge}
use Rattle.run_chart.proofs.KnowledgeLemmas.{first_after, known_by_act, known_first, unknown_by_key, unknown_by_pairs, unknown_first, value_after, value_before_others}

-- the value that acts make known first
abbrev value_shown : Expanded → List Event → List Value → ℕ → Option Value
value_shown x history key p = first_value (flat_map (λ e. pairs x (instance_of e)) (run_under key history)) p

-- it is known first, or nothing is
abbrev IsShown : Expanded → List Event → List Value → ℕ → Option Value → Type 0
IsShown x history key p o = MatchOption o (¬ IsKnown x history key p) (IsFirstKnown x history key p)

-- of an act under the key its value is shown, or else that of the acts after it
shown_under : (x : Expanded) (e : Event) (history : List Event) (key : List Value) (p : ℕ) → equal_values (instance_of e).key key ≡ true → IsShown x history key p (value_shown x history key p) → IsShown x (e ∷ history) key p (first_value (pairs x (instance_of e) ++ flat_map (λ f. pairs x (instance_of f)) (run_under key history)) p)
shown_under x e history key p under rest =
    let act = pairs x (instance_of e) in
    let others = flat_map (λ (f : Event). pairs x (instance_of f)) (run_under key history) in
    (elim (first_value act p) as (λ o. first_value act p ≡ o → IsShown x (e ∷ history) key p (first_value (act ++ others) p)) [
      | None ↦ λ none. subst (IsShown x (e ∷ history) key p) (sym (value_after act others p none)) (first_after x e history key p (first_value others p) (unknown_by_pairs x e key p none) rest)
      | Some v ↦ λ found. subst (IsShown x (e ∷ history) key p) (sym (value_before_others act others p v found))
          (record { before = []; event = e; after = history; split = refl; unknown = unknown_first x key p; knows = known_by_act x e key p v under found })
    ]) refl

-- each history shows what it makes known first
history_shown : (x : Expanded) (history : List Event) (key : List Value) (p : ℕ) → IsShown x history key p (value_shown x history key p)
history_shown x [] key p = unknown_first x key p
history_shown x (e ∷ history) key p =
    let under = run_under key history in
    let rest = history_shown x history key p in
    (elim (equal_values (instance_of e).key key) as (λ t. equal_values (instance_of e).key key ≡ t → IsShown x (e ∷ history) key p (first_value (flat_map (λ (f : Event). pairs x (instance_of f)) (cond t (e ∷ under) under)) p)) [
      | true ↦ λ is. shown_under x e history key p is rest
      | false ↦ λ other. first_after x e history key p (value_shown x history key p) (unknown_by_key x e key p other) rest
    ]) refl

-- the value shown as known is the first known, and without one none is known
pub shown_known : ShowsKnowledge
shown_known x events role key p = history_shown x (history_of x role events) key p

-- in an admitted protocol two values that are known first are one
one_value : (x : Expanded) (history : List Event) (key : List Value) (p : ℕ) (v w : Value) → FirstKnownIsOne → ∥ IsAdmitted x ∥₁ → IsFirstKnown x history key p v → IsFirstKnown x history key p w → v ≡ w
one_value x history key p v w one admitted first second =
    let same = same_value_decides v w in
    same.0 (∥∥₁_elim admitted (Bool-set (same_value v w) true) (λ is. same.1 (one x history key p v w is first second)))

-- what is found as the first known is shown
pub found_is_shown : (x : Expanded) (events : List Event) (role : ℕ) (key : List Value) (p : ℕ) (found : Option Value) → ShowsKnowledge → FirstKnownIsOne → ∥ IsAdmitted x ∥₁ → (IsSome found ↔ IsKnown x (history_of x role events) key p) → IfSome found (IsFirstKnown x (history_of x role events) key p) → found ≡ value_known x events role key p
found_is_shown x events role key p found shows one admitted exact first =
    let history = history_of x role events in
    (elim found as (λ o. (IsSome o ↔ IsKnown x history key p) → IfSome o (IsFirstKnown x history key p) → o ≡ value_known x events role key p) [
      | None ↦ λ none _.
          (elim (value_known x events role key p) as (λ o. IsShown x history key p o → None ≡ o) [
            | None ↦ λ _. refl
            | Some v ↦ λ is. absurd (false≢true (none.1 (v, known_first x history key p v is)))
          ]) (shows x events role key p)
      | Some v ↦ λ some is.
          (elim (value_known x events role key p) as (λ o. IsShown x history key p o → Some v ≡ o) [
            | None ↦ λ unknown. absurd (unknown (some.0 refl))
            | Some w ↦ λ shown. ap Some (one_value x history key p v w one admitted is shown)
          ]) (shows x events role key p)
    ]) exact first
