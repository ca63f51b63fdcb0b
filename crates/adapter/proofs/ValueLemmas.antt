-- The values that a script gives are those that a message carries.
use Rattle.std.proofs.Common.{◌≡◌, ℕ, Bool, true, false, List, [], ◌∷◌, map, get_or, refl, sym, ◌∙◌, ap, subst, inl, inr, ◌⊎◌, ⊎_elim, Contains}
use Rattle.std.specs.Prelude.{◌==◌, ◌&&◌, not}
use Rattle.std.specs.List.{filter, list_any, zip}
use Rattle.std.proofs.lemmas.Bool.{cases_Bool, cond-true, cond-false, true≢false}
use Rattle.std.proofs.lemmas.Bool.Decides.{Decides-eqb}
use Rattle.std.proofs.lemmas.List.Elements.{All-contains_itself}
use Rattle.std.proofs.lemmas.List.Folds.{list_any_none}
use Rattle.list_base.proofs.Members.{cons_cases, here_same, nowhere, there}
use Rattle.bspl_types.specs.declared.event.Instance.{Instance}
use Rattle.bspl_types.specs.declared.expanded.Expanded.{Expanded}
use Rattle.bspl_types.specs.declared.protocol.Adornment.TheVariants.{In, Out, Nil}
use Rattle.bspl_types.specs.declared.protocol.Carried.{Carried}
use Rattle.bspl_types.specs.declared.value.Value.{Value}
use Rattle.bspl_types.specs.Adornment.{has_value, valued}
use Rattle.bspl_types.specs.Choice.{chosen_params, is_chosen, is_out}
use Rattle.bspl_types.specs.Expansion.{message_of}
use Rattle.bspl_types.specs.Instance.{Carries}
use Rattle.agent_scripts.specs.Script.{rule_of, Script, value_at, message_values}
use Rattle.local_store.specs.Emission.{chosen_values}

-- a chosen parameter has a value
chosen_valued : (keys : List ℕ) (c : Carried) → is_chosen keys c ≡ true → has_value c.adornment ≡ true
chosen_valued keys c chosen = (elim c.adornment as (λ a. (is_out a && not (list_any (λ key. key == c.param) keys)) ≡ true → has_value a ≡ true) [
  | In ↦ λ is. refl
  | Out ↦ λ is. refl
  | Nil ↦ λ is. absurd (true≢false (sym is))
]) chosen

-- a narrower test after a wider one
filter_within : {X : Type 0} (p q : X → Bool) → ((x : X) → p x ≡ true → q x ≡ true) → (xs : List X) → filter p (filter q xs) ≡ filter p xs
filter_within p q narrow [] = refl
filter_within p q narrow (x ∷ xs) =
    let rest = filter_within p q narrow xs in
    ⊎_elim
    (λ yes. ap (filter p) (cond-true (q x) (x ∷ filter q xs) (filter q xs) (narrow x yes)) ∙ cond-true (p x) (x ∷ filter p (filter q xs)) (filter p (filter q xs)) yes ∙ ap (λ ys. x ∷ ys) rest ∙ sym (cond-true (p x) (x ∷ filter p xs) (filter p xs) yes))
    (λ none. ⊎_elim
    (λ yes. ap (filter p) (cond-true (q x) (x ∷ filter q xs) (filter q xs) yes) ∙ cond-false (p x) (x ∷ filter p (filter q xs)) (filter p (filter q xs)) none ∙ rest ∙ sym (cond-false (p x) (x ∷ filter p xs) (filter p xs) none))
    (λ gone. ap (filter p) (cond-false (q x) (x ∷ filter q xs) (filter q xs) gone) ∙ rest ∙ sym (cond-false (p x) (x ∷ filter p xs) (filter p xs) none))
    (cases_Bool (q x)))
    (cases_Bool (p x))

-- where the values of the parameters that pass are given, each of them has its own
pair_value : (p : Carried → Bool) (g : Carried → Value) (cs : List Carried) (vs : List Value) → map (λ q. q.1) (filter (λ q. p q.0) (zip cs vs)) ≡ map g (filter p cs) → (c : Carried) (v : Value) → Contains (zip cs vs) (c, v) → p c ≡ true → v ≡ g c
pair_value p g [] vs given c v among passes = absurd (nowhere (c, v) among)
pair_value p g (d ∷ cs) [] given c v among passes = absurd (nowhere (c, v) among)
pair_value p g (d ∷ cs) (w ∷ vs) given c v among passes =
    let later = filter (λ q. p q.0) (zip cs vs) in
    ⊎_elim
    (λ yes.
    let both : (w ∷ map (λ (q : Carried × Value). q.1) later) ≡ (g d ∷ map g (filter p cs)) =
    sym (ap (map (λ (q : Carried × Value). q.1)) (cond-true (p d) ((d, w) ∷ later) later yes)) ∙ given ∙ ap (map g) (cond-true (p d) (d ∷ filter p cs) (filter p cs) yes) in
    let first : w ≡ g d = cc in
    let rest : map (λ (q : Carried × Value). q.1) later ≡ map g (filter p cs) = cc in
    elim (cons_cases (d, w) (zip cs vs) (c, v) among) [
      | inl is ↦ subst (λ (q : Carried × Value). q.1 ≡ g q.0) is first
      | inr more ↦ pair_value p g cs vs rest c v more passes
    ])
    (λ none.
    let rest : map (λ (q : Carried × Value). q.1) later ≡ map g (filter p cs) =
    sym (ap (map (λ (q : Carried × Value). q.1)) (cond-false (p d) ((d, w) ∷ later) later none)) ∙ given ∙ ap (map g) (cond-false (p d) (d ∷ filter p cs) (filter p cs) none) in
    elim (cons_cases (d, w) (zip cs vs) (c, v) among) [
      | inl is ↦ absurd (true≢false (sym passes ∙ ap (λ (q : Carried × Value). p q.0) (sym is) ∙ none))
      | inr more ↦ pair_value p g cs vs rest c v more passes
    ])
    (cases_Bool (p d))

-- a parameter that is no key is found among none of them
no_key : (keys : List ℕ) (p : ℕ) → ¬ Contains keys p → list_any (λ key. key == p) keys ≡ false
no_key keys p free = list_any_none (λ key. key == p) keys (λ k d within. ⊎_elim
    (λ yes. absurd (free (subst (Contains keys) ((Decides-eqb (get_or keys k d) p).0 yes) (All-contains_itself keys k d within))))
    (λ none. none)
    (cases_Bool (get_or keys k d == p)))

-- a parameter is a key or none
pub is_among : (keys : List ℕ) (p : ℕ) → Contains keys p ⊎ (¬ Contains keys p)
is_among [] p = inr (λ among. nowhere p among)
is_among (key ∷ keys) p = ⊎_elim
    (λ (yes : (key == p) ≡ true). inl (here_same key keys p ((Decides-eqb key p).0 yes)))
    (λ (none : (key == p) ≡ false). ⊎_elim
    (λ later. inl (there key keys p later))
    (λ never. inr (λ among. ⊎_elim (λ is. true≢false (sym ((Decides-eqb key p).1 is) ∙ none)) never (cons_cases key keys p among)))
    (is_among keys p))
    (cases_Bool (key == p))

-- an `out` parameter that is no key has the script's value
pub given_value : (x : Expanded) (script : Script) (i : Instance) (n p : ℕ) (v : Value) → chosen_values x i ≡ message_values x script i.message n → Carries x i Out p v → ¬ Contains x.keys p → v ≡ value_at (rule_of script.rules i.message p) n
given_value x script i n p v given carries free =
    let carried = (message_of x i.message).carried in
    let test = is_chosen x.keys in
    let g = λ (c : Carried). value_at (rule_of script.rules i.message c.param) n in
    let c : Carried = record { param = p; adornment = Out } in
    let params : chosen_params x i.message ≡ filter test (valued carried) = sym (filter_within test (λ d. has_value d.adornment) (chosen_valued x.keys) carried) in
    pair_value test g (valued carried) i.values (given ∙ ap (map g) params) c v carries (ap not (no_key x.keys p free))
