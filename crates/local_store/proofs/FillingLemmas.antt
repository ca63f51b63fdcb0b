-- The values that are filled in: how many, whose they are, and which of them were chosen.
use Rattle.std.proofs.Common.{◌≡◌, ℕ, suc, ◌+◌, ◌<◌, ◌≤◌, ◌==◌, ◌&&◌, ◌||◌, not, Bool, true, false, cond, List, [], ◌∷◌, length, get_or, map, drop, Option, None, Some, is_some, inl, inr, refl, sym, ap, ◌∙◌, subst, arith}
use Rattle.std.specs.List.{Contains, filter, list_any, zip}
use Rattle.std.proofs.lemmas.Bool.{false≢true, true≢false}
use Rattle.std.proofs.lemmas.List.{drop_all, drop_more}
use Rattle.list_base.proofs.Members.{cons_cases, nowhere}
use Rattle.bspl_types.specs.declared.protocol.Adornment.TheVariants.{In, Out, Nil}
use Rattle.bspl_types.specs.declared.protocol.Carried.{Carried}
use Rattle.bspl_types.specs.declared.value.Value.{Value}
use Rattle.bspl_types.specs.declared.value.Value.TheVariants.{Number}
use Rattle.bspl_types.specs.Adornment.{has_value, valued}
use Rattle.bspl_types.specs.Choice.{is_out}
use Rattle.local_store.specs.inner.FilledValues.{filled, filling, key_value}

module _ (known : ℕ → Value) (of_key : ℕ → Option Value) (outs : List Value) where
  -- each parameter adorned `in` or `out` has a value
  pub filled_count : (carried : List Carried) (used : ℕ) → length (filled known of_key outs carried used) ≡ length (valued carried)
  filled_count [] used = refl
  filled_count (c ∷ carried) used =
      let next = filling c.adornment (known c.param) (of_key c.param) (get_or outs used (Number 0)) in
      elim (has_value c.adornment) as (λ b. length (cond b (next.0 ∷ filled known of_key outs carried (used + next.1)) (filled known of_key outs carried used)) ≡ length (cond b (c ∷ valued carried) (valued carried))) [
        | true ↦ ap suc (filled_count carried (used + next.1))
        | false ↦ filled_count carried used
      ]

  -- it was filled in
  pub filled_pair : (carried : List Carried) (used : ℕ) (c : Carried) (v : Value) → Contains (zip (valued carried) (filled known of_key outs carried used)) (c, v) → (next : Value) × (v ≡ (filling c.adornment (known c.param) (of_key c.param) next).0)
  filled_pair [] used c v among = absurd (nowhere (c, v) among)
  filled_pair (d ∷ carried) used c v among =
      let value = get_or outs used (Number 0) in
      let next = filling d.adornment (known d.param) (of_key d.param) value in
      (elim (has_value d.adornment) as (λ b. Contains (zip (cond b (d ∷ valued carried) (valued carried)) (cond b (next.0 ∷ filled known of_key outs carried (used + next.1)) (filled known of_key outs carried used))) (c, v) → (n : Value) × (v ≡ (filling c.adornment (known c.param) (of_key c.param) n).0)) [
        | true ↦ λ first. elim (cons_cases (d, next.0) (zip (valued carried) (filled known of_key outs carried (used + next.1))) (c, v) first) [
          | inl is ↦ (value, subst (λ (q : Carried × Value). q.1 ≡ (filling q.0.adornment (known q.0.param) (of_key q.0.param) value).0) is refl)
          | inr later ↦ filled_pair carried (used + next.1) c v later
        ]
        | false ↦ λ later. filled_pair carried used c v later
      ]) among

-- an `out` parameter is chosen if the key has no value of it
chosen_step : (outs : List Value) (used : ℕ) (c : Carried) (known : Value) (chosen : List Carried) (rest : ℕ → List (Carried × Value)) (of_key : Option Value) (keyed : Bool) → is_some of_key ≡ keyed → ((k : ℕ) → length chosen + (used + k) ≡ length outs → map (λ q. q.1) (rest k) ≡ drop (used + k) outs) → length (cond (not keyed) (c ∷ chosen) chosen) + used ≡ length outs → map (λ q. q.1) (cond (not keyed) ((c, (filling Out known of_key (get_or outs used (Number 0))).0) ∷ rest (filling Out known of_key (get_or outs used (Number 0))).1) (rest (filling Out known of_key (get_or outs used (Number 0))).1)) ≡ drop used outs
chosen_step outs used c known chosen rest None true law later count = absurd (false≢true law)
chosen_step outs used c known chosen rest (Some v) false law later count = absurd (true≢false law)
chosen_step outs used c known chosen rest (Some v) true law later count =
    let same : used + 0 ≡ used = omega arith in
    let fewer : length chosen + (used + 0) ≡ length outs = omega (arith, count) in
    later 0 fewer ∙ ap (λ n. drop n outs) same
chosen_step outs used c known chosen rest None false law later count =
    let fewer : length chosen + (used + 1) ≡ length outs = omega (arith, count) in
    let within : used < length outs = omega (arith, count) in
    ap (λ vs. get_or outs used (Number 0) ∷ vs) (later 1 fewer) ∙ sym (drop_more outs used (Number 0) within)

-- the chosen values come in their order
pub chosen_are : (known : ℕ → Value) (of_key : ℕ → Option Value) (outs : List Value) (keyed : ℕ → Bool) → ((p : ℕ) → is_some (of_key p) ≡ keyed p) → (carried : List Carried) (used : ℕ) → length (filter (λ c. is_out c.adornment && not (keyed c.param)) carried) + used ≡ length outs → map (λ q. q.1) (filter (λ q. is_out q.0.adornment && not (keyed q.0.param)) (zip (valued carried) (filled known of_key outs carried used))) ≡ drop used outs
chosen_are known of_key outs keyed law [] used count = let past : length outs ≤ used = omega (arith, count) in sym (drop_all used outs past)
chosen_are known of_key outs keyed law (c ∷ carried) used count =
    let test = λ (d : Carried). is_out d.adornment && not (keyed d.param) in
    let kept = λ (q : Carried × Value). test q.0 in
    let same : used + 0 ≡ used = omega arith in
    (elim c.adornment as (λ a. length (filter test (record { param = c.param; adornment = a } ∷ carried)) + used ≡ length outs → map (λ q. q.1) (filter kept (zip (valued (record { param = c.param; adornment = a } ∷ carried)) (filled known of_key outs (record { param = c.param; adornment = a } ∷ carried) used))) ≡ drop used outs) [
      | In ↦ λ count. chosen_are known of_key outs keyed law carried (used + 0) (ap (λ n. length (filter test carried) + n) same ∙ count) ∙ ap (λ n. drop n outs) same
      | Out ↦ chosen_step outs used (record { param = c.param; adornment = Out }) (known c.param) (filter test carried) (λ k. filter kept (zip (valued carried) (filled known of_key outs carried (used + k)))) (of_key c.param) (keyed c.param) (law c.param) (λ k fewer. chosen_are known of_key outs keyed law carried (used + k) fewer)
      | Nil ↦ λ count. chosen_are known of_key outs keyed law carried used count
    ]) count

-- the key has a value of each key parameter, and of no other one
pub keyed_if : (keys : List ℕ) (key : List Value) → length key ≡ length keys → (p : ℕ) → is_some (key_value keys key p) ≡ list_any (λ k. k == p) keys
keyed_if [] key as_long p = refl
keyed_if (k ∷ keys) [] as_long p = absurd (omega (arith, as_long))
keyed_if (k ∷ keys) (v ∷ key) as_long p =
    let fewer : length key ≡ length keys = omega (arith, as_long) in
    elim (k == p) as (λ b. is_some (cond b (Some v) (key_value keys key p)) ≡ (b || list_any (λ j. j == p) keys)) [
      | true ↦ refl
      | false ↦ keyed_if keys key fewer p
    ]
