-- What holds of each pair of a parameter and its value, one parameter after another.
use Rattle.std.proofs.Common.{◌≡◌, ℕ, ◌+◌, ◌<◌, ◌≤◌, Bool, true, false, cond, List, [], ◌∷◌, length, drop, get_or, refl, ap, ◌∙◌, subst, sym, arith}
use Rattle.std.specs.Prelude.{◌↔◌}
use Rattle.std.specs.List.{All, zip}
use Rattle.std.proofs.lemmas.List.{drop_more}
use Rattle.std.proofs.lemmas.List.Elements.{All-nil, All-cons, All-head, All-tail}
use Rattle.std.proofs.Math.ListN.{drop_of_length-le}
use Rattle.bspl_types.specs.declared.protocol.Carried.{Carried}
use Rattle.bspl_types.specs.declared.value.Value.{Value}
use Rattle.bspl_types.specs.Adornment.{has_value, valued}

-- the first parameter from a place on is passed over, or takes the first value
pub pairs_step : (carried : List Carried) (i : ℕ) (d : Carried) (left : List Value) (b : Bool) → i < length carried → has_value (get_or carried i d).adornment ≡ b → zip (valued (drop i carried)) left ≡ zip (cond b (get_or carried i d ∷ valued (drop (i + 1) carried)) (valued (drop (i + 1) carried))) left
pairs_step carried i d left b within is_b = ap (λ cs. zip (valued cs) left) (drop_more carried i d within) ∙ ap (λ wants. zip (cond wants (get_or carried i d ∷ valued (drop (i + 1) carried)) (valued (drop (i + 1) carried))) left) is_b

-- one without a value changes nothing
pub keeps_bare : (P : Carried × Value → Type 0) (whole : Type 0) (carried : List Carried) (i : ℕ) (d : Carried) (left : List Value) → i < length carried → has_value (get_or carried i d).adornment ≡ false → (All P (zip (valued (drop i carried)) left) ↔ whole) → (All P (zip (valued (drop (i + 1) carried)) left) ↔ whole)
keeps_bare P whole carried i d left within bare same = subst (λ pairs. All P pairs ↔ whole) (pairs_step carried i d left false within bare) same

-- one whose value agrees leaves the rest to ask
pub keeps_agreeing : (P : Carried × Value → Type 0) (whole : Type 0) (carried : List Carried) (i : ℕ) (d : Carried) (v : Value) (left : List Value) → i < length carried → has_value (get_or carried i d).adornment ≡ true → P (get_or carried i d, v) → (All P (zip (valued (drop i carried)) (v ∷ left)) ↔ whole) → (All P (zip (valued (drop (i + 1) carried)) left) ↔ whole)
keeps_agreeing P whole carried i d v left within wants agrees same =
    let step : (All P ((get_or carried i d, v) ∷ zip (valued (drop (i + 1) carried)) left) ↔ whole) = subst (λ pairs. All P pairs ↔ whole) (pairs_step carried i d (v ∷ left) true within wants) same in
    (λ rest. step.0 (All-cons P (get_or carried i d, v) (zip (valued (drop (i + 1) carried)) left) agrees rest), λ all. All-tail P (get_or carried i d, v) (zip (valued (drop (i + 1) carried)) left) (step.1 all))

-- one whose value differs breaks the whole
pub breaks_differing : (P : Carried × Value → Type 0) (whole : Type 0) (carried : List Carried) (i : ℕ) (d : Carried) (v : Value) (left : List Value) → i < length carried → has_value (get_or carried i d).adornment ≡ true → (P (get_or carried i d, v) → ⊥) → (All P (zip (valued (drop i carried)) (v ∷ left)) ↔ whole) → whole → ⊥
breaks_differing P whole carried i d v left within wants differs same all =
    let step : (All P ((get_or carried i d, v) ∷ zip (valued (drop (i + 1) carried)) left) ↔ whole) = subst (λ pairs. All P pairs ↔ whole) (pairs_step carried i d (v ∷ left) true within wants) same in
    differs (All-head P (get_or carried i d, v) (zip (valued (drop (i + 1) carried)) left) (step.1 all))

-- no pair is left where there is no value
zip_nothing : (carried : List Carried) → zip {X = Value} carried [] ≡ []
zip_nothing [] = refl
zip_nothing (c ∷ carried) = refl

-- without a value left there is nothing to ask
pub holds_without_values : (P : Carried × Value → Type 0) (whole : Type 0) (carried : List Carried) (left : List Value) → length left ≡ 0 → (All P (zip carried left) ↔ whole) → whole
holds_without_values P whole carried [] empty same = same.0 (subst (All P) (sym (zip_nothing carried)) (All-nil P))
holds_without_values P whole carried (v ∷ left) empty same = absurd (omega arith)

-- nor without a parameter left
pub holds_at_end : (P : Carried × Value → Type 0) (whole : Type 0) (carried : List Carried) (i : ℕ) (left : List Value) → length carried ≤ i → (All P (zip (valued (drop i carried)) left) ↔ whole) → whole
holds_at_end P whole carried i left past same = same.0 (subst (λ cs. All P (zip (valued cs) left)) (sym (drop_of_length-le carried past)) (All-nil P))
