-- The keys that statements give.
use Rattle.std.proofs.Common.{◌≡◌, ◌≢◌, ◌<◌, ℕ, zero, suc, List, length, replicate, get_or, refl, sym, ap, ◌∙◌, inl, inr, arith, eq-eqb}
use Rattle.std.specs.List.{Contains, flat_map}
use Rattle.std.proofs.lemmas.Bool.Decides.{nat_tests}
use Rattle.std.proofs.lemmas.List.{get_or-replicate, length_push}
use Rattle.std.proofs.lemmas.List.Elements.{Contains-push_cases}
use Rattle.list_base.proofs.Members.{nowhere}
use Rattle.bspl_types.specs.declared.value.Value.{Value}
use Rattle.bspl_types.specs.declared.value.Value.TheVariants.{Number}
use Rattle.agent_scripts.specs.declared.statement.Setting.TheVariants.{Keys}
use Rattle.agent_scripts.specs.declared.statement.Statement.{Statement}
use Rattle.agent_scripts.specs.StatedScript.{counted_keys, keys_given, setting_of}
use Rattle.agent_scripts.specs.Rules.{key_in}

-- there are as many counted keys as that
pub length-counted_keys : (width n : ℕ) → length (counted_keys width n) ≡ n
length-counted_keys width zero = refl
length-counted_keys width (suc n) =
    let before = length-counted_keys width n in
    omega (arith, length_push (counted_keys width n) (replicate width (Number (suc n))), before)

-- keys of different numbers are different
different : (width m n : ℕ) → 0 < width → replicate width (Number m) ≡ replicate width (Number n) → m ≡ n
different width m n some same =
    let first : Number m ≡ Number n =
    sym (get_or-replicate width 0 (Number m) (Number 0) some) ∙ ap (λ (values : List Value). get_or values 0 (Number 0)) same ∙ get_or-replicate width 0 (Number n) (Number 0) some in
    cc

-- a later one is not among the keys up to a number
pub later_is_new : (width n later : ℕ) → 0 < width → n < later → ¬ Contains (counted_keys width n) (replicate width (Number later))
later_is_new width zero later some after among = nowhere (replicate width (Number later)) among
later_is_new width (suc n) later some after among = elim (Contains-push_cases (counted_keys width n) (replicate width (Number (suc n))) (replicate width (Number later)) among) [
  | inl before ↦ later_is_new width n later some (omega arith) before
  | inr same ↦ let is = different width (suc n) later some same in absurd (omega arith)
]

-- without `key` lines the keys are counted, and else they are those of the lines
pub keys_are_counted : (width : ℕ) (statements : List Statement) → length (flat_map key_in statements) ≡ 0 → keys_given width statements ≡ counted_keys width (setting_of statements Keys 1)
keys_are_counted width statements none = rw (eq-eqb (length (flat_map key_in statements)) 0 none) refl

pub keys_are_listed : (width : ℕ) (statements : List Statement) → length (flat_map key_in statements) ≢ 0 → keys_given width statements ≡ flat_map key_in statements
keys_are_listed width statements some = grind (arith, nat_tests)

-- counted keys are given where there are as many as are given
pub counted_are_given : (width n : ℕ) (statements : List Statement) → length (flat_map key_in statements) ≡ 0 → n ≡ length (keys_given width statements) → counted_keys width n ≡ keys_given width statements
counted_are_given width n statements none as_many =
    let counted = keys_are_counted width statements none in
    let number : n ≡ setting_of statements Keys 1 = as_many ∙ ap (length {A = List Value}) counted ∙ length-counted_keys width (setting_of statements Keys 1) in
    ap (counted_keys width) number ∙ sym counted
