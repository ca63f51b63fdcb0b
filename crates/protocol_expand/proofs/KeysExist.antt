-- The places of keys are places of parameters.
use Rattle.std.proofs.Common.{◌≡◌, ℕ, ◌+◌, ◌<◌, ◌≤◌, List, [], ◌∷◌, length, arith, subst, sym}
use Rattle.std.specs.List.{All, filter, enumerate_from}
use Rattle.std.proofs.lemmas.List.Elements.{All-nil, All-cons, All-map, All-filter}
use Rattle.bspl_types.specs.declared.protocol.ParamInfo.{ParamInfo}
use Rattle.bspl_types.specs.Shape.{key_indices}

-- as many numbers from `n` on as there are parameters
numbers_below : (bound n : ℕ) (params : List ParamInfo) → n + length params ≤ bound → All (λ (pair : ℕ × ParamInfo). pair.0 < bound) (enumerate_from n params)
numbers_below bound n [] within = All-nil (λ (pair : ℕ × ParamInfo). pair.0 < bound)
numbers_below bound n (p ∷ params) within =
    All-cons (λ (pair : ℕ × ParamInfo). pair.0 < bound) (n, p) (enumerate_from (n + 1) params) (omega (arith, within))
    (numbers_below bound (n + 1) params (omega (arith, within)))

-- each key is a parameter
pub keys_exist : (keys : List ℕ) (params : List ParamInfo) → keys ≡ key_indices params → All (λ k. k < length params) keys
keys_exist keys params same =
    subst (λ list. All (λ k. k < length params) list) (sym same)
    (All-map (λ k. k < length params) (λ (pair : ℕ × ParamInfo). pair.0) (filter (λ (_, p). p.key) (enumerate_from 0 params))
    (All-filter (λ (_, p). p.key) (λ (pair : ℕ × ParamInfo). pair.0 < length params) (enumerate_from 0 params) (numbers_below (length params) 0 params (omega (arith)))))
