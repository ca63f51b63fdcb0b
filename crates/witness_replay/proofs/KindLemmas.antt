-- Kinds in lists of kinds.
use Rattle.std.proofs.Common.{◌≡◌, ℕ, ◌+◌, ◌-◌, ◌<◌, ◌≤◌, ◌∙◌, arith, Contains}
use Rattle.std.specs.List.{range_with_len}
use Rattle.std.proofs.lemmas.List.FromFn.{get_or-range_with_len, length-range_with_len}
use Rattle.clause_encoding.specs.declared.variables.Variables.{Variables}
use Rattle.clause_encoding.specs.Variables.{IsKind, kinds_following}

-- a number between the bounds is in the range
pub range_has : (from count n : ℕ) → from ≤ n → n < from + count → Contains (range_with_len from count) n
range_has from count n from_first below =
    let within : n - from < count = omega arith in
    let same : from + (n - from) ≡ n = omega arith in
    (n - from, omega (arith, length-range_with_len from count), get_or-range_with_len from count (n - from) n within ∙ same)

-- a kind after another one is among those
pub among_after : (vars : Variables) (kind i : ℕ) → kind < i → IsKind vars i → Contains (kinds_following vars kind) i
among_after vars kind i after is_kind =
    let up_to = is_kind.up_to in
    range_has (kind + 1) (vars.kinds - kind) i (omega arith) (omega (arith, up_to))
