-- Kinds in lists of kinds, those of a message, and clauses of which one of the first literals is true.
use Rattle.std.proofs.Common.{◌≡◌, ℕ, ◌+◌, ◌-◌, ◌<◌, ◌≤◌, ◌⊎◌, inl, inr, [], ◌∷◌, length, refl, sym, ◌∙◌, arith, Contains}
use Rattle.std.specs.List.{Any, range_with_len}
use Rattle.std.proofs.lemmas.List.FromFn.{get_or-range_with_len, length-range_with_len}
use Rattle.bspl_types.specs.declared.expanded.Expanded.{Expanded}
use Rattle.clause_encoding.specs.declared.variables.Variables.{Variables}
use Rattle.clause_encoding.specs.Variables.{IsKind, kinds_following, message_numbers, received, sent}
use Rattle.first_occurrences.specs.Report.{AreVariablesOf}
use Rattle.first_occurrences.proofs.ListedLemmas.{range_bound}

-- each number of a range is no lower than the first and below the end
pub range_bounds : (from count n : ℕ) → Contains (range_with_len from count) n → (from ≤ n) × (n < from + count)
range_bounds from count n (k, within, is) =
    let below : k < count = omega (arith, length-range_with_len from count) in
    let same : from + k ≡ n = sym (get_or-range_with_len from count k n below) ∙ is in
    (omega arith, omega arith)

-- and a number between is in the range
pub range_has : (from count n : ℕ) → from ≤ n → n < from + count → Contains (range_with_len from count) n
range_has from count n from_first below =
    let within : n - from < count = omega arith in
    let same : from + (n - from) ≡ n = omega arith in
    (n - from, omega (arith, length-range_with_len from count), get_or-range_with_len from count (n - from) n within ∙ same)

-- each kind after another one is a kind, and after it
pub kind_after : (vars : Variables) (kind i : ℕ) → Contains (kinds_following vars kind) i → (kind < i) × IsKind vars i
kind_after vars kind i among =
    let (from_first, below) = range_bounds (kind + 1) (vars.kinds - kind) i among in
    (omega (arith, from_first), record { from_one = omega (arith, from_first); up_to = omega (arith, from_first, below) })

-- a kind after another one is among those
pub among_after : (vars : Variables) (kind i : ℕ) → kind < i → IsKind vars i → Contains (kinds_following vars kind) i
among_after vars kind i after is_kind =
    let up_to = is_kind.up_to in
    range_has (kind + 1) (vars.kinds - kind) i (omega arith) (omega (arith, up_to))

-- the emission of a message is a kind
pub sent_is_kind : (x : Expanded) (vars : Variables) (m : ℕ) → AreVariablesOf x vars → Contains (message_numbers x) m → IsKind vars (sent m)
sent_is_kind x vars m are among =
    let below = range_bound (length x.messages) m among in
    let count = are.kinds in
    record { from_one = omega arith; up_to = omega (arith, below, count) }

-- and so is its reception
pub received_is_kind : (x : Expanded) (vars : Variables) (m : ℕ) → AreVariablesOf x vars → Contains (message_numbers x) m → IsKind vars (received m)
received_is_kind x vars m are among =
    let below = range_bound (length x.messages) m among in
    let count = are.kinds in
    record { from_one = omega arith; up_to = omega (arith, below, count) }

-- one of two items has it
pub any_of_two : {X : Type 0} (P : X → Type 0) (x y : X) → P x ⊎ P y → Any P (x ∷ y ∷ [])
any_of_two P x y (inl first) = (0, x, omega arith, refl, first)
any_of_two P x y (inr second) = (1, y, omega arith, refl, second)

-- one of three items has it
pub any_of_three : {X : Type 0} (P : X → Type 0) (x y z : X) → P x ⊎ (P y ⊎ P z) → Any P (x ∷ y ∷ z ∷ [])
any_of_three P x y z (inl first) = (0, x, omega arith, refl, first)
any_of_three P x y z (inr (inl second)) = (1, y, omega arith, refl, second)
any_of_three P x y z (inr (inr third)) = (2, z, omega arith, refl, third)
