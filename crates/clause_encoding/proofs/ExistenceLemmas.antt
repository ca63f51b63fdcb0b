-- The variables of each family's clauses are among those that there are.
use Rattle.std.proofs.Common.{◌≢◌, ℕ, ◌+◌, ◌-◌, ◌<◌, ◌≤◌, List, [], ◌∷◌, map, ap, ◌∙◌, subst, sym, arith}
use Rattle.std.specs.Prelude.{not, ◌==◌}
use Rattle.std.specs.List.{All, flat_map}
use Rattle.std.proofs.lemmas.Bool.{cond_both, eq-eqb, false≢true}
use Rattle.std.proofs.lemmas.List.Elements.{All-cons, All-map, All-nil, All-weaker}
use Rattle.clause_core.specs.declared.literal.Lit.{Lit}
use Rattle.clause_core.specs.Literal.{negated}
use Rattle.clause_core.specs.Written.{Written}
use Rattle.clause_encoding.specs.declared.variables.Variables.{Variables}
use Rattle.clause_encoding.specs.Families.{occurrence_clauses, order_clauses, order_of_three}
use Rattle.clause_encoding.specs.Variables.{IsKind, IsSmall, kinds_following, occurs, stands_before}
use Rattle.clause_encoding.specs.inner.Occurrence.{occurrence_clause, occurrence_of_one, occurrence_of_two}
use Rattle.clause_encoding.specs.inner.Order.{order_of_one, order_of_two}
use Rattle.clause_encoding.proofs.FilterLemmas.{all_flat_map, all_one}
use Rattle.clause_encoding.proofs.OccurrenceLemmas.{occurrence_parts}
use Rattle.clause_encoding.proofs.RangeLemmas.{range_members}
use Rattle.clause_encoding.proofs.VariableLemmas.{LitExists, before_exists, occurs_exists}

-- the variables of the clause exist
abbrev pub ClauseExists : Variables → Written → Type 0
ClauseExists vars lits = All (LitExists vars) lits

-- what holds of some items, and from which it follows for what they add, holds of all that they add
pub all_added : {X A : Type 0} (Q : X → Type 0) (P : A → Type 0) (f : X → List A) (xs : List X) → ((x : X) → Q x → All P (f x)) → All Q xs → All P (flat_map f xs)
all_added Q P f xs each all = all_flat_map P f xs (All-weaker Q (λ x. All P (f x)) each xs all)

-- the same where each adds one
pub all_images : {X A : Type 0} (Q : X → Type 0) (P : A → Type 0) (f : X → A) (xs : List X) → ((x : X) → Q x → P (f x)) → All Q xs → All P (map f xs)
all_images Q P f xs each all = All-map P f xs (All-weaker Q (λ x. P (f x)) each xs all)

-- a clause of two literals
pub two_exist : (vars : Variables) (l m : Lit) → LitExists vars l → LitExists vars m → ClauseExists vars (l ∷ m ∷ [])
two_exist vars l m first second = All-cons (LitExists vars) l (m ∷ []) first (all_one (LitExists vars) m second)

-- a clause of three literals
three_exist : (vars : Variables) (k l m : Lit) → LitExists vars k → LitExists vars l → LitExists vars m → ClauseExists vars (k ∷ l ∷ m ∷ [])
three_exist vars k l m first second third = All-cons (LitExists vars) k (l ∷ m ∷ []) first (two_exist vars l m second third)

-- the kind comes after another
abbrev pub IsAfter : Variables → ℕ → ℕ → Type 0
IsAfter vars i j = (i < j) × (j ≤ vars.kinds)

-- the kinds after one are later kinds
pub later_kinds : (vars : Variables) (i : ℕ) → All (IsAfter vars i) (kinds_following vars i)
later_kinds vars i =
    All-weaker (λ j. (i + 1 ≤ j) × (j < i + 1 + (vars.kinds - i))) (IsAfter vars i)
    (λ j within. let from = within.0 in let to = within.1 in (omega (arith, from), omega (arith, from, to)))
    (kinds_following vars i) (range_members (i + 1) (vars.kinds - i))

-- a kind after one is a kind
pub kind_after : (vars : Variables) (i j : ℕ) → IsAfter vars i j → IsKind vars j
kind_after vars i j after = let less = after.0 in record { from_one = omega (arith, less); up_to = after.1 }

-- two clauses
pub both_exist : (vars : Variables) (c d : Written) → ClauseExists vars c → ClauseExists vars d → All (ClauseExists vars) (c ∷ d ∷ [])
both_exist vars c d first second = All-cons (ClauseExists vars) c (d ∷ []) first (all_one (ClauseExists vars) d second)

-- the order clauses of three kinds
order_three_exists : (vars : Variables) (i j k : ℕ) → IsKind vars i → IsAfter vars i j → IsAfter vars j k → All (ClauseExists vars) (order_of_three vars i j k)
order_three_exists vars i j k first second third =
    let less = second.0 in
    let more = third.0 in
    let ij = stands_before vars i j in
    let jk = stands_before vars j k in
    let ik = stands_before vars i k in
    let ij_exists = before_exists vars i j first (kind_after vars i j second) (omega (arith, less)) in
    let jk_exists = before_exists vars j k (kind_after vars i j second) (kind_after vars j k third) (omega (arith, more)) in
    let ik_exists = before_exists vars i k first (kind_after vars j k third) (omega (arith, less, more)) in
    both_exist vars (negated ij ∷ negated jk ∷ ik ∷ []) (ij ∷ jk ∷ negated ik ∷ [])
    (three_exist vars (negated ij) (negated jk) ik ij_exists jk_exists ik_exists)
    (three_exist vars ij jk (negated ik) ij_exists jk_exists ik_exists)

-- the order clauses
pub order_exists : (vars : Variables) → All (ClauseExists vars) (order_clauses vars)
order_exists vars =
    all_added (IsAfter vars 0) (ClauseExists vars) (order_of_one vars) (kinds_following vars 0)
    (λ i first. all_added (IsAfter vars i) (ClauseExists vars) (order_of_two vars i) (kinds_following vars i)
    (λ j second. all_added (IsAfter vars j) (ClauseExists vars) (order_of_three vars i j) (kinds_following vars j)
    (λ k third. order_three_exists vars i j k (kind_after vars 0 i first) second third) (later_kinds vars j))
    (later_kinds vars i)) (later_kinds vars 0)

-- the occurrence clause of two kinds
occurrence_two_exists : (vars : Variables) (i j : ℕ) → IsSmall vars → IsKind vars i → IsKind vars j → All (ClauseExists vars) (occurrence_of_two vars i j)
occurrence_two_exists vars i j small first second =
    cond_both (not (j == i)) (occurrence_clause vars i j ∷ []) [] (All (ClauseExists vars))
    (λ differ.
    let apart : i ≢ j = λ same. false≢true (sym (ap not (eq-eqb j i (sym same))) ∙ differ) in
    all_one (ClauseExists vars) (occurrence_clause vars i j)
    (three_exist vars (negated (occurs i)) (occurs j) (stands_before vars i j) (occurs_exists vars i small first) (occurs_exists vars j small second) (before_exists vars i j first second apart)))
    (λ _. All-nil (ClauseExists vars))

-- the occurrence clauses
pub occurrence_exists : (vars : Variables) → IsSmall vars → All (ClauseExists vars) (occurrence_clauses vars)
occurrence_exists vars small =
    subst (All (ClauseExists vars)) (occurrence_parts vars)
    (all_added (IsAfter vars 0) (ClauseExists vars) (occurrence_of_one vars) (kinds_following vars 0)
    (λ i first. all_added (IsAfter vars 0) (ClauseExists vars) (occurrence_of_two vars i) (kinds_following vars 0)
    (λ j second. occurrence_two_exists vars i j small (kind_after vars 0 i first) (kind_after vars 0 j second)) (later_kinds vars 0))
    (later_kinds vars 0))
