-- Clauses that stand behind the first ones.
use Rattle.std.proofs.Common.{◌≡◌, ℕ, ◌+◌, ◌≤◌, List, ◌++◌, length, take, sym, ap, ◌∙◌, subst, arith, length-append}
use Rattle.std.specs.List.{All}
use Rattle.std.proofs.Math.Seq.{drop-append_seam}
use Rattle.std.proofs.lemmas.List.{length-take-le, take-append-le, take_all}
use Rattle.std.proofs.lemmas.List.Elements.{All-append, All-drop, All-take}
use Rattle.list_base.proofs.Membership.{all_prefix}
use Rattle.circuit_clauses.specs.Condition.{Condition}
use Rattle.clause_core.specs.declared.formula.Formula.{Formula}
use Rattle.clause_core.specs.declared.literal.Lit.{Lit}
use Rattle.clause_core.specs.Clause.{VariablesExist}
use Rattle.question_formula.specs.inner.Shared.{AppendsSome, IsAsserted}
use Rattle.question_formula.proofs.VariableLemmas.{up_to_later}

-- the variables of all of them exist if those of the first ones do
pub some_exist : (own : Formula) (old new : List (List Lit)) → All (VariablesExist own.vars) old → AppendsSome old own.clauses new → All (VariablesExist own.vars) new
some_exist own old new exist some =
    subst (All (VariablesExist own.vars)) (sym some.follows)
    (All-append (VariablesExist own.vars) old (take some.count own.clauses) exist (All-take (VariablesExist own.vars) some.count own.clauses own.variables_exist))

-- what all items of two lists have, those of the second have
all_after : {X : Type 0} (P : X → Type 0) (xs ys : List X) → All P (xs ++ ys) → All P ys
all_after P xs ys all = subst (All P) (drop-append_seam xs ys) (All-drop P (length xs) (xs ++ ys) all)

module _ (vars : ℕ) (c : Condition) (own : Formula) (is : IsAsserted vars c own) (order first : List (List Lit)) (exist : All (VariablesExist vars) (order ++ first)) where
  -- they exist among the variables of the own clauses too
  both_exist : All (VariablesExist own.vars) (order ++ first)
  both_exist = let all = is.vars in up_to_later vars own.vars (order ++ first) (omega (arith, all)) exist

  pub first_exist : All (VariablesExist own.vars) first
  first_exist = all_after (VariablesExist own.vars) order first both_exist

  -- and so do those of the order with clauses that are stored
  pub whole_exist : (stored : Formula) → stored.vars ≡ own.vars → All (VariablesExist stored.vars) (order ++ stored.clauses)
  whole_exist stored same =
      All-append (VariablesExist stored.vars) order stored.clauses
      (subst (λ (n : ℕ). All (VariablesExist n) order) (sym same) (all_prefix (VariablesExist own.vars) order first both_exist))
      stored.variables_exist

module _ (count : ℕ) (old others new : List (List Lit)) (there : count ≤ length old) (some : AppendsSome (take count old) others new) where
  -- the first ones stay there
  pub still_there : count ≤ length new
  still_there =
      let first = length-take-le count old there in
      let all : length new ≡ length (take count old) + length (take some.count others) = ap length some.follows ∙ length-append (take count old) (take some.count others) in
      omega (arith, first, all)

  -- and are the same
  pub same_first : take count new ≡ take count old
  same_first =
      let first : length (take count old) ≡ count = length-take-le count old there in
      ap (take count) some.follows
      ∙ take-append-le count (take count old) (take some.count others) (omega (arith, first))
      ∙ take_all count (take count old) (omega (arith, first))
