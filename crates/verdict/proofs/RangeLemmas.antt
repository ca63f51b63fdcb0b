-- The numbers of a log that resolves: those of clauses, and variables that exist.
use Rattle.std.proofs.Common.{◌≡◌, ◌≢◌, inl, inr, ℕ, ◌+◌, ◌-◌, ◌<◌, ◌≤◌, None, Some, Option, IfSome, List, [], ◌∷◌, ◌++◌, length, get_or, map, Contains, subst, sym, ◌∙◌, arith, length-append, refl}
use Rattle.std.specs.Prelude.{◌==◌}
use Rattle.std.specs.List.{All}
use Rattle.std.proofs.lemmas.Bool.{cases_Bool, cases_lt, eqb-false}
use Rattle.std.proofs.lemmas.List.{get_or_past, length-map, length-set}
use Rattle.std.proofs.lemmas.List.Elements.{All-cons, All-contains, All-contains_itself, All-map, All-nil, All-push, All-set, All-weaker}
use Rattle.clause_core.specs.declared.literal.Lit.{Lit}
use Rattle.clause_core.specs.Clause.{VariablesExist}
use Rattle.clause_core.specs.Numbering.{HasNumber, live}
use Rattle.clause_core.specs.Resolvent.{IsResolvent}
use Rattle.refutation_log.specs.declared.refutation.Chain.{Chain}
use Rattle.refutation_log.specs.declared.refutation.Entry.{Entry}
use Rattle.refutation_log.specs.declared.refutation.Entry.TheVariants.{Drop, Step}
use Rattle.refutation_log.specs.declared.refutation.Link.{Link}
use Rattle.refutation_log.specs.Entries.{entries}
use Rattle.refutation_log.specs.Ledger.{AllRemoved, IsLive, Ledger, all_live, without, without_all}
use Rattle.refutation_log.specs.LogText.{EntryInRange, IsInRange, LinkInRange}
use Rattle.refutation_log.specs.Resolution.{Folds, Runs}
use Rattle.refutation_log.specs.ResolutionLaws.{StepsAreCounted}
use Rattle.verdict.specs.Numbers.{NumbersInRange}

-- the variable of a literal is one of the first so many
abbrev LitExists : ℕ → Lit → Type 0
LitExists vars l = (0 < l.var) × (l.var ≤ vars)

-- so are those of a clause, if it is live
abbrev IsWithin : ℕ → Option (List Lit) → Type 0
IsWithin vars clause = IfSome clause (VariablesExist vars)

-- the clause of a number that is live, and where it is
record IsRead (vars : ℕ) (ledger : Ledger) (number : ℕ) (clause : List Lit) : Type 0 where
  low : 0 < number
  high : number ≤ length ledger
  exists : VariablesExist vars clause

-- a number names a clause of the ledger
read : (vars : ℕ) (ledger : Ledger) (number : ℕ) (clause : List Lit) → All (IsWithin vars) ledger → HasNumber (live ledger) number clause → IsRead vars ledger number clause
read vars ledger number clause all named = elim (cases_Bool (number == 0)) [
  | inl zero ↦ let none : None ≡ Some clause = rw zero at named.there in absurd (let clash : ⊥ = cc in clash)
  | inr other ↦
      let some : number ≢ 0 = eqb-false number 0 other in
      let there : get_or ledger (number - 1) None ≡ Some clause = rw other at named.there in
      elim (cases_lt (number - 1) (length ledger)) [
        | inl within ↦ record {
          low = omega (arith, some);
          high = omega (arith, within, some);
          exists = subst (IsWithin vars) there (all (number - 1) None within);
        }
        | inr past ↦ let none : None ≡ Some clause = sym (get_or_past ledger (number - 1) None past) ∙ there in absurd (let clash : ⊥ = cc in clash)
      ]
]

-- the variables of a resolvent are those of the two clauses
resolvent_exists : (vars : ℕ) (c d r : List Lit) (pivot : Lit) → IsResolvent c pivot d r → VariablesExist vars c → VariablesExist vars d → VariablesExist vars r
resolvent_exists vars c d r pivot is left right =
    All-weaker (Contains r) (LitExists vars)
    (λ l among. elim ((is.union.members l).0 among) [
      | inl kept ↦ All-contains (LitExists vars) c l left kept.0
      | inr kept ↦ All-contains (LitExists vars) d l right kept.0
    ])
    r (All-contains_itself r)

-- the links of a chain are in range, and its clause has variables that exist
record AreLinked (vars : ℕ) (links : List Link) (result : List Lit) : Type 0 where
  in_range : All LinkInRange links
  exists : VariablesExist vars result

-- the numbers of a removal are in range, and what it leaves has variables that exist
record AreDropped (vars : ℕ) (ledger : Ledger) (numbers : List ℕ) : Type 0 where
  in_range : All IsInRange numbers
  as_long : length (without_all ledger numbers) ≡ length ledger
  exist : All (IsWithin vars) (without_all ledger numbers)

-- one removal after another
dropped : (vars : ℕ) (ledger : Ledger) (numbers : List ℕ) → length ledger ≤ 2147483647 → All (IsWithin vars) ledger → AllRemoved IsLive ledger numbers → AreDropped vars ledger numbers
dropped vars ledger [] few all removed = record { in_range = All-nil IsInRange; as_long = refl; exist = all }
dropped vars ledger (number ∷ numbers) few all removed =
    let lives = removed.0 in
    let found = read vars ledger number lives.clause all lives.named in
    let high = found.high in
    let as_long : length (without ledger number) ≡ length ledger = length-set ledger (number - 1) None in
    let rest = dropped vars (without ledger number) numbers (omega (arith, few, as_long)) (All-set (IsWithin vars) ledger (number - 1) None tt all) removed.1 in
    record {
      in_range = All-cons IsInRange number numbers (record { low = found.low; high = omega (arith, high, few) }) rest.in_range;
      as_long = rest.as_long ∙ as_long;
      exist = rest.exist;
    }

module _ (vars : ℕ) (few_vars : vars ≤ 2147483647) where
  -- one link after another
  linked : (ledger : Ledger) (start : List Lit) (links : List Link) (result : List Lit) → length ledger ≤ 2147483647 → All (IsWithin vars) ledger → VariablesExist vars start → Folds (live ledger) start links result → AreLinked vars links result
  linked ledger start [] result few all exists folds =
      record { in_range = All-nil LinkInRange; exists = subst (VariablesExist vars) folds exists }
  linked ledger start (link ∷ links) result few all exists folds =
      let found = read vars ledger link.clause folds.other all folds.named in
      let pivot = All-contains (LitExists vars) start link.pivot exists folds.resolves.can.pivot_in in
      let next = resolvent_exists vars start folds.other folds.resolvent link.pivot folds.resolves exists found.exists in
      let rest = linked ledger folds.resolvent links result few all next folds.continues in
      let at_most = pivot.1 in
      let high = found.high in
      record {
        in_range = All-cons LinkInRange link links
            (record { pivot = record { low = pivot.0; high = omega (arith, at_most, few_vars) }; clause = record { low = found.low; high = omega (arith, high, few) } })
            rest.in_range;
        exists = rest.exists;
      }

  -- one entry after another
  entries_in_range : (ledger : Ledger) (list : List Entry) (derived : List (List Lit)) (last : Ledger) → length ledger + length derived ≤ 2147483647 → All (IsWithin vars) ledger → Runs IsLive ledger list derived last → All EntryInRange list
  entries_in_range ledger [] derived last few all runs = All-nil EntryInRange
  entries_in_range ledger (Step chain ∷ more) [] last few all runs = absurd runs
  entries_in_range ledger (Step chain ∷ more) (clause ∷ derived) last few all runs =
      let step = runs.0 in
      let found = read vars ledger chain.first step.start all step.named in
      let high = found.high in
      let links = linked ledger step.start chain.links clause (omega (arith, few)) all found.exists step.folds in
      let now : List (Option (List Lit)) = ledger ++ Some clause ∷ [] in
      All-cons EntryInRange (Step chain) more
      (record { first = record { low = found.low; high = omega (arith, high, few) }; links = links.in_range })
      (entries_in_range now more derived last (omega (arith, few, length-append ledger (Some clause ∷ []))) (All-push (IsWithin vars) ledger (Some clause) all links.exists) runs.1)
  entries_in_range ledger (Drop numbers ∷ more) derived last few all runs =
      let gone = dropped vars ledger numbers (omega (arith, few)) all runs.0 in
      let as_long = gone.as_long in
      All-cons EntryInRange (Drop numbers) more gone.in_range
      (entries_in_range (without_all ledger numbers) more derived last (omega (arith, few, as_long)) gone.exist runs.1)

-- so the numbers of a log are in range
pub in_range : StepsAreCounted → NumbersInRange
in_range counted f log derived resolves few few_vars =
    let steps = counted f log derived resolves in
    entries_in_range f.vars few_vars (all_live f.clauses) (entries log) derived resolves.ledger
    (omega (arith, few, steps, length-map f.clauses (λ clause. Some clause)))
    (All-map (IsWithin f.vars) (λ clause. Some clause) f.clauses f.variables_exist)
    resolves.runs
