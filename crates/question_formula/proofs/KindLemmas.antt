-- The kinds of a happening are kinds of the protocol, if it has what is said to have happened.
use Rattle.std.proofs.Common.{ℕ, ◌<◌, List, length, arith, Contains}
use Rattle.std.proofs.lemmas.List.Elements.{All-contains}
use Rattle.bspl_types.specs.declared.expanded.Expanded.{Expanded}
use Rattle.clause_encoding.specs.declared.variables.Variables.{Variables}
use Rattle.clause_encoding.specs.Carriers.{carriers}
use Rattle.clause_encoding.specs.Laws.{CarriersAreKinds}
use Rattle.clause_encoding.specs.Variables.{IsKind, received, sent}
use Rattle.first_occurrences.specs.Report.{AreVariablesOf}
use Rattle.questions.specs.declared.question.Happening.{Happening}
use Rattle.questions.specs.Subject.{IsAboutHappening}
use Rattle.question_formula.specs.Happenings.{kinds_of}
use Rattle.question_formula.proofs.OverLemmas.{kinds_are, kinds_of_vars}

-- the numbers are those of kinds
abbrev pub AreKinds : Variables → List ℕ → Type 0
AreKinds vars kinds = (kind : ℕ) → Contains kinds kind → IsKind vars kind

module _ (x : Expanded) (vars : Variables) (are : AreVariablesOf x vars) where
  -- the emission of a message is a kind
  pub sent_is_kind : (m : ℕ) → m < length x.messages → IsKind vars (sent m)
  sent_is_kind m below = let count = are.kinds in record { from_one = omega arith; up_to = omega (arith, below, count) }

  -- and so is its reception
  pub received_is_kind : (m : ℕ) → m < length x.messages → IsKind vars (received m)
  received_is_kind m below = let count = are.kinds in record { from_one = omega arith; up_to = omega (arith, below, count) }

  -- so are those that make a parameter known at a role
  pub carriers_are : CarriersAreKinds → (role p : ℕ) → AreKinds vars (carriers x role p)
  carriers_are carried role p kind among =
      All-contains (IsKind vars) (carriers x role p) kind (kinds_of_vars x vars (carriers x role p) are.kinds (carried x role p)) among

  -- and those of a happening
  pub are_kinds : CarriersAreKinds → (h : Happening) → IsAboutHappening x h → AreKinds vars (kinds_of x h)
  are_kinds carried h about kind among =
      All-contains (IsKind vars) (kinds_of x h) kind (kinds_of_vars x vars (kinds_of x h) are.kinds (kinds_are carried x h about)) among
