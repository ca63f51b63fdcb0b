-- The lines of an answer.
use Rattle.std.specs.Prelude.{ℕ, ◌+◌, Bool, List, [], ◌∷◌, ◌++◌, codes}
use Rattle.clause_core.specs.declared.literal.Lit.{Lit}
use Rattle.list_base.specs.Numeral.{numeral}
use Rattle.refutation_log.specs.LogText.{pivot_text}
use Rattle.sat_solver.specs.declared.search_stats.SearchStats.{SearchStats}
use Rattle.dimacs.specs.declared.verdict.Verdict.{Verdict}
use Rattle.dimacs.specs.declared.verdict.Verdict.TheVariants.{Satisfiable, Unsatisfiable, Proved, Unknown}

-- the line of a literal that is true
abbrev pub value_line : Lit → List ℕ
value_line lit = codes "v " ++ pivot_text lit ++ codes "\n"

-- a line for each variable after the first n, whose values these are
abbrev pub value_lines : ℕ → List Bool → List ℕ
value_lines n [] = []
value_lines n (value ∷ values) =
    value_line (record { var = n + 1; positive = value }) ++ value_lines (n + 1) values

-- a number after its name
abbrev pub count_text : List ℕ → ℕ → List ℕ
count_text name count = name ++ numeral count

-- the comment line that says how much was done
abbrev pub stats_line : SearchStats → List ℕ
stats_line stats =
    count_text (codes "c conflicts ") stats.conflicts ++
    count_text (codes " decisions ") stats.decisions ++
    count_text (codes " propagations ") stats.propagations ++
    codes "\n"

-- the lines of an assignment that satisfies
abbrev pub assignment_lines : List Bool → List ℕ
assignment_lines assignment = codes "s SATISFIABLE\n" ++ value_lines 0 assignment ++ codes "v 0\n"

-- a verdict, as solvers print it at their competitions; a proof stands for itself
abbrev pub answer_text : Verdict → List ℕ
answer_text (Satisfiable assignment stats) = stats_line stats ++ assignment_lines assignment
answer_text (Unsatisfiable stats) = stats_line stats ++ codes "s UNSATISFIABLE\n"
answer_text (Proved proof) = proof
answer_text (Unknown stats) = stats_line stats ++ codes "s UNKNOWN\n"
