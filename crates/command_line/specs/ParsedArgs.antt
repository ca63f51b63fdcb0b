-- What the arguments of a command line set, option by option.
use Rattle.std.specs.Prelude.{◌≡◌, ◌≤◌, ◌+◌, ℕ, List, [], ◌∷◌, ◌++◌, length, fold}
use Rattle.command_line.specs.Argument.{Argument, Brief, Conflicts, Threads, Positional, ReadsAs}

-- how often `--brief` is given, the other options' values, and the positional arguments in order
pub record ParsedArgs : Type 0 where
  pub briefs : ℕ
  pub conflicts : List (List ℕ)
  pub threads : List (List ℕ)
  pub positional : List (List ℕ)

-- no argument
abbrev pub nothing_parsed : ParsedArgs
nothing_parsed = record { briefs = 0; conflicts = []; threads = []; positional = [] }

-- one argument more
abbrev pub add : ParsedArgs → Argument → ParsedArgs
add s Brief = record s { briefs = s.briefs + 1 }
add s (Conflicts value) = record s { conflicts = s.conflicts ++ value ∷ [] }
add s (Threads value) = record s { threads = s.threads ++ value ∷ [] }
add s (Positional word) = record s { positional = s.positional ++ word ∷ [] }

-- all the arguments
abbrev pub parsed : List Argument → ParsedArgs
parsed parts = fold add nothing_parsed parts

-- each option is given at most once, and there are two positional arguments at most
pub record HasNoRepeats (s : ParsedArgs) : Type 0 where
  pub briefs : s.briefs ≤ 1
  pub conflicts : length s.conflicts ≤ 1
  pub threads : length s.threads ≤ 1
  pub positional : length s.positional ≤ 2

-- added to what was set before, the arguments set this
pub record ParsesTo (args : List (List ℕ)) (before after : ParsedArgs) : Type 0 where
  pub parts : List Argument
  pub reads : ReadsAs args parts
  pub after_is : after ≡ fold add before parts
