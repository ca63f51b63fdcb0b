-- Which parts the arguments of a command line are, read from the left.
use Rattle.std.specs.Prelude.{◌≡◌, ℕ, Bool, false, ◌==◌, List, [], ◌∷◌, ◌++◌, map, codes}

-- what one argument is, or an option with its value
pub data Argument : Type 0 where
  Brief : Argument
  Conflicts : (value : List ℕ) → Argument
  Threads : (value : List ℕ) → Argument
  Positional : (word : List ℕ) → Argument

-- begins with `-`
abbrev pub begins_with_dash : List ℕ → Bool
begins_with_dash [] = false
begins_with_dash (b ∷ rest) = b == 45

-- begins with `-`, and is longer than one byte
abbrev pub is_dashed : List ℕ → Bool
is_dashed [] = false
is_dashed (b ∷ []) = false
is_dashed (b ∷ c ∷ rest) = b == 45

-- the argument alone is the part
pub data IsAlone : List ℕ → Argument → Type 0 where
  -- the flag
  brief : IsAlone (codes "--brief") Brief
  -- a value comes after `=`
  conflicts_joined : (value : List ℕ) → IsAlone (codes "--conflicts=" ++ value) (Conflicts value)
  threads_joined : (value : List ℕ) → IsAlone (codes "--threads=" ++ value) (Threads value)
  -- any argument that is no option: `-` alone and the empty argument too
  positional : (word : List ℕ) → is_dashed word ≡ false → IsAlone word (Positional word)

-- the arguments begin with the part, and the rest is left
pub data BeginsWithArgument : List (List ℕ) → Argument → List (List ℕ) → Type 0 where
  -- an argument that is a part
  alone : (word : List ℕ) (part : Argument) (rest : List (List ℕ)) → IsAlone word part
      → BeginsWithArgument (word ∷ rest) part rest
  -- an option whose value is the next argument, which must not begin with `-`
  conflicts_next : (value : List ℕ) (rest : List (List ℕ)) → begins_with_dash value ≡ false
      → BeginsWithArgument (codes "--conflicts" ∷ value ∷ rest) (Conflicts value) rest
  threads_next : (value : List ℕ) (rest : List (List ℕ)) → begins_with_dash value ≡ false
      → BeginsWithArgument (codes "--threads" ∷ value ∷ rest) (Threads value) rest

-- the arguments are these parts
pub data ReadsAs : List (List ℕ) → List Argument → Type 0 where
  -- no arguments, no parts
  nothing : ReadsAs [] []
  -- `--` ends the options: it is dropped, and all arguments after it are positional
  the_end : (rest : List (List ℕ)) → ReadsAs (codes "--" ∷ rest) (map Positional rest)
  -- one part, and then the others
  next : (args : List (List ℕ)) (part : Argument) (rest : List (List ℕ)) (parts : List Argument)
      → BeginsWithArgument args part rest → ReadsAs rest parts → ReadsAs args (part ∷ parts)
