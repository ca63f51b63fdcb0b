-- Prefixes of names.
use Rattle.std.specs.Prelude.{ℕ, List, ◌++◌, codes, decimal, IsTrue}
use Rattle.bspl_types.specs.Name.{is_name}

-- a name after it makes a name
pub record IsPrefix (prefix : List ℕ) : Type 0 where
  pub keeps : (name : List ℕ) → IsTrue (is_name name) → IsTrue (is_name (prefix ++ name))

-- NAME#POSITION.
abbrev pub numbered_name : List ℕ → ℕ → List ℕ
numbered_name name position = name ++ codes "#" ++ decimal position ++ codes "."
