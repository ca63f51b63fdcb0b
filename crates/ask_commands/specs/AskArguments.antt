-- The arguments of `ask`, by their kinds.
use Rattle.std.specs.Prelude.{◌≡◌, ℕ, ◌≤◌, ◌==◌, Bool, true, false, not, ◌&&◌, ◌||◌, List, [], ◌∷◌, ◌++◌, length, codes, IsTrue}
use Rattle.std.specs.Char.{is_ascii_digit}
use Rattle.std.specs.List.{filter}
use Rattle.std.specs.Str.{bytes_eq}
use Rattle.bspl_types.specs.Name.{is_name}
use Rattle.command_line.specs.Budget.{IsBudget}
use Rattle.list_base.specs.Numeral.{numeral}
use Rattle.ask_commands.specs.declared.arguments.Flags.{Flags}
use Rattle.ask_commands.specs.declared.arguments.Kind.{Kind}
use Rattle.ask_commands.specs.declared.arguments.Kind.TheVariants as kinds

-- begins as options and their numbers do
abbrev pub begins_option : List ℕ → Bool
begins_option [] = false
begins_option (b ∷ rest) = b == 45 || is_ascii_digit b

-- one of the three flags
abbrev pub is_flag : List ℕ → Bool
is_flag arg =
    (bytes_eq arg (codes "--brief") || bytes_eq arg (codes "--check")) ||
    bytes_eq arg (codes "--all")

-- an argument is a flag, about conflicts, or plain
abbrev pub is_kind : Kind → List ℕ → Bool
is_kind kinds.Brief arg = bytes_eq arg (codes "--brief")
is_kind kinds.Check arg = bytes_eq arg (codes "--check")
is_kind kinds.All arg = bytes_eq arg (codes "--all")
is_kind kinds.Plain arg = not (begins_option arg)
is_kind kinds.Conflicts arg = begins_option arg && not (is_flag arg)

-- those of a kind, in order
abbrev pub of_kind : Kind → List (List ℕ) → List (List ℕ)
of_kind kind args = filter (is_kind kind) args

-- a flag is not there, or there once
abbrev pub IsSwitch : List (List ℕ) → Bool → Type 0
IsSwitch [] on = on ≡ false
IsSwitch (flag ∷ []) on = on ≡ true
IsSwitch (flag ∷ again ∷ flags) on = ⊥

-- which flags are there
pub record SetsFlags (args : List (List ℕ)) (flags : Flags) : Type 0 where
  pub brief : IsSwitch (of_kind kinds.Brief args) flags.brief
  pub check : IsSwitch (of_kind kinds.Check args) flags.check
  pub all : IsSwitch (of_kind kinds.All args) flags.all

-- the flags, the arguments about conflicts, and the plain ones
pub record ByKind : Type 0 where
  pub flags : Flags
  pub settings : List (List ℕ)
  pub plain : List (List ℕ)

-- the arguments, which may stand in any order
pub record AreByKind (args : List (List ℕ)) (a : ByKind) : Type 0 where
  pub flags : SetsFlags args a.flags
  pub settings : a.settings ≡ of_kind kinds.Conflicts args
  pub plain : a.plain ≡ of_kind kinds.Plain args

-- the text is a number of conflicts that may be allowed
pub record WritesBudget (text : List ℕ) (n : ℕ) : Type 0 where
  pub as_numeral : text ≡ numeral n
  pub allowed : IsBudget n

-- the arguments are `--conflicts=` with a number, or `--conflicts` and a number; without any the
-- number is 10000
abbrev pub SetsConflicts : List (List ℕ) → ℕ → Type 0
SetsConflicts [] n = n ≡ 10000
SetsConflicts (joined ∷ []) n =
    (text : List ℕ) × (joined ≡ codes "--conflicts=" ++ text) × WritesBudget text n
SetsConflicts (option ∷ text ∷ []) n = (option ≡ codes "--conflicts") × WritesBudget text n
SetsConflicts (option ∷ text ∷ other ∷ args) n = ⊥

-- the plain arguments are the name of a protocol
pub record IsNameOnly (plain : List (List ℕ)) (name : List ℕ) : Type 0 where
  pub arguments : plain ≡ name ∷ []
  pub named : IsTrue (is_name name)

-- they are one and a text, whose offsets a count of 32 bits can give
pub record IsNameWithText (plain : List (List ℕ)) (name text : List ℕ) : Type 0 where
  pub arguments : plain ≡ name ∷ text ∷ []
  pub named : IsTrue (is_name name)
  pub short : length text ≤ 4294967295
