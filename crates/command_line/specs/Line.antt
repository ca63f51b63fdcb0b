-- Which arguments are a command line, and what it asks for.
use Rattle.std.specs.Prelude.{◌≡◌, ℕ, Bool, true, false, List, [], ◌∷◌, zero, suc, IsTrue}
use Rattle.bspl_types.specs.Name.{is_name}
use Rattle.command_line.specs.declared.line.CommandLine.{CommandLine}
use Rattle.command_line.specs.declared.line.Subject.{Subject}
use Rattle.command_line.specs.declared.line.Subject.TheVariants.{Protocol, Size}
use Rattle.command_line.specs.Command.{command_word, takes_brief, takes_conflicts, takes_size, takes_threads}
use Rattle.command_line.specs.Number.{IsNumberIn}
use Rattle.command_line.specs.Argument.{Argument, ReadsAs}
use Rattle.command_line.specs.ParsedArgs.{ParsedArgs, parsed}

-- the second argument is a number from 1 to 16 for a command that takes one, and else a name
abbrev pub IsSubject : Bool → List ℕ → Subject → Type 0
IsSubject true word (Size n) = IsNumberIn 1 16 word n
IsSubject true word (Protocol name) = ⊥
IsSubject false word (Size n) = ⊥
IsSubject false word (Protocol name) = (name.now ≡ word) × IsTrue (is_name word)

-- how often a flag is given: not at all, or once if it belongs to the command
abbrev pub IsFlag : Bool → ℕ → Bool → Type 0
IsFlag belongs zero on = on ≡ false
IsFlag belongs (suc zero) on = (on ≡ true) × IsTrue belongs
IsFlag belongs (suc (suc n)) on = ⊥

-- an option's values: none, and it has its default; or a number in the range, if it belongs to the
-- command
abbrev pub IsOptionValue : Bool → ℕ → ℕ → ℕ → List (List ℕ) → ℕ → Type 0
IsOptionValue belongs least most default [] n = n ≡ default
IsOptionValue belongs least most default (value ∷ []) n =
    IsNumberIn least most value n × IsTrue belongs
IsOptionValue belongs least most default (value ∷ other ∷ values) n = ⊥

-- what is parsed is this command line
pub record IsLineOf (s : ParsedArgs) (line : CommandLine) : Type 0 where
  pub word : List ℕ
  pub positional : s.positional ≡ command_word line.command ∷ word ∷ []
  pub subject : IsSubject (takes_size line.command) word line.subject
  pub brief : IsFlag (takes_brief line.command) s.briefs line.brief
  pub conflicts :
      IsOptionValue (takes_conflicts line.command) 1 20000 10000 s.conflicts line.conflicts
  pub threads : IsOptionValue (takes_threads line.command) 0 8 1 s.threads line.threads

-- the arguments are this command line
pub record IsCommandLine (args : List (List ℕ)) (line : CommandLine) : Type 0 where
  pub parts : List Argument
  pub reads : ReadsAs args parts
  pub line_of : IsLineOf (parsed parts) line

-- the same name, or the same size
abbrev pub IsSameSubject : Subject → Subject → Type 0
IsSameSubject (Protocol one) (Protocol other) = one.now ≡ other.now
IsSameSubject (Protocol one) (Size other) = ⊥
IsSameSubject (Size one) (Protocol other) = ⊥
IsSameSubject (Size one) (Size other) = one ≡ other

-- the two command lines ask for the same
pub record IsSameLine (one other : CommandLine) : Type 0 where
  pub command : one.command ≡ other.command
  pub subject : IsSameSubject one.subject other.subject
  pub brief : one.brief ≡ other.brief
  pub conflicts : one.conflicts ≡ other.conflicts
  pub threads : one.threads ≡ other.threads

-- arguments are one command line at most
abbrev pub OneLine : Type 0
OneLine = (args : List (List ℕ)) (one other : CommandLine) → IsCommandLine args one
    → IsCommandLine args other
    → IsSameLine one other
