-- The line after which a role is spoken to, and what stands before it.
use Rattle.std.specs.Prelude.{◌≡◌, ◌≢◌, ◌⊎◌, ℕ, List, [], ◌++◌, All, codes}
use Rattle.list_base.specs.Lines.{Line}
use Rattle.kept_lines.specs.Answers.{StartsWithLines}

-- the line is `%% wire`; it may have one CR before its LF
abbrev pub IsWireLine : Line → Type 0
IsWireLine line = (line ≡ codes "%% wire\n") ⊎ (line ≡ codes "%% wire\r\n")

-- the text has whole lines alone, and none is that line
pub record HasNoWireLine (text : List ℕ) : Type 0 where
  pub lines : List Line
  pub whole : StartsWithLines text lines []
  pub other : All (λ line. ¬ IsWireLine line) lines

-- the first such line of the bytes stands between the text and the rest
pub record Opens (bytes text rest : List ℕ) : Type 0 where
  pub before : HasNoWireLine text
  pub line : Line
  pub is_wire : IsWireLine line
  pub whole : bytes ≡ (text ++ line) ++ rest

-- no line of the bytes that is whole is that line
pub record IsUnopened (bytes : List ℕ) : Type 0 where
  pub text : List ℕ
  pub before : HasNoWireLine text
  pub begun : List ℕ
  pub unended : All (λ byte. byte ≢ 10) begun
  pub whole : bytes ≡ text ++ begun
