-- The first line of a text.
use Rattle.std.specs.Prelude.{◌≡◌, ◌<◌, ℕ, List, ◌++◌, codes, length}
use Rattle.bspl_types.specs.declared.expanded.Expanded.{Expanded}
use Rattle.bspl_types.specs.Expansion.{message_name}
use Rattle.refutation_log.specs.declared.refutation.Version.{Version}
use Rattle.refutation_log.specs.LogText.{version_name}

-- what comes before the name of the message
abbrev pub dead_front : Version → List ℕ
dead_front version = codes "log " ++ version_name version ++ codes " dead "

-- the line, which lacks its LF, is the first one of a text on this message
pub record IsTitle (x : Expanded) (line : List ℕ) (version : Version) (m : ℕ) : Type 0 where
  pub known : m < length x.messages
  pub body : line ≡ dead_front version ++ message_name x m
