-- The commands: the word of each, the options that it takes, and whether a number follows it.
use Rattle.std.specs.Prelude.{ℕ, Bool, true, false, List, codes}
use Rattle.command_line.specs.declared.command.Command.{Command}
use Rattle.command_line.specs.declared.command.Command.TheVariants.{Verify, Check, Replay, Expand, Run, Restart, Generate, Dead, CheckDead, Serve, Audit}

-- what a command line of a command has
pub record CommandRow : Type 0 where
  pub word : List ℕ
  pub brief : Bool
  pub conflicts : Bool
  pub threads : Bool
  pub sized : Bool

-- no option, and a name follows
abbrev pub plain_row : List ℕ → CommandRow
plain_row word = record {
  word = word;
  brief = false;
  conflicts = false;
  threads = false;
  sized = false;
}

-- one row for each command
abbrev pub row_of : Command → CommandRow
row_of Verify = record (plain_row (codes "verify")) { brief = true; conflicts = true }
row_of Check = plain_row (codes "check")
row_of Replay = plain_row (codes "replay")
row_of Expand = plain_row (codes "expand")
row_of Run = record (plain_row (codes "run")) { brief = true; conflicts = true; threads = true }
row_of Restart = record (plain_row (codes "restart")) { brief = true; conflicts = true }
row_of Generate =
    record (plain_row (codes "generate")) { conflicts = true; threads = true; sized = true }
row_of Dead = record (plain_row (codes "dead")) { brief = true; conflicts = true }
row_of CheckDead = plain_row (codes "check-dead")
row_of Serve = plain_row (codes "serve")
row_of Audit = plain_row (codes "audit")

-- the word that names the command
abbrev pub command_word : Command → List ℕ
command_word command = (row_of command).word

-- `--brief` belongs to it
abbrev pub takes_brief : Command → Bool
takes_brief command = (row_of command).brief

-- `--conflicts` belongs to it
abbrev pub takes_conflicts : Command → Bool
takes_conflicts command = (row_of command).conflicts

-- `--threads` belongs to it
abbrev pub takes_threads : Command → Bool
takes_threads command = (row_of command).threads

-- a number follows it, in place of a name
abbrev pub takes_size : Command → Bool
takes_size command = (row_of command).sized
