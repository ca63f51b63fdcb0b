-- What is appended of the lines of keys.
use Rattle.std.specs.Prelude.{◌≡◌, ℕ, List, ◌++◌}
use Rattle.std.specs.List.{AllZip, concat}
use Rattle.bspl_types.specs.declared.event.Event.{Event}
use Rattle.bspl_types.specs.declared.expanded.Expanded.{Expanded}
use Rattle.bspl_types.specs.declared.value.Value.{Value}
use Rattle.report.specs.ReplayText.{IsConflictLine, IsKeyLine}

-- the text grew by one line for each of these keys
pub record AppendsKeyLines (x : Expanded) (run : List Event) (keys : List (List Value))
    (before after : List ℕ) : Type 0 where
  pub lines : List (List ℕ)
  pub each : AllZip (IsKeyLine x run) keys lines
  pub text : after ≡ before ++ concat lines

-- the text grew by the line of the conflict
pub record AppendsConflict (x : Expanded) (run : List Event) (before after : List ℕ)
    : Type 0 where
  pub line : List ℕ
  pub is_line : IsConflictLine x run line
  pub text : after ≡ before ++ line
