-- What ends a line.
use Rattle.std.specs.Prelude.{ℕ, ◌==◌, Bool}

-- LF
abbrev pub is_line_end : ℕ → Bool
is_line_end b = b == 10
