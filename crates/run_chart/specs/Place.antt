-- Where things stand in a chart: roles in columns, events in rows below each other.
use Rattle.std.specs.Prelude.{ℕ, ◌+◌, ◌*◌, max}

-- the middle of a role's column: its lifeline
abbrev pub column : ℕ → ℕ
column role = 90 + 180 * role

-- the height of the row of the event at the index
abbrev pub row : ℕ → ℕ
row index = 72 + 40 * index

-- the height at which lifelines end, below the rows of so many events
abbrev pub rows_end : ℕ → ℕ
rows_end events = 58 + 40 * events

-- the width of a chart of so many roles
abbrev pub chart_width : ℕ → ℕ
chart_width roles = 180 * max 2 roles

-- the height of a chart of so many events
abbrev pub chart_height : ℕ → ℕ
chart_height events = 92 + 40 * events
