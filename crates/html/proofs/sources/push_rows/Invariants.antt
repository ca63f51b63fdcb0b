-- What has been written.
use Rattle.std.proofs.Common.{◌≡◌, ◌++◌, take}
use Rattle.std.specs.List.{enumerate_from, flat_map}
use Rattle.html.specs.Fragment.{as_html}
use Rattle.html.specs.Tables.{source_row}
use Rattle.html.proofs.sources.push_rows.Given as goal

-- the rows so far are written
abbrev pub invariant-loop-param : goal.invariant-loop-param
invariant-loop-param l = l.text ≡ l.fn.text ++ as_html (flat_map (source_row l.x l.dead) (take l.param (enumerate_from 0 l.params)))
