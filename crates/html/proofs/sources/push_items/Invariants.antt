-- What has been written.
use Rattle.std.proofs.Common.{◌≡◌, ◌++◌, take}
use Rattle.std.specs.List.{enumerate_from, flat_map}
use Rattle.html.specs.Fragment.{as_html}
use Rattle.html.specs.Tables.{source_item}
use Rattle.html.proofs.sources.push_items.Given as goal

-- the names so far are written
abbrev pub invariant-loop-index : goal.invariant-loop-index
invariant-loop-index l = l.text ≡ l.fn.text ++ as_html (flat_map (source_item l.dead l.param l.role) (take l.index (enumerate_from 0 l.messages)))
