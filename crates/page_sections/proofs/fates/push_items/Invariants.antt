-- What has been written.
use Rattle.std.proofs.Common.{◌≡◌, ◌++◌, take}
use Rattle.std.specs.List.{enumerate_from, flat_map}
use Rattle.html.specs.Fragment.{as_html}
use Rattle.page_sections.specs.Fates.{fate_item}
use Rattle.page_sections.proofs.fates.push_items.Given as goal

-- the items so far are written
abbrev pub invariant-loop-message : goal.invariant-loop-message
invariant-loop-message l = l.text ≡ l.fn.text ++ as_html (flat_map (fate_item l.x) (take l.message (enumerate_from 0 l.fates)))
