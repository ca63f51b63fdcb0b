-- What has been written.
use Rattle.std.proofs.Common.{◌≡◌, ◌++◌, List, take}
use Rattle.std.specs.List.{enumerate_from, flat_map}
use Rattle.bspl_types.specs.declared.event.Event.{Event}
use Rattle.html.specs.Fragment.{as_html}
use Rattle.report.specs.WorldCounts.{AreMessageCounts}
use Rattle.page_sections.specs.WorldSection.{count_item}
use Rattle.page_sections.proofs.world_counts.push_rows.Given as goal

-- the rows of the messages so far are written
abbrev pub invariant-loop-number : goal.invariant-loop-number
invariant-loop-number l = (run : List Event) → AreMessageCounts run l.counts → l.text ≡ l.fn.text ++ as_html (flat_map (count_item run) (take l.number (enumerate_from 0 l.messages)))
