-- The sequence chart of a run, beside the table of its events.
use Rattle.std.specs.Prelude.{List, [], ◌++◌, length}
use Rattle.std.specs.List.{enumerate_from, flat_map}
use Rattle.bspl_types.specs.declared.event.Event.{Event}
use Rattle.bspl_types.specs.declared.expanded.Expanded.{Expanded}
use Rattle.html.specs.Fragment.{Fragment, fitted}
use Rattle.run_chart.specs.declared.finding.Finding.{Finding}
use Rattle.run_chart.specs.declared.wording.TheConstants as wording
use Rattle.run_chart.specs.Drawing.{drawn}
use Rattle.run_chart.specs.EventTable.{event_table}
use Rattle.run_chart.specs.Foot.{chart_foot}
use Rattle.run_chart.specs.Frame.{chart_head, lifeline}
use Rattle.run_chart.specs.Labels.{words_at}
use Rattle.run_chart.specs.Place.{rows_end}
use Rattle.run_chart.specs.Strokes.{strokes}

-- the lifelines, the strokes, and the words, in the order in which they are drawn
abbrev pub chart_body : Expanded → List Event → Finding → List Fragment
chart_body x run finding =
    flat_map (lifeline (rows_end (length run))) (enumerate_from 0 x.roles) ++
    flat_map drawn (strokes x run) ++
    flat_map (words_at x run finding) (enumerate_from 0 run) ++
    chart_foot x (rows_end (length run)) finding

-- the chart, what explains it, and the table of events
unfoldable pub chart : Expanded → List Event → Finding → List Fragment
chart x run finding =
    chart_head x run finding ++ chart_body x run finding ++ fitted wording.LEGEND.now [] ++
    event_table x run finding ++ fitted wording.CHART_END.now []
