-- What stands round the strokes and labels of a chart: title, description and lifelines.
use Rattle.std.specs.Prelude.{ℕ, List, [], ◌∷◌, ◌++◌, length}
use Rattle.std.specs.List.{flat_map}
use Rattle.bspl_types.specs.declared.event.Event.{Event}
use Rattle.bspl_types.specs.declared.expanded.Expanded.{Expanded}
use Rattle.bspl_types.specs.Expansion.{param_name}
use Rattle.html.specs.Fragment.{Fragment, Number, Words, fitted}
use Rattle.run_chart.specs.declared.finding.Finding.{Finding}
use Rattle.run_chart.specs.declared.finding.Finding.TheVariants.{Bad, Clash, Open, Plain}
use Rattle.run_chart.specs.declared.wording.TheConstants as wording
use Rattle.run_chart.specs.Place.{chart_height, chart_width, column}
use Rattle.run_chart.specs.Words.{cut}

-- what the run shows, as the title
abbrev pub chart_title : Expanded → Finding → List Fragment
chart_title x (Clash param first second) =
    fitted wording.CLASH_TITLE.now
    (Number first ∷ Number second ∷ Words (param_name x param) ∷ [])
chart_title x (Open param) = fitted wording.OPEN_TITLE.now (Words (param_name x param) ∷ [])
chart_title x (Bad event) = fitted wording.BAD_TITLE.now (Number event ∷ [])
chart_title x Plain = fitted wording.PLAIN_TITLE.now []

-- a role's name in the description
abbrev pub described : List ℕ → List Fragment
described name = fitted wording.DESCRIBED_ROLE.now (Words name ∷ [])

-- what the chart is, for those who do not see it
abbrev pub chart_description : Expanded → List Fragment
chart_description x =
    fitted wording.DESCRIPTION.now [] ++ flat_map described x.roles ++
    fitted wording.DESCRIPTION_END.now []

-- the beginning of a chart, with its width and its height
abbrev pub chart_start : ℕ → ℕ → List Fragment
chart_start width height =
    fitted wording.CHART.now
    (Number width ∷ Number height ∷ Number width ∷ Number height ∷ [])

-- what stands before the lifelines
abbrev pub chart_head : Expanded → List Event → Finding → List Fragment
chart_head x run finding =
    chart_start (chart_width (length x.roles)) (chart_height (length run)) ++
    chart_title x finding ++ chart_description x ++ fitted wording.STYLE.now []

-- the lifeline of a role, from its name down to the height
abbrev pub lifeline : ℕ → ℕ × List ℕ → List Fragment
lifeline end (role, name) =
    fitted wording.LIFELINE.now
    (Number (column role) ∷ Number end ∷ Number (column role) ∷ cut 20 name)
