-- What the run shows, below the lifelines of its chart.
use Rattle.std.specs.Prelude.{ℕ, List, [], ◌∷◌, length}
use Rattle.bspl_types.specs.declared.expanded.Expanded.{Expanded}
use Rattle.bspl_types.specs.Expansion.{param_name}
use Rattle.html.specs.Fragment.{Fragment, Number, fitted}
use Rattle.run_chart.specs.declared.finding.Finding.{Finding}
use Rattle.run_chart.specs.declared.finding.Finding.TheVariants.{Bad, Clash, Open, Plain}
use Rattle.run_chart.specs.declared.wording.TheConstants as wording
use Rattle.run_chart.specs.Place.{chart_width}
use Rattle.run_chart.specs.Words.{cut}

-- which parameter the two ringed events produce
abbrev pub clash_foot : List ℕ → ℕ → List Fragment
clash_foot name end = fitted wording.CLASH_FOOT.now (Number end ∷ cut 18 name)

-- a line across the chart, and which parameter no role knows
abbrev pub open_foot : List ℕ → ℕ → ℕ → List Fragment
open_foot name end width =
    fitted wording.OPEN_FOOT.now (Number end ∷ Number width ∷ Number end ∷ cut 18 name)

-- what the run shows, below the lifelines; or that the ringed event may not follow
abbrev pub chart_foot : Expanded → ℕ → Finding → List Fragment
chart_foot x end (Clash param first second) = clash_foot (param_name x param) end
chart_foot x end (Open param) =
    open_foot (param_name x param) end (chart_width (length x.roles))
chart_foot x end (Bad event) = fitted wording.BAD_FOOT.now (Number end ∷ [])
chart_foot x end Plain = []
