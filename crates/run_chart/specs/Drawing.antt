-- How strokes and rings are drawn.
use Rattle.std.specs.Prelude.{ℕ, ◌+◌, ◌*◌, nat_lt, if◌then◌else◌, List, [], ◌∷◌}
use Rattle.html.specs.Fragment.{Fragment, Number, Tag, fitted}
use Rattle.run_chart.specs.declared.wording.TheConstants as wording
use Rattle.run_chart.specs.Place.{column, row}
use Rattle.run_chart.specs.Strokes.{Arrow, Mark, Stroke, Stub}

-- where an arrow's head begins: beside the receiver's lifeline, on the sender's side
abbrev pub head_start : ℕ → ℕ → ℕ
head_start sender receiver =
    if nat_lt sender receiver then 74 + 180 * receiver else 106 + 180 * receiver

-- the head of an arrow
abbrev pub arrow_head : ℕ → ℕ → List ℕ
arrow_head sender receiver =
    if nat_lt sender receiver then wording.RIGHT_HEAD.now else wording.LEFT_HEAD.now

-- a short line with an open circle at its end
abbrev pub open_end : ℕ → ℕ → List ℕ
open_end sender receiver =
    if nat_lt sender receiver then wording.RIGHT_END.now else wording.LEFT_END.now

-- a circle on the lifeline of a role in the row of an index
abbrev pub circle : List ℕ → ℕ → ℕ → List Fragment
circle template role index =
    fitted template (Number (column role) ∷ Number (row index) ∷ [])

-- a stroke as it is drawn
abbrev pub drawn : Stroke → List Fragment
drawn (Mark index role event) = circle wording.MARK.now role index
drawn (Arrow sent sender received receiver) =
    fitted wording.ARROW.now (Number (column sender) ∷ Number (row sent) ∷
    Number (head_start sender receiver) ∷ Number (row received) ∷
    Tag (arrow_head sender receiver) ∷ [])
drawn (Stub sent sender receiver) =
    fitted wording.STUB.now
    (Number (column sender) ∷ Number (row sent) ∷ Tag (open_end sender receiver) ∷ [])
