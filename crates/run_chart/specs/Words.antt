-- Words of which no more than so many bytes are shown.
use Rattle.std.specs.Prelude.{ℕ, nat_le, if◌then◌else◌, List, [], ◌∷◌, length, take}
use Rattle.html.specs.Fragment.{Fragment, Tag, Words}
use Rattle.run_chart.specs.declared.wording.TheConstants as wording

-- what follows words of which more are not shown
abbrev pub ellipsis : ℕ → List ℕ → List ℕ
ellipsis most text = if nat_le (length text) most then [] else wording.ELLIPSIS.now

-- the words, and that they go on
abbrev pub cut : ℕ → List ℕ → List Fragment
cut most text = Words (take most text) ∷ Tag (ellipsis most text) ∷ []
