-- What has been written.
use Rattle.std.proofs.Common.{◌≡◌, ◌∷◌, ◌++◌, take}
use Rattle.std.specs.List.{flat_map}
use Rattle.run_chart.specs.Knowledge.{field}
use Rattle.run_chart.proofs.words.name_and_fields.Given as goal

-- the name and the fields of the pairs so far are written
abbrev pub invariant-loop-pair : goal.invariant-loop-pair
invariant-loop-pair l = l.words ≡ l.name ++ flat_map (λ (c, v). 32 ∷ field l.x c.param v) (take l.pair-index l.pairs)
