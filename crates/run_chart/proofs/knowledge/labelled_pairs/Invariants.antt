-- What has been found.
use Rattle.std.proofs.Common.{◌≡◌, take}
use Rattle.std.specs.Prelude.{◌&&◌, ◌||◌, is_none}
use Rattle.std.specs.List.{filter}
use Rattle.html.specs.Tables.{is_key}
use Rattle.run_chart.specs.Knowledge.{value_before}
use Rattle.run_chart.proofs.knowledge.labelled_pairs.Given as goal

-- the pairs so far whose parameter was not known, or is of the key
abbrev pub invariant-loop-pair : goal.invariant-loop-pair
invariant-loop-pair l = l.list ≡ filter (λ (c, v). (l.keyed && is_key l.s.x.now c.param) || is_none (value_before l.s.x.now (take l.s.index l.s.run.now) l.s.event.now c.param)) (take l.pair-index l.pairs)
