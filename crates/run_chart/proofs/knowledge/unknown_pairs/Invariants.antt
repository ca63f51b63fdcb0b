-- What has been found.
use Rattle.std.proofs.Common.{◌≡◌, take}
use Rattle.std.specs.Prelude.{is_none}
use Rattle.std.specs.List.{filter}
use Rattle.run_chart.specs.Knowledge.{value_before}
use Rattle.run_chart.proofs.knowledge.unknown_pairs.Given as goal

-- the pairs so far whose parameter was not known
abbrev pub invariant-loop-pair : goal.invariant-loop-pair
invariant-loop-pair l = l.list ≡ filter (λ (c, v). is_none (value_before l.s.x.now (take l.s.index l.s.run.now) l.s.event.now c.param)) (take l.pair-index l.pairs)
