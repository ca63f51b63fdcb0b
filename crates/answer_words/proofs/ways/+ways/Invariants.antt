-- How far the search may go, and that no item before leads to the message.
use Rattle.std.proofs.Common.{◌≡◌, ◌+◌, ◌*◌, drop}
use Rattle.protocol_paths.specs.Path.{numbered_items}
use Rattle.answer_words.specs.Ways.{way_to}
use Rattle.answer_words.proofs.WayLemmas.{way_among}
use Rattle.answer_words.proofs.ways.+ways.Given as goal

abbrev pub decreases-way_to : goal.decreases-way_to
decreases-way_to l = 2 * l.most + 1

abbrev pub decreases-way_by : goal.decreases-way_by
decreases-way_by l = 2 * l.most

-- the way is that by the items that are left
abbrev pub invariant-way_to-loop-index : goal.invariant-way_to-loop-index
invariant-way_to-loop-index l =
    way_among l.most l.protocols l.name (drop l.index (numbered_items l.protocol)) ≡
    way_to l.most l.protocols l.protocol l.name
