-- Which names were found.
use Rattle.std.proofs.Common.{◌≡◌, map, take}
use Rattle.answer_words.proofs.lent_naming.names_in.Given as goal

-- those of the items so far
abbrev pub invariant-loop-item : goal.invariant-loop-item
invariant-loop-item g l = map (λ name. name.now) l.names ≡ map g.T.Named.name (take l.item-index l.items)
