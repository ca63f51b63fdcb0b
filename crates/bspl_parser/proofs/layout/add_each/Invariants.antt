-- What is kept while texts are added.
use Rattle.std.proofs.Common.{◌≡◌, ◌++◌, take}
use Rattle.std.specs.List.{flat_map}
use Rattle.bspl_parser.proofs.layout.add_each.Given as goal

-- the texts of the items so far were added
abbrev pub invariant-loop-item : goal.invariant-loop-item
invariant-loop-item g l = l.text ≡ l.fn.text ++ flat_map (λ x. l.before ++ g.T.Print.printed x) (take l.item-index l.items)
