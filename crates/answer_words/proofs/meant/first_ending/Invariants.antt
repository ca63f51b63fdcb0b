-- No name before ends so.
use Rattle.std.proofs.Common.{◌≡◌, drop, map}
use Rattle.std.specs.Prelude.{nat_eq}
use Rattle.std.specs.List.{ends_with, find}
use Rattle.answer_words.proofs.meant.first_ending.Given as goal

-- the first one is that of the names that are left
abbrev pub invariant-loop-name : goal.invariant-loop-name
invariant-loop-name l =
    find (λ name. ends_with nat_eq name l.end) (map (λ name. name.now) (drop l.name-index l.names)) ≡
    find (λ name. ends_with nat_eq name l.end) (map (λ name. name.now) l.names)
