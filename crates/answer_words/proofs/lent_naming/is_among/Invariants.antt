-- No name before is the one.
use Rattle.std.proofs.Common.{◌≡◌, drop, map}
use Rattle.std.specs.List.{list_any}
use Rattle.std.specs.Str.{bytes_eq}
use Rattle.answer_words.proofs.lent_naming.is_among.Given as goal

-- it is one of all exactly if it is one of those that are left
abbrev pub invariant-loop-other : goal.invariant-loop-other
invariant-loop-other l =
    list_any (bytes_eq l.name) (map (λ other. other.now) (drop l.other-index l.names)) ≡
    list_any (bytes_eq l.name) (map (λ other. other.now) l.names)
