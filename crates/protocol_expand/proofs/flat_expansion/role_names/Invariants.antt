-- What has been copied of the role names.
use Rattle.std.proofs.Common.{◌≡◌, map, take}
use Rattle.protocol_expand.proofs.flat_expansion.role_names.Given as goal

-- the texts of the words so far
abbrev pub invariant-loop-word : goal.invariant-loop-word
invariant-loop-word l = l.names ≡ map (λ w. w.text) (take l.word-index l.words)
