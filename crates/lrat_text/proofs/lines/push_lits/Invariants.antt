-- What has been written of the literals.
use Rattle.std.proofs.Common.{◌≡◌, ◌++◌, take}
use Rattle.lrat_text.specs.Text.{lits_text}
use Rattle.lrat_text.proofs.lines.push_lits.Given as goal

-- the literals before this one
abbrev pub invariant-loop-lit : goal.invariant-loop-lit
invariant-loop-lit l = l.text ≡ l.initial.text ++ lits_text (take l.lit-index l.lits)
