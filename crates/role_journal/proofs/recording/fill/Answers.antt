-- The byte stands in the part that was filled.
use Rattle.std.proofs.Common.{◌≡◌, ◌+◌, ◌-◌, ℕ, length, replicate, arith, ap, ◌∙◌}
use Rattle.std.proofs.lemmas.List.{length-replicate}
use Rattle.role_journal.proofs.PatchLemmas.{mid_is_patched}
use Rattle.role_journal.proofs.recording.fill.Goals as goal

pub returns : goal.returns
returns c =
    let bytes = replicate c.args.count c.args.byte in
    let size : length bytes ≡ c.args.count = length-replicate c.args.count c.args.byte in
    mid_is_patched c.args.content.now c.args.at (c.args.at + c.args.count - c.args.at) bytes c.fill.new.self (omega (arith, c.requires, size)) (omega (arith, size)) (c.fill.ensures.after (λ y is. is) ∙ ap (λ (n : ℕ). replicate n c.args.byte) (omega arith))
