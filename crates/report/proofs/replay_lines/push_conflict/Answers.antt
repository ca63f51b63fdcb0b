-- A run without a conflict.
use Rattle.std.proofs.Common.{◌≡◌, ◌++◌, refl, inl}
use Rattle.std.proofs.lemmas.Result.{on_ok_weaker}
use Rattle.report.specs.ReplayLines.{no_conflict_line}
use Rattle.report.specs.inner.KeyLines.{AppendsConflict}
use Rattle.report.proofs.replay_lines.push_conflict.Goals as goal

pub returns-in-None : goal.returns-in-None
returns-in-None c =
    let appends : c.append.new.self ≡ c.args.text.now ++ no_conflict_line → AppendsConflict c.args.x.now c.args.index.now c.args.text.now c.append.new.self =
    λ text. record { line = no_conflict_line; is_line = inl ((rw c.in-None.is at c.in_ok-found.ensures.none).0 refl, refl); text = text } in
    on_ok_weaker c.append.result appends c.append.ensures.ok
