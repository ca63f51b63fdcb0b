-- With another option they request nothing.
use Rattle.std.proofs.Common.{◌≡◌, true, false}
use Rattle.ask_commands.specs.inner.Request.{by_kind_of}
use Rattle.ask_commands.proofs.ArgumentLemmas.{no_value}
use Rattle.ask_commands.proofs.RequestLemmas.{check_alone}
use Rattle.ask_commands.proofs.request.check_request.Goals as goal
use Rattle.ask_commands.proofs.request.check_request.Goals.{then-sorted-via-then-sorted, then-sorted-via-else-sorted+then-sorted-2, then-sorted-via-else-sorted+else-sorted-2+then-not-is_empty}

pub returns-then-sorted : goal.returns-then-sorted
returns-then-sorted c = λ task name asks.
    let alone = check_alone (by_kind_of c.args.sorted.now) task name c.requires asks in
    elim c.then-sorted.branch [
      | then-sorted-via-then-sorted w ↦ let on = w.if-sorted.true in let off = alone.0 in cc
      | then-sorted-via-else-sorted+then-sorted-2 w ↦ let on = w.if-sorted-2.true in let off = alone.1 in cc
      | then-sorted-via-else-sorted+else-sorted-2+then-not-is_empty w ↦ let no : false ≡ true = w.if-not-is_empty.ensures.1 (no_value c.args.sorted.now.settings alone.2) in cc
    ]
