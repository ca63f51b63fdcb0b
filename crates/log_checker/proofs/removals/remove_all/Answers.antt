-- One number more was live, and is so no more.
use Rattle.std.proofs.Common.{◌≡◌, get_or, sym, ap, ◌∙◌, rules}
use Rattle.refutation_log.specs.Ledger.{IsLive, without}
use Rattle.log_checker.proofs.Running.{removed_next, without_next}
use Rattle.log_checker.proofs.removals.remove_all.Goals as goal

pub loop-index-preserved : goal.loop-index-preserved
loop-index-preserved c =
    let numbers = c.args.numbers.now in
    let index = c.loop-index.index in
    let number = get_or numbers index 0 in
    let before = c.loop-index.invariant in
    let is : IsLive c.loop-index.table.ledger number = search rules in
    let cleared : c.remove.new.self.ledger ≡ without c.loop-index.table.ledger number = search rules in
    record {
      removed = removed_next c.args.table.now.ledger numbers index 0 c.loop-index-test.true before.removed (rw before.ledger at is);
      ledger = cleared ∙ ap (λ ledger. without ledger number) before.ledger ∙ sym (without_next c.args.table.now.ledger numbers index 0 c.loop-index-test.true);
      formula = c.remove.ensures.formula ∙ before.formula;
      derived = c.remove.ensures.derived ∙ before.derived;
    }
