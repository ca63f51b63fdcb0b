-- Each turn reads one more item, and its error is that of the whole list.
use Rattle.std.proofs.Common.{length, ◌≤◌, sym, ◌∙◌, arith}
use Rattle.std.proofs.lemmas.Result.{err_from_is_err_and}
use Rattle.bspl_parser.proofs.LoopReading.{goes_further, separator_fails, phrase_fails, is_done}
use Rattle.bspl_parser.proofs.list_parser.read_more.Goals as goal

pub returns-in_err-separator-clause-gives : goal.returns-in_err-separator-clause-gives
returns-in_err-separator-clause-gives g c =
    let p = err_from_is_err_and c.from_residual.result c.from_residual.ensures.1 in
    rw (p.1, p.2) (separator_fails _ _ _ _ _ c.items.invariant.0 c.in_err-separator.field-0.0 (sym c.items-test.ensures) c.in_err-separator.ensures.gives)

pub returns-in_err-item-clause-gives : goal.returns-in_err-item-clause-gives
returns-in_err-item-clause-gives g c =
    let p = err_from_is_err_and c.from_residual-in_err-item.result c.from_residual-in_err-item.ensures.1 in
    rw (p.1, p.2) (phrase_fails _ _ _ _ _ c.items.invariant.0 c.in_err-item.field-0.0 _ (sym c.items-test.ensures) c.in_ok-separator.ensures.gives c.in_err-item.ensures.gives)

pub items-preserved : goal.items-preserved
items-preserved g c =
    let further = goes_further _ _ _ _ _ c.items.invariant.0 _ _ c.in_ok-item.item (sym c.items-test.ensures) c.in_ok-separator.ensures.gives c.in_ok-separator.ensures.no_longer c.in_ok-item.ensures.gives c.in_ok-item.ensures.shorter in
    let no_longer : length c.read.new.stream.tokens ≤ length c.args.stream.now.tokens = omega (arith, c.items.invariant.1, c.in_ok-separator.ensures.no_longer, c.in_ok-item.ensures.shorter) in
    (rw c.in_ok-push.ensures.ok further, no_longer, c.in_ok-item.ensures.same ∙ c.in_ok-separator.ensures.same ∙ c.items.invariant.2)

pub returns-clause-gives : goal.returns-clause-gives
returns-clause-gives g c = is_done _ _ _ _ _ c.items.invariant.0 (sym c.items-test.ensures)
