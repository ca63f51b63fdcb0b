-- What the table finds of the protocol of the name.
use Rattle.std.proofs.Common.{sym, ◌∙◌}
use Rattle.protocol_expand.proofs.RequestLemmas.{number_found}
use Rattle.protocol_expand.proofs.expansion.expand_faultless.Goals as goal

pub returns-clause-refused : goal.returns-clause-refused
returns-clause-refused c =
    let found = number_found c.numbers_are_of_protocols.ensures c.args.document.now.protocols _ c.args.name.now _ _ (c.in_ok-table.ensures ∙ c.as_slice.ensures) c.in_ok-table.table.in_order c.index.ensures in
    c.missing.ensures c.args.document.now (record { faultless = c.requires.faultless; none = sym found ∙ c.in-None.is })

pub expand_found-requires-clause-found : goal.expand_found-requires-clause-found
expand_found-requires-clause-found c =
    let found = number_found c.numbers_are_of_protocols.ensures c.args.document.now.protocols _ c.args.name.now _ _ (c.in_ok-table.ensures ∙ c.as_slice.ensures) c.in_ok-table.table.in_order c.index.ensures in
    sym found ∙ c.in-Some.is

pub expand_found-requires-clause-same : goal.expand_found-requires-clause-same
expand_found-requires-clause-same c = c.in_ok-table.ensures ∙ c.as_slice.ensures
