-- What the survey finds of the protocol of the name.
use Rattle.std.proofs.Common.{List, get_or, length, refl, sym, ◌∙◌, ap, subst, arith, ◌<◌}
use Rattle.bspl_parser.specs.declared.document.Declaration.{Declaration}
use Rattle.protocol_expand.proofs.RequestLemmas.{cycle_within, deep_enough, expands_for, flat_for, has_cycle, has_too_many, refuses_for, surveyed}
use Rattle.protocol_expand.proofs.FlatReady.{flat_is_ready}
use Rattle.protocol_expand.proofs.expansion.expand_found.Goals as goal

pub bounds-protocols-node : goal.bounds-protocols-node
bounds-protocols-node c =
    let is_survey = surveyed c.args.document.now c.args.name.now _ c.args.number _ _ c.requires.faultless c.requires.same c.requires.found c.in-Cycle.is c.in_ok-node.ensures in
    let same = c.requires.same in
    subst (λ (ps : List Declaration). c.in-Cycle.node < length ps) (sym same)
    (cycle_within c.numbers_are_of_protocols.ensures c.references_are_a_graph.ensures c.args.document.now c.args.name.now c.args.number c.in-Cycle.node (omega (arith, c.if-protocols.false, ap (λ (ps : List Declaration). length ps) same)) is_survey)

pub returns-in-Cycle-clause-refused : goal.returns-in-Cycle-clause-refused
returns-in-Cycle-clause-refused c =
    let is_survey = surveyed c.args.document.now c.args.name.now _ c.args.number _ _ c.requires.faultless c.requires.same c.requires.found c.in-Cycle.is c.in_ok-node.ensures in
    let same = c.requires.same in
    let met = c.index-protocols-node.result in
    c.recursion.ensures c.args.document.now c.args.name.now
    (has_cycle c.numbers_are_of_protocols.ensures c.references_are_a_graph.ensures c.args.document.now c.args.name.now met.name.text c.args.number c.in-Cycle.node met (omega (arith, c.if-protocols.false, ap (λ (ps : List Declaration). length ps) same)) is_survey
    (ap (λ (p : Declaration). p.name.text) c.index-protocols-node.is ∙ ap (λ (ps : List Declaration). (get_or ps c.in-Cycle.node met).name.text) same))

pub returns-in-Over-clause-refused : goal.returns-in-Over-clause-refused
returns-in-Over-clause-refused c =
    let is_survey = surveyed c.args.document.now c.args.name.now _ c.args.number _ _ c.requires.faultless c.requires.same c.requires.found c.in-Over.is c.in_ok-node.ensures in
    has_too_many c.numbers_are_of_protocols.ensures c.args.document.now c.args.name.now c.args.number c.in-Over.what c.in-Over.count is_survey

pub expand_top-requires-clause-within_depth : goal.expand_top-requires-clause-within_depth
expand_top-requires-clause-within_depth c =
    let is_survey = surveyed c.args.document.now c.args.name.now _ c.args.number _ _ c.requires.faultless c.requires.same c.requires.found c.in-Within.is c.in_ok-node.ensures in
    deep_enough c.numbers_are_of_protocols.ensures c.args.document.now c.args.name.now _ _ _ _ _ _ _ is_survey refl c.requires.same c.index-protocols-number.is

pub expand_top-requires-clause-ready : goal.expand_top-requires-clause-ready
expand_top-requires-clause-ready c = λ flat is_flat.
    let is_survey = surveyed c.args.document.now c.args.name.now _ c.args.number _ _ c.requires.faultless c.requires.same c.requires.found c.in-Within.is c.in_ok-node.ensures in
    let stands = flat_for c.numbers_are_of_protocols.ensures c.args.document.now c.args.name.now _ _ _ flat _ _ _ _ is_survey refl c.requires.same c.index-protocols-number.is is_flat in
    flat_is_ready c.messages_are_counted.ensures c.privates_are_counted.ensures c.paths_by_items.ensures c.args.document.now c.args.name.now flat c.requires.formed stands

pub returns-in-Within-clause-ok : goal.returns-in-Within-clause-ok
returns-in-Within-clause-ok c =
    let is_survey = surveyed c.args.document.now c.args.name.now _ c.args.number _ _ c.requires.faultless c.requires.same c.requires.found c.in-Within.is c.in_ok-node.ensures in
    expands_for c.numbers_are_of_protocols.ensures c.args.document.now c.args.name.now _ _ _ _ _ _ _ c.expand_top.result is_survey refl c.requires.same c.index-protocols-number.is c.expand_top.ensures.ok

pub returns-in-Within-clause-refused : goal.returns-in-Within-clause-refused
returns-in-Within-clause-refused c =
    let is_survey = surveyed c.args.document.now c.args.name.now _ c.args.number _ _ c.requires.faultless c.requires.same c.requires.found c.in-Within.is c.in_ok-node.ensures in
    refuses_for c.numbers_are_of_protocols.ensures c.args.document.now c.args.name.now _ _ _ _ _ _ _ c.expand_top.result is_survey refl c.requires.same c.index-protocols-number.is c.expand_top.ensures.refused
