-- One statement more that keeps the rules.
use Rattle.std.proofs.Common.{sym, subst}
use Rattle.agent_scripts.specs.Rules.{KeepsRules}
use Rattle.agent_scripts.specs.ScriptText.{statements_of}
use Rattle.script_text.proofs.StatementLemmas.{key_in_is_new, one_more}
use Rattle.script_text.proofs.statements.StatementList.with.Goals as goal

pub add_key-requires : goal.add_key-requires
add_key-requires c =
    let list = c.list.inside in
    let keeps = subst (λ stated. KeepsRules (statements_of stated) c.args.stated.statement) (sym c.list.view_is) c.requires.rules in
    key_in_is_new list.stated list.keys list.counted c.args.stated.statement c.list.invariant keeps

pub invariant_of-list : goal.invariant_of-list
invariant_of-list c =
    let list = c.list.inside in
    let keeps = subst (λ stated. KeepsRules (statements_of stated) c.args.stated.statement) (sym c.list.view_is) c.requires.rules in
    rw (c.in_ok-push.ensures.ok, c.in_ok-add_key.ensures, c.is_counted.ensures) (one_more list.stated list.keys list.counted c.args.stated c.list.invariant keeps c.requires.numbers)
