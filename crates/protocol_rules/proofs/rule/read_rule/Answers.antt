-- The fault of the question lies within the rule, and is that of the rule.
use Rattle.std.proofs.Common.{sym, ◌∙◌, arith}
use Rattle.protocol_rules.proofs.PartLemmas.{fault_near, rule_fault}
use Rattle.protocol_rules.proofs.rule.read_rule.Goals as goal

pub fault_at-requires : goal.fault_at-requires
fault_at-requires c =
    let near = fault_near c.args.body.now c.blanks_len-blanks.result c.letters_len-letters.result c.in-Err.fault c.blanks_len-blanks.ensures.within c.letters_len-letters.ensures.within c.in-Err.ensures.refused in
    omega (arith, near)

pub returns-in-Err-clause-fault : goal.returns-in-Err-clause-fault
returns-in-Err-clause-fault c =
    rule_fault c.args.offset c.args.body.now c.blanks_len-blanks.result c.letters_len-letters.result c.in-Err.fault c.fault_at.result c.in-Some.sense c.blanks_len-blanks.ensures.len c.letters_len-letters.ensures.len (sym c.sense_named.ensures ∙ c.in-Some.is) c.in-Err.ensures.refused c.fault_at.ensures
