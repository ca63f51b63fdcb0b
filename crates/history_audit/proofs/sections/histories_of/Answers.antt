-- The last section that is left moves into its role's history.
use Rattle.history_audit.proofs.SectionLemmas.{one_moves}
use Rattle.history_audit.proofs.sections.histories_of.Goals as goal

pub loop-section-preserved : goal.loop-section-preserved
loop-section-preserved c =
    rw c.replace.ensures.list (one_moves c.args.x.now c.args.sections c.loop-section.left c.pop.new.self c.in-Some.section c.loop-section.histories c.requires c.in-Some.ensures.last c.loop-section.invariant)
