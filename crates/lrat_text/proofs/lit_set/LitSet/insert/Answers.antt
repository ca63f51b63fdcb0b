-- The set holds one literal more.
use Rattle.lrat_text.proofs.LitSetLemmas.{one_lit_more}
use Rattle.lrat_text.proofs.lit_set.LitSet.insert.Goals as goal

pub returns : goal.returns
returns c = λ lits held. one_lit_more c.args.self.now.ranks c.insert.new.self lits c.args.lit (rw c.rank.ensures at c.in_ok-insert.ensures.updates.0) held
