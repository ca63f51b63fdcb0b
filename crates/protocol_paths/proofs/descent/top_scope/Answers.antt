-- There is no link that needs words.
use Rattle.std.proofs.Common.{refl}
use Rattle.protocol_paths.proofs.OwnWordLemmas.{own_none}
use Rattle.protocol_paths.proofs.descent.top_scope.Goals as goal

pub invariant_of-result : goal.invariant_of-result
invariant_of-result c = record {
  at_end = refl;
  own_words = own_none c.args.top.now;
}
