-- The test on ranks finds the literal.
use Rattle.std.proofs.Common.{false, arith}
use Rattle.std.proofs.lemmas.Bool.Decides.{Decides-eqb}
use Rattle.clause_core.specs.declared.literal.Lit.{Lit}
use Rattle.clause_core.proofs.DistinctLemmas.{last_rank}
use Rattle.clause_core.proofs.distinct.ends_in.Goals as goal

-- the literal that a read past the end would give
abbrev no_literal : Lit
no_literal = record { var = 0; positive = false }

pub returns-in-len1-up : goal.returns-in-len1-up
returns-in-len1-up c =
    let test = Decides-eqb c.rank.result c.rank-in-len1-up.result in
    let among = last_rank c.args.kept.now c.args.lit no_literal c.in-len1-up.len_at_least c.requires.ascends c.requires.none_above in
    (λ equal. among.0 (omega (arith, test.0 equal)), λ held. test.1 (omega (arith, among.1 held)))
