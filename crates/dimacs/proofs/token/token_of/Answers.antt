-- A word that is refused is no token's.
use Rattle.std.proofs.Common.{◌≢◌, rules, codes, arith}
use Rattle.dimacs.proofs.ReadingLemmas.{handed_on, no_token, no_variable}
use Rattle.dimacs.proofs.token.token_of.Goals as goal

pub returns-in_err-lit-clause-err : goal.returns-in_err-lit-clause-err
returns-in_err-lit-clause-err c =
    let other : c.args.word.now ≢ codes "0" = search rules in
    handed_on _ _ _ c.from_residual.ensures.1 (no_token c.args.vars c.args.word.now _ c.requires other c.in_err-lit.ensures.reading)

pub returns-else-lit-vars-clause-err : goal.returns-else-lit-vars-clause-err
returns-else-lit-vars-clause-err c =
    let other : c.args.word.now ≢ codes "0" = search rules in
    λ _. no_variable c.args.vars c.args.word.now c.in_ok-lit.lit other c.in_ok-lit.ensures.reading.0 (omega arith)
