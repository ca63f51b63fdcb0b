-- One parameter more, and at the end all that there are.
use Rattle.std.proofs.Common.{List, ◌∙◌, subst}
use Rattle.std.specs.List.{enumerate_from, flat_map}
use Rattle.std.proofs.lemmas.List.{take_all}
use Rattle.clause_encoding.specs.Rest.{unbound_clauses_of}
use Rattle.clause_core.specs.Written.{AppendsClauses, Written}
use Rattle.clause_encoding.proofs.AppendsLemmas.{appends_numbered}
use Rattle.clause_encoding.proofs.unbound.push_unbound.Goals as goal

pub loop-n-preserved : goal.loop-n-preserved
loop-n-preserved c =
    appends_numbered (unbound_clauses_of c.args.x.now) _ _ _ c.args.first c.args.values.now c.loop-n.n 0 c.loop-n-test.true c.loop-n.invariant c.in_ok-push_unbound_of.ensures

pub returns : goal.returns
returns c =
    let x = c.args.x.now in
    let all = take_all c.loop-n.n c.args.values.now c.loop-n-test.false ∙ c.requires.all in
    subst (λ (written : List Written). AppendsClauses c.args.clauses.now c.loop-n.clauses written)
    (λ n. flat_map (unbound_clauses_of x) (enumerate_from (c.requires.from n) (all n))) c.loop-n.invariant
