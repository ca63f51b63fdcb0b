-- One parameter more, and at the end all that there are.
use Rattle.std.proofs.Common.{List, sym, ◌∙◌, subst}
use Rattle.std.specs.List.{All, enumerate_from, flat_map}
use Rattle.std.proofs.lemmas.List.{take_all}
use Rattle.clause_encoding.specs.declared.wants.Want.{Want}
use Rattle.clause_encoding.specs.Rest.{want_clauses_of}
use Rattle.clause_core.specs.Written.{AppendsClauses, Written}
use Rattle.clause_encoding.proofs.AppendsLemmas.{appends_numbered}
use Rattle.clause_encoding.proofs.LackingLemmas.{IsOfMessage, wants_known}
use Rattle.clause_encoding.proofs.want.push_wants.Goals as goal

pub loop-n-preserved : goal.loop-n-preserved
loop-n-preserved c =
    appends_numbered (want_clauses_of c.args.x.now) _ _ _ c.args.first c.args.wants.now c.loop-n.n (record { message = 0; param = 0 }) c.loop-n-test.true c.loop-n.invariant c.in_ok-push_want.ensures

pub push_want-requires : goal.push_want-requires
push_want-requires c = subst (λ (wants : List Want). All (IsOfMessage c.args.x.now) wants) (sym c.requires.all) (wants_known c.args.x.now) c.loop-n.n (record { message = 0; param = 0 }) c.loop-n-test.true

pub returns : goal.returns
returns c =
    let x = c.args.x.now in
    let all = take_all c.loop-n.n c.args.wants.now c.loop-n-test.false ∙ c.requires.all in
    subst (λ (written : List Written). AppendsClauses c.args.clauses.now c.loop-n.clauses written)
    (λ n. flat_map (want_clauses_of x) (enumerate_from (c.requires.from n) (all n))) c.loop-n.invariant
