-- The kinds that are left are those of the definition, exist, and are not the emission.
use Rattle.std.proofs.Common.{List, ℕ, ap, sym, subst, ◌∙◌}
use Rattle.std.specs.Prelude.{not, ◌==◌}
use Rattle.std.specs.List.{All, filter}
use Rattle.std.proofs.lemmas.List.{take_all}
use Rattle.clause_encoding.specs.Carriers.{carriers}
use Rattle.clause_encoding.specs.Variables.{sent}
use Rattle.clause_encoding.specs.inner.Kinds.{IsOtherKind}
use Rattle.clause_encoding.proofs.KindLemmas.{other_kinds}
use Rattle.clause_encoding.proofs.carrier_kinds.sender_carriers.Goals as goal

pub returns-clause-exact : goal.returns-clause-exact
returns-clause-exact c =
    let items = c.as_slice-kind-items.result.now in
    let whole = take_all c.loop-kind.kind-index items c.loop-kind-test.false in
    let at_sender = ap (λ message. carriers c.args.x.now message.sender c.args.param) c.message_at.ensures in
    c.loop-kind.invariant ∙ ap (filter (λ (kind : ℕ). not (kind == sent c.args.m))) (whole ∙ c.as_slice-kind-items.ensures ∙ c.in_ok-all.ensures ∙ at_sender)

pub returns-clause-others : goal.returns-clause-others
returns-clause-others c =
    subst (λ (kinds : List ℕ). All (IsOtherKind c.args.x.now c.args.m) kinds) (sym (returns-clause-exact c)) (other_kinds c.args.x.now c.args.m c.args.param)
