-- The rivals are those of the protocol, and their messages are known.
use Rattle.std.proofs.Common.{◌≡◌, List, [], ◌∷◌, ◌++◌, length, sym, ◌∙◌, subst, arith}
use Rattle.std.specs.List.{All}
use Rattle.std.proofs.lemmas.List.Elements.{All-weaker}
use Rattle.std.proofs.lemmas.Result.{IfOk-weaker}
use Rattle.clause_encoding.specs.declared.rivals.Rivals.{Rivals}
use Rattle.clause_encoding.specs.Rivals.{rival_clauses}
use Rattle.clause_core.specs.Written.{AppendsClauses, Written}
use Rattle.clause_encoding.specs.inner.Kinds.{AreWithin}
use Rattle.clause_encoding.specs.inner.Selection.{selections, selector_lits}
use Rattle.clause_encoding.proofs.KindLemmas.{rivals_within}
use Rattle.clause_encoding.proofs.selection.push_rivals.Goals as goal

pub push_rivals_on-requires-clause-few_kinds : goal.push_rivals_on-requires-clause-few_kinds
push_rivals_on-requires-clause-few_kinds c =
    let few = c.args.x.now.shape.counts.few_messages in
    omega (arith, c.kind_count.ensures, few)

pub push_rivals_on-requires-clause-known : goal.push_rivals_on-requires-clause-known
push_rivals_on-requires-clause-known c =
    let x = c.args.x.now in
    let few = x.shape.counts.few_messages in
    subst (λ (rivals : List Rivals). All (AreWithin 64) rivals) (sym (c.as_slice.ensures ∙ c.in_ok-rivals.ensures.exact))
    (All-weaker (AreWithin (length x.messages)) (AreWithin 64)
    (λ pair within. let first = within.first in let second = within.second in record { first = omega (arith, first, few); second = omega (arith, second, few) })
    _ (rivals_within x))

pub returns : goal.returns
returns c =
    let x = c.args.x.now in
    let all = c.as_slice.ensures ∙ c.in_ok-rivals.ensures.exact in
    let kinds = c.kind_count.ensures in
    let are : selections c.kind_count.result c.as_slice.result.now ++ selector_lits c.kind_count.result c.as_slice.result.now ∷ [] ≡ rival_clauses x =
    λ n. selections (kinds n) (all n) ++ selector_lits (kinds n) (all n) ∷ [] in
    IfOk-weaker c.push_rivals_on.result _ _
    (λ _ appends. subst (λ (written : List Written). AppendsClauses c.args.clauses.now c.push_rivals_on.new.clauses written) are appends)
    c.push_rivals_on.ensures
