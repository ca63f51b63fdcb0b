-- One variable more.
use Rattle.std.proofs.Common.{◌≡◌, ℕ, ◌+◌, ◌-◌, List, [], ◌∷◌, ◌++◌, map, ap, sym, ◌∙◌, arith}
use Rattle.std.specs.List.{range_with_len}
use Rattle.std.proofs.lemmas.List.FromFn.{map-range_with_len_more}
use Rattle.clause_core.specs.declared.literal.Lit.{Lit}
use Rattle.clause_core.specs.Literal.{positive}
use Rattle.clause_encoding.proofs.clauses.positive_lits.Goals as goal

pub loop-var-preserved : goal.loop-var-preserved
loop-var-preserved c =
    let first = c.args.first in
    let var = c.loop-var.var in
    let so_far = λ (count : ℕ). map positive (range_with_len first count) in
    let longer : var + 1 - first ≡ var - first + 1 = omega arith in
    c.in_ok-push.ensures.ok ∙ ap (λ (lits : List Lit). lits ++ c.positive.result ∷ []) c.loop-var.invariant ∙ ap (λ (lit : Lit). so_far (var - first) ++ lit ∷ []) c.positive.ensures
    ∙ sym (ap so_far longer ∙ map-range_with_len_more positive first (var - first) var (omega arith))
