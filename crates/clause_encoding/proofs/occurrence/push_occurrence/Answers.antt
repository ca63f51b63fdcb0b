-- One kind more, and at the end all kinds.
use Rattle.std.proofs.Common.{◌≡◌, ℕ, ◌-◌, List, ap, ◌∙◌, subst, arith}
use Rattle.std.specs.List.{flat_map, range_with_len}
use Rattle.clause_core.specs.Written.{AppendsClauses, Written}
use Rattle.clause_encoding.proofs.OccurrenceLemmas.{occurrence_parts}
use Rattle.clause_encoding.specs.inner.Occurrence.{occurrence_of_one}
use Rattle.clause_encoding.proofs.AppendsLemmas.{appends_next}
use Rattle.clause_encoding.proofs.occurrence.push_occurrence.Goals as goal

pub loop-i-preserved : goal.loop-i-preserved
loop-i-preserved c =
    appends_next (occurrence_of_one c.args.vars) _ _ _ 1 c.loop-i.i (omega arith) c.loop-i.invariant c.in_ok-push_occurrence_of_one.ensures

pub returns : goal.returns
returns c =
    let vars = c.args.vars in
    let all : c.loop-i.i - 1 ≡ vars.kinds - 0 = omega arith in
    subst (λ (written : List Written). AppendsClauses c.args.clauses.now c.loop-i.clauses written)
    (ap (λ (n : ℕ). flat_map (occurrence_of_one vars) (range_with_len 1 n)) all ∙ occurrence_parts vars) c.loop-i.invariant
