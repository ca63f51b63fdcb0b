-- One message more, and at the end all messages.
use Rattle.std.proofs.Common.{◌≡◌, ℕ, List, ◌≤◌, length, sym, subst, ◌∙◌, ◌++◌, ap, arith}
use Rattle.std.specs.List.{flat_map, range_with_len}
use Rattle.clause_encoding.specs.declared.wants.Want.{Want}
use Rattle.clause_encoding.specs.Rest.{wants_by}
use Rattle.clause_encoding.proofs.LackingLemmas.{few_wants}
use Rattle.clause_encoding.proofs.RangeLemmas.{flat_map_next}
use Rattle.clause_encoding.proofs.wants.wants_of.Goals as goal

pub loop-m-preserved : goal.loop-m-preserved
loop-m-preserved c =
    let x = c.args.x.now in
    let m = c.loop-m.m in
    c.in_ok-add_wants.ensures ∙ ap (λ (wants : List Want). wants ++ wants_by x m) c.loop-m.invariant ∙ sym (flat_map_next (wants_by x) 0 m m (omega arith))

pub returns-clause-few : goal.returns-clause-few
returns-clause-few c =
    let x = c.args.x.now in
    let all : c.loop-m.m ≡ length x.messages = omega arith in
    let exact = c.loop-m.invariant ∙ ap (λ (n : ℕ). flat_map (wants_by x) (range_with_len 0 n)) all in
    subst (λ (wants : List Want). length wants ≤ 1024) (sym exact) (few_wants x)
