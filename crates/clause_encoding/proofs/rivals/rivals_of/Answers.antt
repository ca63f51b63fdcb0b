-- One parameter more, and at the end all parameters.
use Rattle.std.proofs.Common.{◌≡◌, ℕ, List, ◌≤◌, length, sym, subst, ◌∙◌, ◌++◌, ap, arith}
use Rattle.std.specs.List.{flat_map, range_with_len}
use Rattle.clause_encoding.specs.declared.rivals.Rivals.{Rivals}
use Rattle.clause_encoding.specs.Rivals.{producers_of, rivals_among}
use Rattle.clause_encoding.proofs.LengthLemmas.{few_rivals}
use Rattle.clause_encoding.proofs.RangeLemmas.{flat_map_next}
use Rattle.clause_encoding.proofs.rivals.rivals_of.Goals as goal

pub loop-param-preserved : goal.loop-param-preserved
loop-param-preserved c =
    let x = c.args.x.now in
    let here = λ (p : ℕ). rivals_among p (producers_of x p) in
    let p = c.loop-param.param in
    let producers = c.as_slice.ensures ∙ c.in_ok-producers.ensures in
    c.in_ok-add_rivals.ensures ∙ ap (λ (rivals : List Rivals). rivals ++ rivals_among p c.as_slice.result.now) c.loop-param.invariant
    ∙ ap (λ (ms : List ℕ). flat_map here (range_with_len 0 p) ++ rivals_among p ms) producers ∙ sym (flat_map_next here 0 p p (omega arith))

pub returns-clause-few : goal.returns-clause-few
returns-clause-few c =
    let x = c.args.x.now in
    let all : c.loop-param.param ≡ length x.params = omega arith in
    let exact = c.loop-param.invariant ∙ ap (λ (n : ℕ). flat_map (λ p. rivals_among p (producers_of x p)) (range_with_len 0 n)) all in
    subst (λ (rivals : List Rivals). length rivals ≤ 262144) (sym exact) (few_rivals x)
