-- One parameter more, and at the end all that are public.
use Rattle.std.proofs.Common.{◌≡◌, ℕ, ◌+◌, List, [], ◌∷◌, ◌++◌, ◌≤◌, cond, get_or, length, take, ap, sym, subst, ◌∙◌, arith, append-nil, zero-add}
use Rattle.std.proofs.lemmas.Option.{get_or_from_slice_get}
use Rattle.bspl_types.specs.declared.protocol.ParamInfo.{ParamInfo}
use Rattle.bspl_types.specs.Shape.{is_public_value}
use Rattle.clause_encoding.proofs.LackingLemmas.{few_values}
use Rattle.clause_encoding.proofs.RangeLemmas.{numbers_kept, numbers_more}
use Rattle.clause_encoding.proofs.parameters.public_values.Goals as goal
use Rattle.clause_encoding.proofs.parameters.public_values.Goals.{then-is_public_value+in_ok-push, else-is_public_value}

pub loop-param-preserved : goal.loop-param-preserved
loop-param-preserved c =
    let x = c.args.x.now in
    let p = c.loop-param.param in
    let info = c.at.result.now in
    let passes = λ (i : ParamInfo). is_public_value i.adornment in
    let so_far = numbers_kept passes 0 (take p x.params) in
    let within = x.shape.declared.within in
    let more = numbers_more passes 0 x.params p info (omega (arith, within)) in
    let test : c.is_public_value.result ≡ passes (get_or x.params p info) = c.is_public_value.ensures ∙ ap passes (sym (get_or_from_slice_get x.params p info info c.at.ensures)) in
    elim c.if-is_public_value.branch [
      | then-is_public_value+in_ok-push w ↦
          let added : so_far ++ p ∷ [] ≡ so_far ++ cond (passes (get_or x.params p info)) ((0 + p) ∷ []) [] = simp (sym test ∙ w.if-is_public_value.true, zero-add) in
          w.params-is ∙ w.in_ok-push.ensures.ok ∙ ap (λ (ps : List ℕ). ps ++ p ∷ []) c.loop-param.invariant ∙ added ∙ sym more
      | else-is_public_value w ↦
          let none : so_far ≡ so_far ++ cond (passes (get_or x.params p info)) ((0 + p) ∷ []) [] = simp (sym test ∙ w.if-is_public_value.false, append-nil) in
          w.params-is ∙ c.loop-param.invariant ∙ none ∙ sym more
    ]

pub returns-clause-few : goal.returns-clause-few
returns-clause-few c =
    let x = c.args.x.now in
    let all : c.loop-param.param ≡ x.public = omega arith in
    let exact = c.loop-param.invariant ∙ ap (λ (n : ℕ). numbers_kept (λ info. is_public_value info.adornment) 0 (take n x.params)) all in
    subst (λ (params : List ℕ). length params ≤ 64) (sym exact) (few_values x)
