-- The emission of one message more, if it binds the parameter.
use Rattle.std.proofs.Common.{◌≡◌, ℕ, List, [], ◌∷◌, ◌++◌, cond, map, sym, ap, ◌∙◌, append-nil}
use Rattle.std.specs.List.{filter, range_with_len}
use Rattle.bspl_types.specs.Expansion.{message_of}
use Rattle.clause_encoding.specs.Carriers.{binds}
use Rattle.clause_encoding.specs.Variables.{sent}
use Rattle.question_formula.proofs.CircuitLemmas.{image_more}
use Rattle.question_formula.proofs.kinds.binding_kinds.Goals as goal
use Rattle.question_formula.proofs.kinds.binding_kinds.Goals.{then-binds+in_ok-push, else-binds}

pub loop-m-preserved : goal.loop-m-preserved
loop-m-preserved c =
    let x = c.args.x.now in
    let passes = λ (m : ℕ). binds (message_of x m) c.args.param in
    let m = c.loop-m.m in
    let more = image_more passes sent m in
    let so_far = map sent (filter passes (range_with_len 0 m)) in
    let test : c.binds.result ≡ passes m = c.binds.ensures ∙ ap (λ message. binds message c.args.param) c.message_at.ensures in
    elim c.if-binds.branch [
      | then-binds+in_ok-push w ↦
          let added : so_far ++ sent m ∷ [] ≡ so_far ++ cond (passes m) (sent m ∷ []) [] = simp (sym test ∙ w.if-binds.true) in
          w.kinds-is ∙ w.in_ok-push.ensures.ok ∙ ap (λ (ks : List ℕ). ks ++ w.sent.result ∷ []) c.loop-m.invariant ∙ ap (λ (k : ℕ). so_far ++ k ∷ []) w.sent.ensures ∙ added ∙ sym more
      | else-binds w ↦
          let none : so_far ≡ so_far ++ cond (passes m) (sent m ∷ []) [] = simp (sym test ∙ w.if-binds.false, append-nil) in
          w.kinds-is ∙ c.loop-m.invariant ∙ none ∙ sym more
    ]
