-- One message more.
use Rattle.std.proofs.Common.{ℕ, List, [], ◌∷◌, ◌++◌, cond, sym, ◌∙◌, ap, arith, append-nil, ◌≡◌}
use Rattle.std.specs.List.{filter, range_with_len}
use Rattle.bspl_types.specs.Expansion.{message_of}
use Rattle.clause_encoding.specs.Rivals.{produces}
use Rattle.clause_encoding.proofs.RangeLemmas.{filter_next}
use Rattle.clause_encoding.proofs.rivals.producers_of.Goals as goal
use Rattle.clause_encoding.proofs.rivals.producers_of.Goals.{then-produces+in_ok-push, else-produces}

pub loop-m-preserved : goal.loop-m-preserved
loop-m-preserved c =
    let x = c.args.x.now in
    let passes = λ (m : ℕ). produces (message_of x m) c.args.param in
    let m = c.loop-m.m in
    let more = filter_next passes 0 m m (omega arith) in
    let so_far = filter passes (range_with_len 0 m) in
    let test : c.produces.result ≡ passes m = c.produces.ensures ∙ ap (λ message. produces message c.args.param) c.message_at.ensures in
    elim c.if-produces.branch [
      | then-produces+in_ok-push w ↦
          let added : so_far ++ m ∷ [] ≡ so_far ++ cond (passes m) (m ∷ []) [] = simp (sym test ∙ w.if-produces.true) in
          w.messages-is ∙ w.in_ok-push.ensures.ok ∙ ap (λ (ms : List ℕ). ms ++ m ∷ []) c.loop-m.invariant ∙ added ∙ sym more
      | else-produces w ↦
          let none : so_far ≡ so_far ++ cond (passes m) (m ∷ []) [] = simp (sym test ∙ w.if-produces.false, append-nil) in
          w.messages-is ∙ c.loop-m.invariant ∙ none ∙ sym more
    ]
