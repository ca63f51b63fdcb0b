-- One parameter more.
use Rattle.std.proofs.Common.{◌+◌, Bool, cond, List, [], ◌∷◌, ◌++◌, get_or, take, ap, sym, ◌∙◌, append-nil, append_assoc}
use Rattle.std.proofs.lemmas.Bool.{eq-eqb, ne_eqb}
use Rattle.clause_core.specs.declared.literal.Lit.{Lit}
use Rattle.clause_core.specs.Literal.{positive}
use Rattle.clause_encoding.specs.inner.Lacking.{wanted_lits}
use Rattle.clause_encoding.proofs.LackingLemmas.{wanted_more}
use Rattle.clause_encoding.proofs.exhaustion.add_wanted.Goals as goal
use Rattle.clause_encoding.proofs.exhaustion.add_wanted.Goals.{then-want-m+in_ok-push, else-want-m}

pub loop-n-preserved : goal.loop-n-preserved
loop-n-preserved c =
    let m = c.args.m in
    let n = c.loop-n.n in
    let old = c.args.lits.now in
    let want = get_or c.args.wants.now n (record { message = 0; param = 0 }) in
    let so_far = wanted_lits c.args.first (take n c.args.wants.now) m in
    let with = λ (kept : Bool). so_far ++ cond kept (positive (c.args.first + n) ∷ []) [] in
    let more = wanted_more c.args.first c.args.wants.now m n (record { message = 0; param = 0 }) c.loop-n-test.true in
    elim c.if-want-m.branch [
      | then-want-m+in_ok-push w ↦
          w.lits-is ∙ w.in_ok-push.ensures.ok ∙ ap (λ (lits : List Lit). lits ++ w.positive.result ∷ []) c.loop-n.invariant ∙ append_assoc old so_far (w.positive.result ∷ [])
          ∙ ap (λ (lits : List Lit). old ++ lits) (ap (λ (lit : Lit). so_far ++ lit ∷ []) w.positive.ensures ∙ ap with (sym (eq-eqb want.message m w.if-want-m.true)) ∙ sym more)
      | else-want-m w ↦
          w.lits-is ∙ c.loop-n.invariant
          ∙ ap (λ (lits : List Lit). old ++ lits) (sym (more ∙ ap with (ne_eqb want.message m w.if-want-m.false) ∙ append-nil so_far))
    ]
