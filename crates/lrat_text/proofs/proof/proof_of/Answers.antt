-- The proof is one line, or has a line for each entry.
use Rattle.std.proofs.Common.{◌≡◌, ◌+◌, ℕ, List, [], ◌∷◌, length}
use Rattle.std.proofs.lemmas.Result.{IfOk-weaker}
use Rattle.lrat_text.specs.Lrat.{Add}
use Rattle.lrat_text.specs.Proof.{IsProofOf}
use Rattle.lrat_text.specs.Text.{line_text}
use Rattle.lrat_text.specs.inner.Lines.{HasLines}
use Rattle.lrat_text.proofs.ProofLemmas.{at_once, by_log}
use Rattle.lrat_text.proofs.proof.proof_of.Goals as goal

pub returns-in-Some : goal.returns-in-Some
returns-in-Some c =
    let f = c.args.f.now in
    let named = rw c.as_slice.ensures at c.in-Some.ensures in
    IfOk-weaker c.proof_at_once.result (λ (text : List ℕ). text ≡ line_text (Add (length f.clauses + 1) [] (c.in-Some.number ∷ []))) (IsProofOf f c.args.log.now)
    (λ text is. at_once f c.args.log.now c.args.derived.now c.in-Some.number text c.requires.accepted named is) c.proof_at_once.ensures

pub returns-in-None : goal.returns-in-None
returns-in-None c =
    let f = c.args.f.now in
    let none = rw c.as_slice.ensures at c.in-None.ensures in
    IfOk-weaker c.proof_by_log.result (HasLines f c.args.log.now c.args.derived.now) (IsProofOf f c.args.log.now)
    (λ text has. by_log f c.args.log.now c.args.derived.now text c.requires.accepted none has) c.proof_by_log.ensures
