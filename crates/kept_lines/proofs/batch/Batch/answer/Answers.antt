-- The line is answered, and kept or not.
use Rattle.std.proofs.Common.{◌≡◌, ◌≤◌, ◌++◌, ◌∷◌, [], ℕ, Bool, true, false, List, length, refl, sym, ap, ◌∙◌, append-nil, append_assoc, arith, rules}
use Rattle.std.proofs.lemmas.Result.{on_ok_weaker}
use Rattle.kept_lines.specs.Answers.{kept_of}
use Rattle.kept_lines.proofs.PieceLemmas.{body_answered, body_unread}
use Rattle.kept_lines.proofs.batch.Batch.answer.Goals as goal

pub returns-then-body-gt-LINE_LIMIT : goal.returns-then-body-gt-LINE_LIMIT
returns-then-body-gt-LINE_LIMIT g c =
    on_ok_weaker c.push_unread.result (λ pushed. body_unread g.A.Responder.answers g.A.Responder.unread g.met.A.Responder.leaves_unread c.args.responder.now c.args.responder.now c.args.body.now c.args.self.now _ (omega (arith, c.if-body-gt-LINE_LIMIT.true)) refl pushed refl) c.push_unread.ensures

pub returns-then-not-is_kept : goal.returns-then-not-is_kept
returns-then-not-is_kept g c =
    let old = c.args.self.now.acts in
    let body = c.args.body.now in
    let is_false : c.in_ok-is_kept.is_kept ≡ false = search rules in
    let short : length body ≤ 65536 = omega (arith, c.if-body-gt-LINE_LIMIT.false) in
    body_answered g.A.Responder.answers c.args.responder.now c.answer.new.self body c.args.self.now _ short (record {
      is_kept = c.in_ok-is_kept.is_kept;
      replies = c.in_ok-is_kept.ensures;
      acts = sym (ap (λ (k : Bool). old ++ kept_of (body ++ 10 ∷ []) k) is_false ∙ append-nil old);
    })

pub returns : goal.returns
returns g c =
    let old = c.args.self.now.acts in
    let body = c.args.body.now in
    let is_true : c.in_ok-is_kept.is_kept ≡ true = search rules in
    let short : length body ≤ 65536 = omega (arith, c.if-body-gt-LINE_LIMIT.false) in
    on_ok_weaker c.push.result (λ pushed. body_answered g.A.Responder.answers c.args.responder.now c.answer.new.self body c.args.self.now _ short (record {
      is_kept = c.in_ok-is_kept.is_kept;
      replies = c.in_ok-is_kept.ensures;
      acts = pushed
          ∙ ap (λ (a : List ℕ). a ++ 10 ∷ []) c.in_ok-append.ensures.ok
          ∙ append_assoc old body (10 ∷ [])
          ∙ ap (λ (k : Bool). old ++ kept_of (body ++ 10 ∷ []) k) (sym is_true);
    })) c.push.ensures.ok
