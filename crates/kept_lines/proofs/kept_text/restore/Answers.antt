-- One line more that is kept, and one that is not.
use Rattle.std.proofs.Common.{◌≡◌, ◌≢◌, ◌∷◌, ◌++◌, [], Bool, true, false, subst, rules}
use Rattle.kept_lines.proofs.RestoreLemmas.{restores_line, stops_unended, stops_unkept}
use Rattle.kept_lines.proofs.kept_text.restore.Goals as goal

pub returns-in_default-clause-err : goal.returns-in_default-clause-err
returns-in_default-clause-err g c =
    let whole : c.lines.rest.now ≡ c.split_once.result.0.now = rw c.in_default.is at c.split_once.ensures.whole in
    let some : c.lines.rest.now ≢ [] = search rules in
    stops_unended g.A.Responder.answers c.args.responder c.args.text.now c.lines.current c.lines.rest.now c.lines.count c.lines.invariant g.A.Responder.unread g.met.A.Responder.leaves_unread some (rw whole c.split_once.ensures.first)

pub returns-then-not-branch-clause-err : goal.returns-then-not-branch-clause-err
returns-then-not-branch-clause-err g c =
    let body = c.split_once.result.0.now in
    let more = c.in-Some.more.now in
    let reply = c.in_ok-answer.ensures.reply in
    let parts : c.lines.rest.now ≡ body ++ 10 ∷ more = rw c.in-Some.is at c.split_once.ensures.whole in
    let is_false : c.in_ok-answer.field-0 ≡ false = search rules in
    stops_unkept g.A.Responder.answers c.args.responder c.args.text.now c.lines.current c.lines.rest.now c.lines.count c.lines.invariant body more reply c.answer.new.self parts c.split_once.ensures.first
    (subst (λ (k : Bool). g.A.Responder.answers c.lines.current (body ++ 10 ∷ []) reply k c.answer.new.self) is_false c.in_ok-answer.ensures.answer)

pub lines-preserved : goal.lines-preserved
lines-preserved g c =
    let body = c.split_once.result.0.now in
    let more = c.in-Some.more.now in
    let reply = c.in_ok-answer.ensures.reply in
    let parts : c.lines.rest.now ≡ body ++ 10 ∷ more = rw c.in-Some.is at c.split_once.ensures.whole in
    let is_true : c.in_ok-answer.field-0 ≡ true = search rules in
    restores_line g.A.Responder.answers c.args.responder c.args.text.now c.lines.current c.lines.rest.now c.lines.count c.lines.invariant body more reply c.answer.new.self parts c.split_once.ensures.first
    (subst (λ (k : Bool). g.A.Responder.answers c.lines.current (body ++ 10 ∷ []) reply k c.answer.new.self) is_true c.in_ok-answer.ensures.answer)
