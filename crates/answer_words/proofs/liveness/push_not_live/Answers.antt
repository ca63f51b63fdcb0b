-- The parameter, the lines of its producers, and the advice.
use Rattle.std.proofs.Common.{◌≡◌, ◌∙◌, ◌++◌, ℕ, List, ap}
use Rattle.std.proofs.lemmas.Result.{on_ok_weaker}
use Rattle.answer_words.specs.declared.wording.TheConstants as wording
use Rattle.answer_words.specs.declared.wording.verdicts.TheConstants as verdicts
use Rattle.answer_words.specs.Liveness.{unknown_words}
use Rattle.answer_words.proofs.WordLemmas.{not_live_added}
use Rattle.answer_words.proofs.TextLemmas.{three_parts}
use Rattle.answer_words.proofs.liveness.push_not_live.Goals as goal

pub returns : goal.returns
returns c =
    let old = c.args.text.now in
    let name = c.param_name-name.result.now in
    let lines = c.in_ok-lines.lines in
    let unknown : c.append-3.new.self ≡ old ++ unknown_words name =
    c.in_ok-append-3.ensures.ok ∙ ap (λ (t : List ℕ). t ++ wording.FULL_STOP.now) (c.in_ok-append-2.ensures.ok ∙ ap (λ (t : List ℕ). t ++ name) c.in_ok-append.ensures.ok) ∙ three_parts old verdicts.NOT_LIVE.now name wording.FULL_STOP.now in
    on_ok_weaker c.push_advice.result
    (λ grown. not_live_added c.args.x.now c.args.run.now c.args.param name lines c.as_slice.result.now old c.append-3.new.self c.append-4.new.self c.push_advice.new.text c.in_ok-lines.ensures c.param_name-name.ensures c.as_slice.ensures unknown c.in_ok-append-4.ensures.ok grown)
    (rw c.as_slice-2.ensures at c.push_advice.ensures)
