-- Each token is read, or no question has it; at the end the tokens are a question, or unfinished.
use Rattle.std.proofs.Common.{◌≡◌, None, Err, sym, ap, subst, ◌∙◌, arith}
use Rattle.std.specs.Option.{option_map}
use Rattle.std.proofs.lemmas.List.{take_all}
use Rattle.bspl_parser.specs.Token.{token_text}
use Rattle.question_text.specs.inner.Fault.{HasMisplaced}
use Rattle.question_text.specs.inner.Reading.{IsStep, progress_of}
use Rattle.question_text.specs.inner.Step.{step}
use Rattle.question_text.specs.Tree.{phrase_of}
use Rattle.question_text.proofs.Readings.{AreRead, token_read, token_misplaced, tokens_spell, tokens_unfinished}
use Rattle.question_text.proofs.reader.read_tokens.Goals as goal

pub returns-in-Err-Misplaced-clause-refused : goal.returns-in-Err-Misplaced-clause-refused
returns-in-Err-Misplaced-clause-refused c =
    let t = c.token-item.result in
    let r = progress_of c.loop-token.reading in
    let stuck : step r c.text.result.now ≡ None = subst (λ e. IsStep (step r c.text.result.now) (Err e)) c.in-Err-Misplaced.field-0-is c.in-Err-Misplaced.ensures in
    let none : step r (token_text t) ≡ None = ap (step r) (sym c.text.ensures) ∙ stuck in
    subst (HasMisplaced c.args.tokens.now) (sym c.offset.ensures)
    (token_misplaced c.args.tokens.now c.loop-token.token-index t r (omega arith) c.token-item.is c.loop-token.invariant none)

pub loop-token-preserved : goal.loop-token-preserved
loop-token-preserved c =
    let r = progress_of c.loop-token.reading in
    token_read c.args.tokens.now c.loop-token.token-index c.token-item.result r (progress_of c.in-Ok.next) (omega arith) c.token-item.is c.loop-token.invariant (ap (step r) (sym c.text.ensures) ∙ c.in-Ok.ensures)

pub returns-in-Some-clause-ok : goal.returns-in-Some-clause-ok
returns-in-Some-clause-ok c =
    let r = progress_of c.loop-token.reading in
    let read : AreRead c.args.tokens.now r = subst (λ ts. AreRead ts r) (take_all c.loop-token.token-index c.args.tokens.now (omega arith)) c.loop-token.invariant in
    tokens_spell c.args.tokens.now r (phrase_of c.in-Some.question) read (sym c.in_ok-question.ensures ∙ ap (option_map phrase_of) c.in-Some.is)

pub returns-in-None-clause-refused : goal.returns-in-None-clause-refused
returns-in-None-clause-refused c =
    let r = progress_of c.loop-token.reading in
    let read : AreRead c.args.tokens.now r = subst (λ ts. AreRead ts r) (take_all c.loop-token.token-index c.args.tokens.now (omega arith)) c.loop-token.invariant in
    tokens_unfinished c.args.tokens.now r read (sym c.in_ok-question.ensures ∙ ap (option_map phrase_of) c.in-None.is)
