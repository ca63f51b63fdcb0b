-- What is said is said of the document that the text spells, if it spells one.
use Rattle.std.proofs.Common.{ℕ, List, subst}
use Rattle.std.proofs.lemmas.Result.{on_ok_weaker}
use Rattle.bspl_parser.specs.declared.document.Document.{Document}
use Rattle.bspl_parser.specs.Judgement.{IsText}
use Rattle.answer_words.specs.Detail.{IsSaid}
use Rattle.answer_words.proofs.RefusalLemmas.{of_document, of_no_document}
use Rattle.answer_words.proofs.detail.push_of_names.Goals as goal

pub returns-in-Some : goal.returns-in-Some
returns-in-Some c =
    let input = c.args.input.now in
    let is : IsText c.protocol_text.result.now c.in-Some.document = rw c.in-Some.is at c.in_ok-document.ensures in
    on_ok_weaker c.push_said.result (of_document _ c.args.text.now c.push_said.new.text (IsSaid input c.args.fault c.args.rejection.now) c.in-Some.document (subst (λ (text : List ℕ). IsText text c.in-Some.document) c.protocol_text.ensures is)) c.push_said.ensures

pub returns-in-None : goal.returns-in-None
returns-in-None c =
    let none : (d : Document) → ¬ IsText c.protocol_text.result.now d = rw c.in-None.is at c.in_ok-document.ensures in
    of_no_document _ c.args.text.now (IsSaid c.args.input.now c.args.fault c.args.rejection.now) (subst (λ (text : List ℕ). (d : Document) → ¬ IsText text d) c.protocol_text.ensures none)
