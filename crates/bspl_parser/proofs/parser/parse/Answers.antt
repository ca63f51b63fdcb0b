-- The byte at which the scan ends is bad; an error of the grammar is a bad token or the end.
use Rattle.std.proofs.Common.{sym, ap, subst, ◌∙◌}
use Rattle.bspl_parser.specs.inner.GrammarParsers.{parse_document}
use Rattle.bspl_parser.specs.inner.ParseResult.{Fails}
use Rattle.bspl_parser.specs.inner.Scan.{Scan}
use Rattle.bspl_parser.specs.Tokens.{Tokens}
use Rattle.bspl_parser.proofs.Judgements.{token_refused, text_of}
use Rattle.bspl_parser.proofs.Scanned.{tokens_scanned, bad_byte_found}
use Rattle.bspl_parser.proofs.parser.parse.Goals as goal

pub returns-in-Some-clause-refused : goal.returns-in-Some-clause-refused
returns-in-Some-clause-refused c =
    let scanned = ap (λ (s : Scan). s.bad_byte) (sym c.scan-stream.ensures) in
    bad_byte_found c.args.text.now c.in-Some.offset (scanned ∙ sym c.read_document-reading.ensures.same ∙ sym c.in-Some.ensures)

pub returns-in-Ok-clause-ok : goal.returns-in-Ok-clause-ok
returns-in-Ok-clause-ok c =
    let text = c.args.text.now in
    let scanned = ap (λ (s : Scan). s.bad_byte) (sym c.scan-stream.ensures) in
    let tokens = tokens_scanned text (scanned ∙ sym c.in-Ok.ensures.same ∙ sym c.in_default.ensures) in
    text_of text c.scan-stream.result.tokens _ c.in-Ok.document (subst (λ (s : Scan). Tokens text s.tokens) (sym c.scan-stream.ensures) tokens) c.in-Ok.ensures.gives c.in-Ok.ensures.all

pub returns-in-Err-Invalid-clause-refused : goal.returns-in-Err-Invalid-clause-refused
returns-in-Err-Invalid-clause-refused c =
    let text = c.args.text.now in
    let scanned = ap (λ (s : Scan). s.bad_byte) (sym c.scan-stream.ensures) in
    let tokens = tokens_scanned text (scanned ∙ sym c.in-Err-Invalid.ensures.same ∙ sym c.in_default.ensures) in
    let read = subst (λ e. Fails e (parse_document c.scan-stream.result.tokens)) (rw c.in-Err-Invalid.is at c.in-Err-Invalid.field-0-is) c.in-Err-Invalid.ensures.gives in
    token_refused text c.scan-stream.result.tokens c.in-Err-Invalid.position _ (subst (λ (s : Scan). Tokens text s.tokens) (sym c.scan-stream.ensures) tokens) read c.error_offset-offset.ensures
