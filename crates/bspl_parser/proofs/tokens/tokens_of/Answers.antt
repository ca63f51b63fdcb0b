-- The tokens of a scan without a bad byte are those of the text; a bad byte of the scan is the text's.
use Rattle.std.proofs.Common.{◌≡◌, ◌++◌, List, None, sym, subst, ◌∙◌, ap}
use Rattle.std.proofs.lemmas.List.{append-nil}
use Rattle.bspl_parser.specs.declared.token.Token.{Token}
use Rattle.bspl_parser.specs.inner.Scan.{Scan, scan_from}
use Rattle.bspl_parser.specs.Tokens.{Tokens}
use Rattle.bspl_parser.proofs.Scanned.{tokens_scanned, bad_byte_found}
use Rattle.bspl_parser.proofs.tokens.tokens_of.Goals as goal

pub returns-in-Some-bad_byte-clause-refused : goal.returns-in-Some-bad_byte-clause-refused
returns-in-Some-bad_byte-clause-refused c =
    let kept = ap (λ (s : Scan). s.bad_byte) c.in_default.ensures.kept in
    bad_byte_found c.args.text.now c.in-Some-bad_byte.offset (sym c.tokens.invariant.same ∙ sym kept ∙ sym c.in-Some-bad_byte.ensures)

pub returns-clause-ok : goal.returns-clause-ok
returns-clause-ok c =
    let text = c.args.text.now in
    let kept = ap (λ (s : Scan). s.bad_byte) c.in_default.ensures.kept in
    let none : (scan_from text 0).bad_byte ≡ None = sym c.tokens.invariant.same ∙ sym kept ∙ sym c.in-None.ensures in
    let all : (scan_from text 0).tokens ≡ c.tokens.tokens = c.tokens.invariant.all ∙ ap (λ (left : List Token). c.tokens.tokens ++ left) c.in_default.ensures.none ∙ append-nil c.tokens.tokens in
    subst (Tokens text) all (tokens_scanned text none)
