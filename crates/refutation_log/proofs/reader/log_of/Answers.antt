-- The first line is a header, or it is bad.
use Rattle.std.proofs.Common.{◌++◌, sym, ap, ◌∙◌}
use Rattle.std.specs.List.{flat_map}
use Rattle.std.proofs.lemmas.List.{append_assoc}
use Rattle.std.proofs.lemmas.Result.{err_from_is_err_and}
use Rattle.refutation_log.specs.Entries.{entries}
use Rattle.refutation_log.specs.LogText.{header_line, entry_line}
use Rattle.list_base.specs.Lines.{end_line}
use Rattle.refutation_log.proofs.FirstBad.{open_text_refused, no_header_refused, header_then}
use Rattle.refutation_log.proofs.reader.log_of.Goals as goal

pub returns-in_default-clause-refused : goal.returns-in_default-clause-refused
returns-in_default-clause-refused c =
    let whole = rw c.in_default.is at c.split_once.ensures.whole in
    open_text_refused c.args.text.now (rw whole c.split_once.ensures.first)

pub returns-in_default-header_of-clause-refused : goal.returns-in_default-header_of-clause-refused
returns-in_default-header_of-clause-refused c =
    let whole = rw c.in-Some.is at c.split_once.ensures.whole in
    no_header_refused c.args.text.now _ _ whole c.split_once.ensures.first c.in_default-header_of.ensures

pub returns-in_err-log-clause-refused : goal.returns-in_err-log-clause-refused
returns-in_err-log-clause-refused c =
    let p = err_from_is_err_and c.from_residual.result c.from_residual.ensures.1 in
    let whole = rw c.in-Some.is at c.split_once.ensures.whole in
    let header = c.in-Some-header_of in
    let text = header_then c.args.text.now _ _ (header_line header.version header.kind) whole header.ensures in
    rw (p.1, p.2, ← text) (c.in_err-log.ensures.refused header.kind)

pub returns-clause-ok : goal.returns-clause-ok
returns-clause-ok c =
    let whole = rw c.in-Some.is at c.split_once.ensures.whole in
    let header = c.in-Some-header_of in
    let first = header_line header.version header.kind in
    let text = header_then c.args.text.now _ _ first whole header.ensures in
    record {
      numbers = c.in_ok-log.ensures.numbers;
      version = header.version;
      allowed = c.in_ok-log.ensures.allowed;
      text = sym text ∙ ap (λ rest. first ++ rest) c.in_ok-log.ensures.text ∙ sym (append_assoc first (flat_map entry_line (entries c.in_ok-log.log)) end_line);
    }
