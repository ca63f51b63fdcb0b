-- The text is one line, or a line and what follows its LF.
use Rattle.std.proofs.Common.{sym, ◌∙◌}
use Rattle.script_text.proofs.LineLemmas.{one_line, two_lines}
use Rattle.script_text.proofs.lines.first_line.Goals as goal

pub returns-then-end-text-clause-lines : goal.returns-then-end-text-clause-lines
returns-then-end-text-clause-lines c = one_line c.args.text.now (sym c.line_len-end.ensures.len ∙ c.if-end-text.true)

pub returns-clause-lines : goal.returns-clause-lines
returns-clause-lines c = rw c.without_return.ensures (two_lines c.args.text.now c.line_len-end.result c.line_len-end.ensures.len c.line_len-end.ensures.within c.if-end-text.false)
