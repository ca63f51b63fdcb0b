-- The line is `role`, a space and the name of the role that is found.
use Rattle.std.proofs.Common.{◌∙◌, codes, sym}
use Rattle.std.proofs.lemmas.Bool.Decides.{Decides-eqb}
use Rattle.std.proofs.lemmas.Slice.Eq.{strip_prefix_is}
use Rattle.history_audit.proofs.SectionLemmas.{found_line, none_line}
use Rattle.history_audit.proofs.section_lines.role_of_line.Goals as goal

pub returns-in_err-index : goal.returns-in_err-index
returns-in_err-index c =
    let whole = rw (c.in_ok-name.was) at (strip_prefix_is Decides-eqb c.args.line.now (codes "role ") c.strip_prefix.result c.strip_prefix.ensures.cases) in
    let none = rw c.as_slice.ensures at (sym c.in_err-index.was ∙ c.index_of.ensures) in
    rw c.from_residual-in_err-index.ensures (none_line c.args.x.now c.args.line.now c.in_ok-name.name.now whole none)

pub returns : goal.returns
returns c =
    let whole = rw (c.in_ok-name.was) at (strip_prefix_is Decides-eqb c.args.line.now (codes "role ") c.strip_prefix.result c.strip_prefix.ensures.cases) in
    let found = rw c.as_slice.ensures at (sym c.in_ok-index.was ∙ c.index_of.ensures) in
    found_line c.args.x.now c.args.line.now c.in_ok-name.name.now c.in_ok-index.index whole found
