-- The first line is the head, or it is bad.
use Rattle.std.proofs.Common.{sym, ◌∙◌}
use Rattle.std.proofs.lemmas.Bool.{not-true}
use Rattle.run_text.proofs.FirstBad.{no_head_refused, open_text_refused}
use Rattle.run_text.proofs.Separators.{other_word}
use Rattle.run_text.proofs.reader.run_of.Goals as goal

pub returns-in_default-clause-refused : goal.returns-in_default-clause-refused
returns-in_default-clause-refused c =
    let whole = rw c.in_default.is at c.split_once.ensures.whole in
    open_text_refused c.args.x.now c.args.text.now (rw whole c.split_once.ensures.first)

pub returns-then-ne-clause-refused : goal.returns-then-ne-clause-refused
returns-then-ne-clause-refused c =
    let whole = rw c.in-Some.is at c.split_once.ensures.whole in
    let other = rw c.as_slice.ensures at (other_word c.split_once.result.0.now c.as_slice.result.now (not-true _ (sym c.ne.ensures ∙ c.if-ne.true))) in
    no_head_refused c.args.x.now c.args.text.now c.split_once.result.0.now _ whole c.split_once.ensures.first other
