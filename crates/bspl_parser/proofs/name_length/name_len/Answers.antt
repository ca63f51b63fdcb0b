-- A name begins with the first byte, goes on byte by byte, and ends.
use Rattle.std.proofs.Common.{◌≡◌, false, drop, sym, ap, ◌∙◌}
use Rattle.std.proofs.lemmas.List.{take_rest}
use Rattle.bspl_parser.specs.inner.NameLength.{goes_on}
use Rattle.bspl_parser.proofs.PlainNames.{none_begins, plain_begins, some_begins, plain_step, plain_within, plain_ends}
use Rattle.bspl_parser.proofs.name_length.name_len.Goals as goal

pub returns-then-not-has_begin-clause-exact : goal.returns-then-not-has_begin-clause-exact
returns-then-not-has_begin-clause-exact c = none_begins c.args.bytes.now (sym c.has_begin.ensures ∙ c.if-not-has_begin.true)

pub loop-len-init : goal.loop-len-init
loop-len-init c =
    let begins = sym c.has_begin.ensures ∙ c.if-not-has_begin.false in
    (plain_begins c.args.bytes.now begins, some_begins c.args.bytes.now begins)

pub loop-len-preserved : goal.loop-len-preserved
loop-len-preserved c =
    let bytes = c.args.bytes.now in
    let plain = sym c.has_plain_at.ensures ∙ c.loop-len-test.true in
    (sym (plain_step bytes c.loop-len.len plain) ∙ c.loop-len.invariant.0, plain_within bytes c.loop-len.len plain)

pub returns-clause-exact : goal.returns-clause-exact
returns-clause-exact c =
    let bytes = c.args.bytes.now in
    let plain = sym c.has_plain_at.ensures ∙ c.loop-len-test.false in
    let more : goes_on (drop c.loop-len.len bytes) ≡ false = ap goes_on (sym (take_rest bytes c.loop-len.len)) ∙ sym c.goes_on.ensures ∙ c.if-goes_on.false in
    plain_ends c.loop-len.len (drop c.loop-len.len bytes) plain more ∙ c.loop-len.invariant.0
