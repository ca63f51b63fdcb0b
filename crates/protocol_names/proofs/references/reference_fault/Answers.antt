-- The reference against what its protocol declares, if there is one.
use Rattle.std.proofs.Common.{◌∙◌, sym, ap}
use Rattle.std.specs.Prelude.{option_copied}
use Rattle.std.proofs.lemmas.Bool.{true≢false}
use Rattle.protocol_names.proofs.Uses.{no_such_protocol, not_the_arity, by_adornments}
use Rattle.protocol_names.proofs.references.reference_fault.Goals as goal

pub returns-in_default : goal.returns-in_default
returns-in_default c = no_such_protocol c.args.table.now.protocols.now c.args.r.now (sym (rw c.as_slice.ensures at c.protocol.ensures) ∙ ap option_copied c.in_default.is)

pub returns-then-not-is_same_arity : goal.returns-then-not-is_same_arity
returns-then-not-is_same_arity c = not_the_arity c.args.table.now.protocols.now c.args.r.now c.in-Some.q.now (sym (rw c.as_slice.ensures at c.protocol.ensures) ∙ ap option_copied c.in-Some.is) (λ same. true≢false (sym (c.is_same_arity.ensures.1 same) ∙ c.if-not-is_same_arity.true))

pub returns : goal.returns
returns c = by_adornments c.args.table.now.protocols.now c.args.r.now c.in-Some.q.now c.other_adornment.result (sym (rw c.as_slice.ensures at c.protocol.ensures) ∙ ap option_copied c.in-Some.is) (c.is_same_arity.ensures.0 c.if-not-is_same_arity.false) (rw (c.as_slice-2.ensures, c.as_slice-3.ensures) at c.other_adornment.ensures)
