-- The test of both at once is the test of those that have a value.
use Rattle.std.proofs.Common.{sym, ◌∙◌, ap}
use Rattle.std.specs.Prelude.{◌==◌, ◌&&◌}
use Rattle.std.specs.List.{list_any}
use Rattle.bspl_types.specs.Adornment.{has_value}
use Rattle.clause_encoding.proofs.FilterLemmas.{any_filtered}
use Rattle.clause_encoding.proofs.parameters.binds.Goals as goal

pub returns : goal.returns
returns c =
    let p = c.args.param in
    c.has_value_for.ensures ∙ ap (list_any (λ b. has_value b.adornment && b.param == p)) c.as_slice.ensures ∙ sym (any_filtered (λ b. has_value b.adornment) (λ b. b.param == p) c.args.message.now.carried)
