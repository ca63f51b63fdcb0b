-- The last literal that is left is set, unless it is false.
use Rattle.std.proofs.Common.{◌≡◌, None, sym, ◌∙◌}
use Rattle.std.proofs.lemmas.Bool.{false≢true}
use Rattle.sat_trail.specs.Entry.{values_of}
use Rattle.sat_trail.proofs.ForceLemmas.{value-none, Extends-last, IsTrueBy-last}
use Rattle.sat_trail.proofs.propagation.force.Goals as goal

pub push-requires-clause-no_value : goal.push-requires-clause-no_value
push-requires-clause-no_value c = rw c.lit.ensures
    (value-none _ c.args.lit.positive c.requires.untrue (λ fails. false≢true (sym c.if-is_false.false ∙ c.is_false.ensures.1 fails)))

pub returns-clause-extends : goal.returns-clause-extends
returns-clause-extends c =
    let none : values_of c.args.set.now.entries c.args.lit.var ≡ None = value-none _ c.args.lit.positive c.requires.untrue (λ fails. false≢true (sym c.if-is_false.false ∙ c.is_false.ensures.1 fails)) in
    Extends-last _ _ c.args.number _ c.args.set.now _ c.requires.left none c.requires.fits (rw c.lit.ensures at c.push.ensures)

pub returns-clause-sets : goal.returns-clause-sets
returns-clause-sets c = IsTrueBy-last _ c.args.number _ c.args.set.now _ (rw c.lit.ensures at c.push.ensures)
