-- Under a key that is not held nothing is known, nor of a parameter that does not exist.
use Rattle.std.proofs.Common.{◌≤◌, [], length, ap, subst, ◌∙◌}
use Rattle.std.proofs.lemmas.Option.{get_or_from_slice_get, slice_get_within}
use Rattle.local_store.specs.State.{acts_of}
use Rattle.local_store.proofs.KnownLemmas.{Reads}
use Rattle.local_store.proofs.RoleLemmas.{nothing_known, unknown_past}
use Rattle.local_store.proofs.store.Store.value.Goals as goal

pub returns-in_default : goal.returns-in_default
returns-in_default c = nothing_known c.args.self.now c.args.key.now c.args.param c.in_default.ensures.sound c.in_default.ensures.found

pub returns-then-param-width : goal.returns-then-param-width
returns-then-param-width c =
    unknown_past c.args.self.now c.args.key.now c.args.param (subst (λ n. n ≤ c.args.param) (c.width.ensures.width ∙ c.self.invariant.1.params ∙ ap (λ t. length t.protocol.params) c.self.view_is) c.if-param-width.true)

pub known_at-requires-clause-row : goal.known_at-requires-clause-row
known_at-requires-clause-row c = slice_get_within c.args.self.now.keys c.in-Some.row c.args.key.now c.in-Some.ensures.found

pub returns : goal.returns
returns c =
    subst (λ key. Reads c.args.self.now.protocol (acts_of c.args.self.now) key c.args.param c.known_at.result)
    (get_or_from_slice_get c.args.self.now.keys c.in-Some.row c.args.key.now [] c.in-Some.ensures.found) c.known_at.ensures
