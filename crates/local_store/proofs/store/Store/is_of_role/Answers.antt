-- The role is the sender or the receiver of the message that was read.
use Rattle.std.proofs.Common.{◌≡◌, refl, sym, ap, subst, ◌∙◌, Some}
use Rattle.std.specs.Prelude.{◌↔◌, IsTrue, nat_eq, slice_get}
use Rattle.std.proofs.lemmas.Option.{slice_get_within}
use Rattle.local_store.specs.declared.act.Kind.TheVariants.{Emitted, Received}
use Rattle.local_store.specs.inner.Kept.{IsOfRole, rows_of}
use Rattle.local_store.proofs.RoleLemmas.{of_role}
use Rattle.local_store.proofs.SoundLemmas.{sound}
use Rattle.local_store.proofs.store.Store.is_of_role.Goals as goal

pub returns-then-message-len-clause-sound : goal.returns-then-message-len-clause-sound
returns-then-message-len-clause-sound c =
    let s = c.self.inside in
    sound s.admitted s.role s.clock (rows_of s.admitted s.keys s.cells.items s.marks.items) s.log c.args.self.now c.self.invariant.0 c.self.view_is

pub returns-in-Emitted-clause-sound : goal.returns-in-Emitted-clause-sound
returns-in-Emitted-clause-sound c =
    let s = c.self.inside in
    sound s.admitted s.role s.clock (rows_of s.admitted s.keys s.cells.items s.marks.items) s.log c.args.self.now c.self.invariant.0 c.self.view_is

pub returns-in-Received-clause-sound : goal.returns-in-Received-clause-sound
returns-in-Received-clause-sound c =
    let s = c.self.inside in
    sound s.admitted s.role s.clock (rows_of s.admitted s.keys s.cells.items s.marks.items) s.log c.args.self.now c.self.invariant.0 c.self.view_is

pub returns-in-Emitted-clause-exact : goal.returns-in-Emitted-clause-exact
returns-in-Emitted-clause-exact c =
    let t = c.args.self.now in
    let same = c.expanded.ensures.same ∙ ap (λ u. u.protocol) c.self.view_is in
    let at = subst (λ x. slice_get x.messages c.args.message ≡ Some c.at-schema.result.now) same c.at-schema.ensures in
    subst (λ kind. IsTrue (nat_eq c.at-schema.result.now.sender c.self.inside.role) ↔ IsOfRole t.protocol t.role kind c.args.message) (sym c.in-Emitted.is)
    (of_role t Emitted c.args.message c.at-schema.result.now c.at-schema.result.now.sender c.self.inside.role (slice_get_within t.protocol.messages c.args.message c.at-schema.result.now at) (ap (λ u. u.role) c.self.view_is) refl at)

pub returns-in-Received-clause-exact : goal.returns-in-Received-clause-exact
returns-in-Received-clause-exact c =
    let t = c.args.self.now in
    let same = c.expanded.ensures.same ∙ ap (λ u. u.protocol) c.self.view_is in
    let at = subst (λ x. slice_get x.messages c.args.message ≡ Some c.at-schema.result.now) same c.at-schema.ensures in
    subst (λ kind. IsTrue (nat_eq c.at-schema.result.now.receiver c.self.inside.role) ↔ IsOfRole t.protocol t.role kind c.args.message) (sym c.in-Received.is)
    (of_role t Received c.args.message c.at-schema.result.now c.at-schema.result.now.receiver c.self.inside.role (slice_get_within t.protocol.messages c.args.message c.at-schema.result.now at) (ap (λ u. u.role) c.self.view_is) refl at)
