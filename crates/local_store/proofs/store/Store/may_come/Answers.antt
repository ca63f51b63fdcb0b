-- The history stays local exactly if the entry is the role's, agrees and follows.
use Rattle.std.proofs.Common.{◌≡◌, ◌∙◌, ap, sym, subst}
use Rattle.std.proofs.lemmas.Bool.{false≢true}
use Rattle.bspl_types.specs.declared.event.Instance.{Instance}
use Rattle.bspl_types.specs.declared.expanded.Expanded.{Expanded}
use Rattle.bspl_types.specs.History.{instance_of, role_of}
use Rattle.local_store.specs.Reception.{AllAgree}
use Rattle.local_store.specs.State.{acts_of}
use Rattle.local_store.proofs.LocalLemmas.{local_last, local_more}
use Rattle.local_store.proofs.NextLemmas.{named_differs}
use Rattle.local_store.proofs.store.Store.may_come.Goals as goal

pub returns-then-role : goal.returns-then-role
returns-then-role c =
    let s = c.args.self.now in
    let e = c.args.entry.now in
    let role : c.role-role.result ≡ role_of s.protocol e.event = c.role-role.ensures ∙ ap (λ (y : Expanded). role_of y e.event) (c.expanded.ensures.same ∙ c.admitted.ensures) in (
      λ no. absurd (false≢true no),
      λ local. absurd (c.if-role.true (role ∙ (local_last s.protocol s.role s.entries e local).own ∙ sym c.role.ensures)),
    )

pub returns-in-Some : goal.returns-in-Some
returns-in-Some c =
    let s = c.args.self.now in
    let e = c.args.entry.now in (
      λ no. absurd (false≢true no),
      λ local. absurd (named_differs s c.instance-instance.result.now c.in-Some.field-0 c.in-Some.ensures
          (subst (λ (i : Instance). AllAgree s.protocol (acts_of s) i) (sym c.instance-instance.ensures) (local_last s.protocol s.role s.entries e local).agree)),
    )

pub follows-requires-clause-agree : goal.follows-requires-clause-agree
follows-requires-clause-agree c = subst (λ (i : Instance). AllAgree c.args.self.now.protocol (acts_of c.args.self.now) i) c.instance-instance.ensures c.in_default.ensures

pub returns : goal.returns
returns c =
    let s = c.args.self.now in
    let e = c.args.entry.now in
    let sound = c.held_row-row.ensures.sound in
    let role : c.role-role.result ≡ role_of s.protocol e.event = c.role-role.ensures ∙ ap (λ (y : Expanded). role_of y e.event) (c.expanded.ensures.same ∙ c.admitted.ensures) in
    let own : role_of s.protocol e.event ≡ s.role = sym role ∙ c.if-role.false ∙ c.role.ensures in
    let agree : AllAgree s.protocol (acts_of s) (instance_of e.event) = subst (λ (i : Instance). AllAgree s.protocol (acts_of s) i) c.instance-instance.ensures c.in_default.ensures in (
      λ yes. local_more c.answers_once.ensures.values s.protocol s.role s.entries e sound.admitted sound.local c.requires.fits own (c.follows.ensures.0 yes) agree,
      λ local. c.follows.ensures.1 (local_last s.protocol s.role s.entries e local).follows,
    )
