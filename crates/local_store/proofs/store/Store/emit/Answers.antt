-- What blocks is answered, and what can be emitted is enabled and agrees with what is known.
use Rattle.std.proofs.Common.{ℕ, Some, refl, subst, sym, ap, ◌∙◌}
use Rattle.std.proofs.lemmas.Bool.{false≢true, true≢false}
use Rattle.bspl_types.specs.Expansion.{message_of}
use Rattle.bspl_types.specs.Knowledge.{CanEmit}
use Rattle.role_knowledge.specs.Blocked.{IsFirstBlock}
use Rattle.local_store.specs.State.{acts_of}
use Rattle.local_store.proofs.EmissionLemmas.{emission_agrees, emission_follows}
use Rattle.local_store.proofs.store.Store.emit.Goals as goal

pub returns-in-Some-clause-exact : goal.returns-in-Some-clause-exact
returns-in-Some-clause-exact c = (
  λ ok. absurd (false≢true ok),
  λ can. absurd (true≢false (c.in-Some.ensures.exact.1 (subst (λ key. CanEmit c.args.self.now.protocol (acts_of c.args.self.now) c.args.message key) (sym c.held_row-row.ensures.key) can))),
)

pub returns-in-Some-clause-blocked : goal.returns-in-Some-clause-blocked
returns-in-Some-clause-blocked c =
    subst (λ key. IsFirstBlock c.args.self.now.protocol (acts_of c.args.self.now) key (message_of c.args.self.now.protocol c.args.message).carried c.in-Some.block) c.held_row-row.ensures.key c.in-Some.ensures.blocked

pub emission-m-requires-clause-can : goal.emission-m-requires-clause-can
emission-m-requires-clause-can c = subst (λ key. CanEmit c.args.self.now.protocol (acts_of c.args.self.now) c.args.message key) c.held_row-row.ensures.key (c.in_default.ensures.exact.0 refl)

pub append-requires : goal.append-requires
append-requires c =
    let s = c.args.self.now in
    let m = c.emission-m.result in
    let can = subst (λ key. CanEmit s.protocol (acts_of s) c.args.message key) c.held_row-row.ensures.key (c.in_default.ensures.exact.0 refl) in
    record {
      key_is = c.held_row-row.ensures.row ∙ ap Some (sym c.emission-m.ensures.key_is);
      fits = c.emission-m.ensures.fits;
      own = ap (λ (n : ℕ). (message_of s.protocol n).sender) c.emission-m.ensures.message_is ∙ c.requires.own;
      follows = emission_follows s c.args.message c.args.key.now c.args.outs.now m can c.emission-m.ensures;
      agree = emission_agrees s c.args.message c.args.key.now c.args.outs.now m c.held_row-row.ensures.sound can c.emission-m.ensures;
      spare = c.requires.spare;
    }

pub returns-clause-exact : goal.returns-clause-exact
returns-clause-exact c = (
  λ _. subst (λ key. CanEmit c.args.self.now.protocol (acts_of c.args.self.now) c.args.message key) c.held_row-row.ensures.key (c.in_default.ensures.exact.0 refl),
  λ _. refl,
)
