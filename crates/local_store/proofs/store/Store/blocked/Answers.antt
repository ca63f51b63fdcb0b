-- What blocks is answered.
use Rattle.std.proofs.Common.{subst, sym}
use Rattle.std.proofs.lemmas.Bool.{false≢true, true≢false}
use Rattle.bspl_types.specs.Expansion.{message_of}
use Rattle.bspl_types.specs.Knowledge.{CanEmit}
use Rattle.role_knowledge.specs.Blocked.{IsFirstBlock}
use Rattle.local_store.specs.State.{acts_of}
use Rattle.local_store.proofs.store.Store.blocked.Goals as goal

pub returns-in-Some-clause-exact : goal.returns-in-Some-clause-exact
returns-in-Some-clause-exact c = (
  λ ok. absurd (false≢true ok),
  λ can. absurd (true≢false (c.in-Some.ensures.exact.1 (subst (λ key. CanEmit c.args.self.now.protocol (acts_of c.args.self.now) c.args.message key) (sym c.held_row.ensures.key) can))),
)

pub returns-in-Some-clause-blocked : goal.returns-in-Some-clause-blocked
returns-in-Some-clause-blocked c =
    subst (λ key. IsFirstBlock c.args.self.now.protocol (acts_of c.args.self.now) key (message_of c.args.self.now.protocol c.args.message).carried c.in-Some.block) c.held_row.ensures.key c.in-Some.ensures.blocked
