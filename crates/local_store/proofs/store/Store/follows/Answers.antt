-- The values that agree are those of the event's instance.
use Rattle.std.proofs.Common.{subst}
use Rattle.bspl_types.specs.declared.event.Event.{Event}
use Rattle.bspl_types.specs.History.{instance_of}
use Rattle.local_store.specs.Reception.{AllAgree}
use Rattle.local_store.specs.State.{acts_of}
use Rattle.local_store.proofs.store.Store.follows.Goals as goal

pub emission_follows-requires-clause-agree : goal.emission_follows-requires-clause-agree
emission_follows-requires-clause-agree c = subst (λ (ev : Event). AllAgree c.args.self.now.protocol (acts_of c.args.self.now) (instance_of ev)) c.in-Emit.is c.requires.agree

pub receipt_follows-requires-clause-agree : goal.receipt_follows-requires-clause-agree
receipt_follows-requires-clause-agree c = subst (λ (ev : Event). AllAgree c.args.self.now.protocol (acts_of c.args.self.now) (instance_of ev)) c.in-Receive.is c.requires.agree
