-- An event of a message that is the role's is what is asked for.
use Rattle.std.proofs.Common.{refl, sym, ◌∙◌}
use Rattle.std.proofs.lemmas.Bool.{true≢false}
use Rattle.local_store.proofs.RoleLemmas.{received_if, received_of}
use Rattle.local_store.proofs.store.Store.received.Goals as goal

pub returns-then-is_of_role : goal.returns-then-is_of_role
returns-then-is_of_role c =
    let s = c.args.self.now in
    let same = received_if s c.args.key.now c.args.message c.if-is_of_role.ensures.sound (c.if-is_of_role.ensures.exact.0 refl) in
    (λ yes. same.0 (c.happened.ensures.0 yes), λ is. c.happened.ensures.1 (same.1 is))

pub returns-else-is_of_role : goal.returns-else-is_of_role
returns-else-is_of_role c =
    let s = c.args.self.now in
    (λ yes. absurd (true≢false (sym yes ∙ c.if-is_of_role.false)), λ is. c.is_of_role.ensures.exact.1 (received_of s c.args.key.now c.args.message c.is_of_role.ensures.sound is))
