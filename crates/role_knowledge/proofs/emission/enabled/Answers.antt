-- The message can be emitted exactly if its parameters are permitted, and what blocks it is theirs.
use Rattle.std.proofs.Common.{ℕ, subst}
use Rattle.std.specs.Prelude.{◌↔◌, IsOk}
use Rattle.std.specs.List.{All}
use Rattle.bspl_types.specs.Expansion.{message_of}
use Rattle.bspl_types.specs.History.{history_of}
use Rattle.role_knowledge.specs.Blocked.{IsPermitted}
use Rattle.role_knowledge.proofs.EmissionLemmas.{emits_exactly}
use Rattle.role_knowledge.proofs.emission.enabled.Goals as goal

pub returns-clause-exact : goal.returns-clause-exact
returns-clause-exact c =
    let x = c.args.x.now in
    let m = c.args.message in
    let Permitted = λ (sender : ℕ). IsPermitted x (history_of x sender c.args.events.now) c.args.key.now in
    let exact = subst (λ schema. IsOk c.check_all.result ↔ All (Permitted schema.sender) schema.carried) c.message_at-schema.ensures
    (subst (λ carried. IsOk c.check_all.result ↔ All (Permitted c.message_at-schema.result.now.sender) carried) c.as_slice.ensures c.check_all.ensures.exact) in
    let emits = emits_exactly x (history_of x (message_of x m).sender c.args.events.now) m c.args.key.now c.requires.known in
    (λ ok. emits.0 (exact.0 ok), λ can. exact.1 (emits.1 can))
