-- A message of the role may be sent exactly if its parameters are permitted.
use Rattle.std.proofs.Common.{◌≡◌, ◌∙◌, List, IsTrue, ap, subst, sym}
use Rattle.std.specs.Prelude.{◌↔◌}
use Rattle.std.specs.List.{All}
use Rattle.bspl_types.specs.declared.expanded.Expanded.{Expanded}
use Rattle.bspl_types.specs.declared.protocol.Carried.{Carried}
use Rattle.bspl_types.specs.declared.protocol.Message.{Message}
use Rattle.bspl_types.specs.Expansion.{message_of}
use Rattle.local_store.specs.State.{acts_of}
use Rattle.role_knowledge.specs.Blocked.{IsPermitted}
use Rattle.role_questions.proofs.EnabledLemmas.{can_exactly}
use Rattle.role_questions.proofs.permission.may_send.Goals as goal

pub returns-then-schema-role : goal.returns-then-schema-role
returns-then-schema-role c =
    let s = c.args.store.now in
    let m = c.args.message in
    let same : c.message_at-schema.result.now ≡ message_of s.protocol m = c.message_at-schema.ensures ∙ ap (λ (x : Expanded). message_of x m) (c.expanded.ensures.same ∙ c.admitted.ensures) in
    let carried_is : c.as_slice.result.now ≡ (message_of s.protocol m).carried = c.as_slice.ensures ∙ ap (λ (k : Message). k.carried) same in
    let permitted = subst (λ (list : List Carried). IsTrue c.are_permitted.result ↔ All (IsPermitted s.protocol (acts_of s) c.args.key.now) list) carried_is c.are_permitted.ensures in
    let exactly = can_exactly s.protocol (acts_of s) m c.args.key.now c.requires in (
      λ yes. record {
        own = sym (ap (λ (k : Message). k.sender) same) ∙ c.if-schema-role.true ∙ c.role.ensures;
        can = exactly.0 (permitted.0 yes);
      },
      λ may. permitted.1 (exactly.1 may.can),
    )
