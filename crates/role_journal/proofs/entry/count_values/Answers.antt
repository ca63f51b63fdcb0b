-- A message that exists has at most sixteen values.
use Rattle.std.proofs.Common.{◌≡◌, ◌<◌, ◌∙◌, List, length, ap, arith}
use Rattle.bspl_types.specs.declared.expanded.Expanded.{Expanded}
use Rattle.bspl_types.specs.declared.protocol.Carried.{Carried}
use Rattle.bspl_types.specs.declared.protocol.Message.{Message}
use Rattle.bspl_types.specs.Adornment.{valued}
use Rattle.bspl_types.specs.Expansion.{message_of}
use Rattle.role_journal.proofs.InstanceLemmas.{few_valued}
use Rattle.role_journal.proofs.entry.count_values.Goals as goal

pub returns : goal.returns
returns c =
    let x = c.args.a.now in
    let m = c.args.message in
    let same = c.expanded-x.ensures.same in
    let known : m < length x.messages = omega (arith, c.if-message-len.false, c.len.ensures, ap (λ (y : Expanded). length y.messages) same) in
    let carried : c.as_slice.result.now ≡ (message_of x m).carried = c.as_slice.ensures ∙ ap (λ (n : Message). n.carried) (c.message_at.ensures ∙ ap (λ (y : Expanded). message_of y m) same) in
    let count : c.count_valued.result ≡ length (valued (message_of x m).carried) = c.count_valued.ensures ∙ ap (λ (cs : List Carried). length (valued cs)) carried in
    record { known = known; count_is = count; few = omega (arith, count, few_valued x m known) }
