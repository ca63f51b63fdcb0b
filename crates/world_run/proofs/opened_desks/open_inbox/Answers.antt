-- There is room, since keys and messages are few.
use Rattle.std.proofs.Common.{◌≡◌, ◌≤◌, ◌*◌, List, arith, ap, length, ◌∙◌}
use Rattle.std.specs.Prelude.{◌==◌}
use Rattle.agent_scripts.specs.Job.{Job}
use Rattle.bspl_types.specs.declared.protocol.Message.{Message}
use Rattle.world_run.specs.inner.Opened.{incoming}
use Rattle.world_run.proofs.OpenLemmas.{few_passing, keys_of_script, messages_of_job, product_small}
use Rattle.world_run.proofs.opened_desks.open_inbox.Goals as goal

pub overflow_mul-count : goal.overflow_mul-count
overflow_mul-count c =
    let job : Job = c.args.job.now in
    let keys : c.count.result ≡ length job.script.keys = keys_of_script job c.script.result.now c.count.result c.count.ensures.count c.script.ensures.same in
    let few : c.count.result ≤ 10000 = omega (arith, c.count.ensures.count, c.count.ensures.fits.few) in
    let messages : c.as_slice-messages.result.now ≡ job.protocol.messages = messages_of_job job c.admitted.result.now c.expanded.result.now c.as_slice-messages.result.now c.as_slice-messages.ensures c.expanded.ensures.same c.admitted.ensures in
    let count : c.count_incoming.result ≡ length (incoming job.protocol.messages c.args.role) = c.count_incoming.ensures ∙ ap (λ (ms : List Message). length (incoming ms c.args.role)) messages in
    let few_in : c.count_incoming.result ≤ 64 = omega (arith, count, few_passing job (λ m. m.receiver == c.args.role)) in
    let small = product_small c.count.result c.count_incoming.result few few_in in
    omega (arith, small)

pub returns-clause-room : goal.returns-clause-room
returns-clause-room c =
    let job : Job = c.args.job.now in
    let keys : c.count.result ≡ length job.script.keys = keys_of_script job c.script.result.now c.count.result c.count.ensures.count c.script.ensures.same in
    let few : c.count.result ≤ 10000 = omega (arith, c.count.ensures.count, c.count.ensures.fits.few) in
    let messages : c.as_slice-messages.result.now ≡ job.protocol.messages = messages_of_job job c.admitted.result.now c.expanded.result.now c.as_slice-messages.result.now c.as_slice-messages.ensures c.expanded.ensures.same c.admitted.ensures in
    let count : c.count_incoming.result ≡ length (incoming job.protocol.messages c.args.role) = c.count_incoming.ensures ∙ ap (λ (ms : List Message). length (incoming ms c.args.role)) messages in
    let few_in : c.count_incoming.result ≤ 64 = omega (arith, count, few_passing job (λ m. m.receiver == c.args.role)) in
    let small = product_small c.count.result c.count_incoming.result few few_in in
    omega (arith, c.in_ok-reserve.ensures.ok, ap (λ n. n * c.count_incoming.result) keys ∙ ap (λ n. length job.script.keys * n) count)

pub returns-clause-empty : goal.returns-clause-empty
returns-clause-empty c = c.reserve.ensures.same ∙ c.new-inbox.ensures
