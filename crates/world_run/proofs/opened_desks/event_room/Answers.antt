-- The product is small, since keys and messages are few.
use Rattle.std.proofs.Common.{◌≡◌, ◌≤◌, ◌*◌, ◌+◌, List, arith, ap, length, ◌∙◌}
use Rattle.std.specs.Prelude.{◌==◌, ◌||◌}
use Rattle.agent_scripts.specs.Job.{Job}
use Rattle.bspl_types.specs.declared.protocol.Message.{Message}
use Rattle.world_run.specs.inner.Opened.{own}
use Rattle.world_run.proofs.OpenLemmas.{few_passing, keys_of_script, messages_of_job, product_small}
use Rattle.world_run.proofs.opened_desks.event_room.Goals as goal

pub overflow_cast-result-2 : goal.overflow_cast-result-2
overflow_cast-result-2 c =
    let job : Job = c.args.job.now in
    let keys : c.count.result ≡ length job.script.keys = keys_of_script job c.script.result.now c.count.result c.count.ensures.count c.script.ensures.same in
    let few : c.count.result ≤ 10000 = omega (arith, c.count.ensures.count, c.count.ensures.fits.few) in
    let messages : c.as_slice-messages.result.now ≡ job.protocol.messages = messages_of_job job c.admitted.result.now c.expanded.result.now c.as_slice-messages.result.now c.as_slice-messages.ensures c.expanded.ensures.same c.admitted.ensures in
    let count : c.count_own.result ≡ length (own job.protocol.messages c.args.role) = c.count_own.ensures ∙ ap (λ (ms : List Message). length (own ms c.args.role)) messages in
    let few_own : c.count_own.result ≤ 64 = omega (arith, count, few_passing job (λ m. m.sender == c.args.role || m.receiver == c.args.role)) in
    let small = product_small c.count.result c.count_own.result few few_own in
    omega (arith, few_own)

pub overflow_mul-result : goal.overflow_mul-result
overflow_mul-result c =
    let job : Job = c.args.job.now in
    let keys : c.count.result ≡ length job.script.keys = keys_of_script job c.script.result.now c.count.result c.count.ensures.count c.script.ensures.same in
    let few : c.count.result ≤ 10000 = omega (arith, c.count.ensures.count, c.count.ensures.fits.few) in
    let messages : c.as_slice-messages.result.now ≡ job.protocol.messages = messages_of_job job c.admitted.result.now c.expanded.result.now c.as_slice-messages.result.now c.as_slice-messages.ensures c.expanded.ensures.same c.admitted.ensures in
    let count : c.count_own.result ≡ length (own job.protocol.messages c.args.role) = c.count_own.ensures ∙ ap (λ (ms : List Message). length (own ms c.args.role)) messages in
    let few_own : c.count_own.result ≤ 64 = omega (arith, count, few_passing job (λ m. m.sender == c.args.role || m.receiver == c.args.role)) in
    let small = product_small c.count.result c.count_own.result few few_own in
    omega (arith, small)

pub overflow_add-result : goal.overflow_add-result
overflow_add-result c =
    let job : Job = c.args.job.now in
    let keys : c.count.result ≡ length job.script.keys = keys_of_script job c.script.result.now c.count.result c.count.ensures.count c.script.ensures.same in
    let few : c.count.result ≤ 10000 = omega (arith, c.count.ensures.count, c.count.ensures.fits.few) in
    let messages : c.as_slice-messages.result.now ≡ job.protocol.messages = messages_of_job job c.admitted.result.now c.expanded.result.now c.as_slice-messages.result.now c.as_slice-messages.ensures c.expanded.ensures.same c.admitted.ensures in
    let count : c.count_own.result ≡ length (own job.protocol.messages c.args.role) = c.count_own.ensures ∙ ap (λ (ms : List Message). length (own ms c.args.role)) messages in
    let few_own : c.count_own.result ≤ 64 = omega (arith, count, few_passing job (λ m. m.sender == c.args.role || m.receiver == c.args.role)) in
    let small = product_small c.count.result c.count_own.result few few_own in
    omega (arith, small)

pub returns-clause-few : goal.returns-clause-few
returns-clause-few c =
    let job : Job = c.args.job.now in
    let keys : c.count.result ≡ length job.script.keys = keys_of_script job c.script.result.now c.count.result c.count.ensures.count c.script.ensures.same in
    let few : c.count.result ≤ 10000 = omega (arith, c.count.ensures.count, c.count.ensures.fits.few) in
    let messages : c.as_slice-messages.result.now ≡ job.protocol.messages = messages_of_job job c.admitted.result.now c.expanded.result.now c.as_slice-messages.result.now c.as_slice-messages.ensures c.expanded.ensures.same c.admitted.ensures in
    let count : c.count_own.result ≡ length (own job.protocol.messages c.args.role) = c.count_own.ensures ∙ ap (λ (ms : List Message). length (own ms c.args.role)) messages in
    let few_own : c.count_own.result ≤ 64 = omega (arith, count, few_passing job (λ m. m.sender == c.args.role || m.receiver == c.args.role)) in
    let small = product_small c.count.result c.count_own.result few few_own in
    omega (arith, small)

pub returns-clause-count : goal.returns-clause-count
returns-clause-count c =
    let job : Job = c.args.job.now in
    let keys : c.count.result ≡ length job.script.keys = keys_of_script job c.script.result.now c.count.result c.count.ensures.count c.script.ensures.same in
    let few : c.count.result ≤ 10000 = omega (arith, c.count.ensures.count, c.count.ensures.fits.few) in
    let messages : c.as_slice-messages.result.now ≡ job.protocol.messages = messages_of_job job c.admitted.result.now c.expanded.result.now c.as_slice-messages.result.now c.as_slice-messages.ensures c.expanded.ensures.same c.admitted.ensures in
    let count : c.count_own.result ≡ length (own job.protocol.messages c.args.role) = c.count_own.ensures ∙ ap (λ (ms : List Message). length (own ms c.args.role)) messages in
    let few_own : c.count_own.result ≤ 64 = omega (arith, count, few_passing job (λ m. m.sender == c.args.role || m.receiver == c.args.role)) in
    let small = product_small c.count.result c.count_own.result few few_own in
    ap (λ n. n * c.count_own.result + 1) keys ∙ ap (λ n. length job.script.keys * n + 1) count
