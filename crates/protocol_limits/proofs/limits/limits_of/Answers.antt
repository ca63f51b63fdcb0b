-- Each limit has its count.
use Rattle.std.proofs.Common.{◌≡◌, ℕ, ◌+◌, length, sym, ap, subst, ◌∙◌}
use Rattle.bspl_types.specs.Limits.{carried_limit, depth_limit, key_limit, message_limit, param_limit, protocol_limit, role_limit}
use Rattle.bspl_types.specs.declared.refusals.What.TheVariants.{Carried, Depth, Keys, Messages, Parameters, Protocols, Roles}
use Rattle.std.specs.Option.{option_map_or}
use Rattle.reference_graph.specs.PathCounts.{saturated}
use Rattle.protocol_limits.specs.Counts.{depth, key_count, message_count, param_count, private_count, role_count}
use Rattle.protocol_limits.specs.Limits.{carried_count, limit, saturated_limit}
use Rattle.protocol_limits.proofs.LimitLemmas.{keys_at, limit_is, params_at, params_stopped, roles_at, stopped_again}
use Rattle.protocol_limits.proofs.limits.limits_of.Goals as goal

pub returns : goal.returns
returns c =
    let protocols = c.args.document.now.protocols in
    let top = c.args.document.now.top in
    let p = c.args.top.now in
    let privates : c.at_top-privates.result ≡ saturated (private_count protocols top) = c.at_top-privates.ensures (private_count protocols) (rw c.as_slice.ensures c.requires.totals.privates) in
    let messages : c.at_top-messages.result ≡ saturated (message_count protocols top) = c.at_top-messages.ensures (message_count protocols) (rw c.as_slice-2.ensures c.requires.totals.messages) in
    let sum = c.saturating_add-params.ensures ∙ ap (λ n. saturated (c.at_top-privates.result + n)) c.len.ensures in
    let one : c.limit.result ≡ saturated_limit (limit Protocols (length protocols) protocol_limit) = subst (λ d. c.limit.result ≡ saturated_limit (limit Protocols (length d.protocols) protocol_limit)) c.document.view_is c.limit.ensures in
    let two : c.limit-2.result ≡ saturated_limit (limit Depth (depth protocols top) depth_limit) = limit_is Depth (depth protocols top) _ depth_limit _ c.limit-2.ensures (ap saturated c.requires.totals.depth) in
    let three : c.limit-3.result ≡ saturated_limit (limit Roles (role_count protocols top) role_limit) = limit_is Roles (role_count protocols top) _ role_limit _ c.limit-3.ensures (ap saturated (c.len-2.ensures ∙ sym (roles_at protocols top p c.requires.top))) in
    let four : c.limit-4.result ≡ saturated_limit (limit Parameters (param_count protocols top) param_limit) = limit_is Parameters (param_count protocols top) _ param_limit _ c.limit-4.ensures (ap saturated sum ∙ params_stopped (length p.public) (private_count protocols top) c.at_top-privates.result (param_count protocols top) privates (params_at protocols top p c.requires.top)) in
    let five : c.limit-5.result ≡ saturated_limit (limit Keys (key_count protocols top) key_limit) = limit_is Keys (key_count protocols top) _ key_limit _ c.limit-5.ensures (ap saturated (c.key_count.ensures ∙ sym (keys_at protocols top p c.requires.top))) in
    let six : c.limit-6.result ≡ saturated_limit (limit Carried (carried_count protocols top) carried_limit) = limit_is Carried (carried_count protocols top) _ carried_limit _ c.limit-6.ensures (ap saturated (c.or_zero.ensures ∙ ap (λ o. option_map_or (λ (n : ℕ). n) o 0) c.requires.oversized)) in
    let seven : c.limit-7.result ≡ saturated_limit (limit Messages (message_count protocols top) message_limit) = limit_is Messages (message_count protocols top) _ message_limit _ c.limit-7.ensures (stopped_again (message_count protocols top) c.at_top-messages.result messages) in
    cc
