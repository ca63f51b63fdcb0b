-- What is counted of a plain protocol is within the limits if it has an expansion.
use Rattle.std.proofs.Common.{◌≡◌, ℕ, ◌+◌, ◌≤◌, false, cond, List, [], ◌∷◌, ◌++◌, length, map, Some, None, refl, ◌∙◌, ap, arith, length-append}
use Rattle.std.specs.Prelude.{nat_lt}
use Rattle.std.specs.List.{All, AllZip, enumerate_from, find, flat_map}
use Rattle.std.specs.Option.{option_map, option_map_or}
use Rattle.std.proofs.lemmas.Bool.Decides.{nat_tests}
use Rattle.std.proofs.lemmas.List.{length-map}
use Rattle.std.proofs.lemmas.List.Elements.{All-head, All-tail}
use Rattle.list_base.proofs.Mapped.{as_long}
use Rattle.bspl_types.specs.Limits.{carried_limit, depth_limit, key_limit, message_limit, param_limit, protocol_limit, role_limit}
use Rattle.bspl_types.specs.declared.expanded.Expanded.{Expanded}
use Rattle.bspl_types.specs.declared.protocol.Message.{Message}
use Rattle.bspl_types.specs.declared.protocol.ParamInfo.{ParamInfo}
use Rattle.bspl_types.specs.declared.refusals.What.TheVariants.{Carried, Depth, Keys, Messages, Parameters, Protocols, Roles}
use Rattle.bspl_parser.specs.declared.document.Declaration.{Declaration}
use Rattle.bspl_parser.specs.declared.document.Item.{Item}
use Rattle.bspl_parser.specs.declared.document.Item.TheVariants as item
use Rattle.bspl_parser.specs.declared.document.Schema.{Schema}
use Rattle.bspl_parser.specs.declared.word.Word.{Word}
use Rattle.protocol_names.specs.Names.{key_words, message_words}
use Rattle.protocol_paths.specs.Laws.{PathsByItems}
use Rattle.protocol_paths.specs.Path.{Step, item_messages}
use Rattle.reference_graph.specs.Laws.{WeightsAddUp}
use Rattle.protocol_limits.specs.declared.limit.Limit.{Limit}
use Rattle.protocol_limits.specs.Counts.{depth, first_oversized, is_oversized, key_count, message_count, param_count, role_count}
use Rattle.protocol_limits.specs.Laws.{ReferencesAreAGraph}
use Rattle.protocol_limits.specs.Limits.{AreWithinLimits, carried_count, is_over, limit}
use Rattle.protocol_expand.specs.FlatExpansion.{public_param, private_param, IsCarried, IsExpansionOf, IsMessageOfItem}
use Rattle.protocol_expand.specs.FlatLaws.{ExpansionsKeepNames}
use Rattle.protocol_expand.specs.Expansion.{IsPlain}
use Rattle.protocol_expand.proofs.Counted.{params_at, roles_at}
use Rattle.protocol_expand.proofs.PlainGraph.{depth_here, messages_here, privates_here}

-- its keys are its own
keys_here : (p : Declaration) → key_count (p ∷ []) 0 ≡ length (key_words p)
unfolding key_count
keys_here p = refl

-- a message that carries as many parameters as its schema is not oversized
not_oversized : (path : List Step) (s : Schema) → length s.params ≤ carried_limit → is_oversized (path, s) ≡ false
not_oversized path s few = grind (arith, nat_tests)

-- no message carries too many parameters
none_oversized : PathsByItems → (protocols : List Declaration) (n k : ℕ) (roles : List (List ℕ)) (params : List ParamInfo) (body : List Item) (ms : List Message) → AllZip (IsMessageOfItem roles params) body ms → All (λ m. length m.carried ≤ carried_limit) ms → find is_oversized (flat_map (item_messages n protocols) (enumerate_from k body)) ≡ None
none_oversized paths protocols n k roles params [] ms images few = refl
none_oversized paths protocols n k roles params (i ∷ body) [] images few = absurd images
none_oversized paths protocols n k roles params (item.Reference r ∷ body) (m ∷ ms) images few = absurd images.0
none_oversized paths protocols n k roles params (item.Message s ∷ body) (m ∷ ms) images few =
    let narrow : length s.params ≤ carried_limit = omega (arith, as_long (IsCarried params) s.params m.carried images.0.carries, All-head (λ (n : Message). length n.carried ≤ carried_limit) m ms few) in
    let rest = flat_map (item_messages n protocols) (enumerate_from (k + 1) body) in
    ap (λ (front : List (List Step × Schema)). find is_oversized (front ++ rest)) (paths.message n protocols k s)
    ∙ ap (λ b. cond b (Some ([], s)) (find is_oversized rest)) (not_oversized [] s narrow)
    ∙ none_oversized paths protocols n (k + 1) roles params body ms images.1 (All-tail (λ (n : Message). length n.carried ≤ carried_limit) m ms few)

-- so the first of those is not there
carried_here : PathsByItems → (p : Declaration) (x : Expanded) → IsExpansionOf p x → carried_count (p ∷ []) 0 ≡ 0
unfolding first_oversized
carried_here paths p x expands =
    ap (λ o. option_map_or (λ (n : ℕ). n) (option_map (λ ((path, m) : List Step × Schema). length m.params) o) 0)
    (none_oversized paths (p ∷ []) 1 1 x.roles x.params p.body x.messages expands.images (λ k e within. (x.shape.each_message k e within).few))

-- there are not too many roles
few_roles : (p : Declaration) (x : Expanded) → IsExpansionOf p x → role_count (p ∷ []) 0 ≤ role_limit
few_roles p x expands = omega (arith, roles_at (p ∷ []) 0 p refl, ap length expands.roles, length-map p.roles (λ (w : Word). w.text), x.shape.counts.few_roles)

-- nor parameters
few_params : ReferencesAreAGraph → WeightsAddUp → (p : Declaration) (x : Expanded) → IsPlain p → IsExpansionOf p x → param_count (p ∷ []) 0 ≤ param_limit
few_params graphs adds p x plain expands =
    omega (arith, params_at (p ∷ []) 0 p refl, privates_here graphs adds p plain, ap length expands.params, length-append (map public_param p.public) (map private_param p.private), length-map p.public public_param, length-map p.private private_param, x.shape.counts.few_params)

-- nor keys
few_keys : ExpansionsKeepNames → (p : Declaration) (x : Expanded) → IsExpansionOf p x → key_count (p ∷ []) 0 ≤ key_limit
few_keys keep p x expands = omega (arith, keys_here p, keep.keys p x expands, x.shape.counts.few_keys)

-- nor messages
few_messages : ReferencesAreAGraph → WeightsAddUp → ExpansionsKeepNames → (p : Declaration) (x : Expanded) → IsPlain p → IsExpansionOf p x → message_count (p ∷ []) 0 ≤ message_limit
few_messages graphs adds keep p x plain expands =
    omega (arith, messages_here graphs adds p plain, ap length (keep.messages p x expands), length-map x.messages (λ (m : Message). m.name), length-map (message_words p) (λ (w : Word). w.text), x.shape.counts.few_messages)

-- a limit that holds is passed over
within_next : (l : Limit) (rest : List Limit) → l.count ≤ l.most → find is_over rest ≡ None → find is_over (l ∷ rest) ≡ None
within_next l rest within none =
    let is : nat_lt l.most l.count ≡ false = grind (arith, nat_tests) in
    ap (λ b. cond b (Some l) (find is_over rest)) is ∙ none

-- all counts are within their limits
pub within_limits : ReferencesAreAGraph → WeightsAddUp → PathsByItems → ExpansionsKeepNames → (p : Declaration) (x : Expanded) → IsPlain p → IsExpansionOf p x → AreWithinLimits (p ∷ []) 0
within_limits graphs adds paths keep p x plain expands =
    let ps = p ∷ [] in
    let one = limit Protocols (length ps) protocol_limit in
    let two = limit Depth (depth ps 0) depth_limit in
    let three = limit Roles (role_count ps 0) role_limit in
    let four = limit Parameters (param_count ps 0) param_limit in
    let five = limit Keys (key_count ps 0) key_limit in
    let six = limit Carried (carried_count ps 0) carried_limit in
    let seven = limit Messages (message_count ps 0) message_limit in
    let alone : length ps ≤ protocol_limit = omega arith in
    let flat : depth ps 0 ≤ depth_limit = omega (arith, depth_here graphs p plain) in
    let narrow : carried_count ps 0 ≤ carried_limit = omega (arith, carried_here paths p x expands) in
    within_next one (two ∷ three ∷ four ∷ five ∷ six ∷ seven ∷ []) alone
    (within_next two (three ∷ four ∷ five ∷ six ∷ seven ∷ []) flat
    (within_next three (four ∷ five ∷ six ∷ seven ∷ []) (few_roles p x expands)
    (within_next four (five ∷ six ∷ seven ∷ []) (few_params graphs adds p x plain expands)
    (within_next five (six ∷ seven ∷ []) (few_keys keep p x expands)
    (within_next six (seven ∷ []) narrow
    (within_next seven [] (few_messages graphs adds keep p x plain expands) refl))))))
