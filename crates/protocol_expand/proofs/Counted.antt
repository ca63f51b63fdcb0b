-- What was counted of a protocol is what the flat protocol has of each, so it is within the limits.
use Rattle.std.proofs.Common.{◌≡◌, ℕ, ◌+◌, ◌<◌, ◌≤◌, Bool, false, cond, List, [], ◌∷◌, length, get_or, map, Some, None, inl, inr, refl, sym, ◌∙◌, ap, arith, length-append}
use Rattle.std.specs.Prelude.{nat_lt, slice_get}
use Rattle.std.specs.List.{All, find, flat_map}
use Rattle.std.specs.Option.{option_map, option_map_or}
use Rattle.std.proofs.lemmas.Bool.{cases_Bool}
use Rattle.std.proofs.lemmas.Bool.Decides.{nat_tests}
use Rattle.std.proofs.lemmas.List.{length-map}
use Rattle.std.proofs.lemmas.List.Elements.{All-nil, All-cons}
use Rattle.bspl_types.specs.Limits.{carried_limit}
use Rattle.bspl_types.specs.declared.refusals.What.TheVariants.{Messages}
use Rattle.bspl_parser.specs.declared.document.Declaration.{Declaration}
use Rattle.bspl_parser.specs.declared.document.Formal.{Formal}
use Rattle.bspl_parser.specs.declared.document.Item.{Item}
use Rattle.bspl_parser.specs.declared.document.Item.TheVariants.{Message, Reference}
use Rattle.bspl_parser.specs.declared.document.Schema.{Schema}
use Rattle.protocol_names.specs.Names.{key_words, param_words}
use Rattle.protocol_paths.specs.Flat.{IsFlat, IsImageFormal, IsImageItem, entry, privates_at}
use Rattle.protocol_paths.specs.Path.{Step, end_of, message_paths, paths}
use Rattle.protocol_paths.specs.Scope.{Scope, scope_at, start}
use Rattle.protocol_paths.specs.Laws.{PathsByItems}
use Rattle.protocol_limits.specs.Counts.{first_oversized, is_oversized, key_count, message_count, oversized_within, param_count, private_count, role_count}
use Rattle.protocol_limits.specs.Laws.{MessagesAreCounted, PrivatesAreCounted}
use Rattle.protocol_limits.specs.Limits.{AreWithinLimits, carried_count, is_over, limit, limits}
use Rattle.protocol_expand.specs.WellScoped.{CountsFit}
use Rattle.list_base.proofs.Mapped.{as_long}
use Rattle.list_base.proofs.Zipped.{seconds}

-- where nothing is found, the test fails at each
none_found : {X : Type 0} (test : X → Bool) (xs : List X) → find test xs ≡ None → All (λ x. test x ≡ false) xs
none_found test [] none = All-nil (λ x. test x ≡ false)
none_found test (x ∷ xs) none = elim (cases_Bool (test x)) [
  | inl holds ↦ absurd (let found : Some x ≡ None = sym (ap (λ b. cond b (Some x) (find test xs)) holds) ∙ none in cc)
  | inr fails ↦ All-cons (λ y. test y ≡ false) x xs fails (none_found test xs (sym (ap (λ b. cond b (Some x) (find test xs)) fails) ∙ none))
]

-- what is not over its limit is within it
not_over : (count most : ℕ) → nat_lt most count ≡ false → count ≤ most
not_over count most is = grind (arith, nat_tests)

-- what is counted of the protocol itself
pub roles_at : (protocols : List Declaration) (number : ℕ) (p : Declaration) → slice_get protocols number ≡ Some p → role_count protocols number ≡ length p.roles
unfolding role_count
roles_at protocols number p at = ap (λ o. option_map_or (λ (q : Declaration). length q.roles) o 0) at

pub params_at : (protocols : List Declaration) (number : ℕ) (p : Declaration) → slice_get protocols number ≡ Some p → param_count protocols number ≡ length p.public + private_count protocols number
unfolding param_count
params_at protocols number p at = ap (λ o. option_map_or (λ (q : Declaration). length q.public) o 0 + private_count protocols number) at

-- the count at each index is within its limit
within_at : (protocols : List Declaration) (number k : ℕ) → AreWithinLimits protocols number → k < 7 → (get_or (limits protocols number) k (limit Messages 0 0)).count ≤ (get_or (limits protocols number) k (limit Messages 0 0)).most
within_at protocols number k within is_place =
    let l = get_or (limits protocols number) k (limit Messages 0 0) in
    not_over l.count l.most (none_found is_over (limits protocols number) within k (limit Messages 0 0) is_place)

-- there is an entry for each private parameter at the ends of paths
entries_long : PathsByItems → (place : Scope) (list : List (List Step)) → length (flat_map (λ path. privates_at (scope_at place path)) list) ≡ length (flat_map (λ path. (end_of place.protocol path).private) list)
entries_long paths_by place [] = refl
entries_long paths_by place (path ∷ list) =
    let here = privates_at (scope_at place path) in
    let own = (end_of place.protocol path).private in
    let long : length here ≡ length own = length-map _ _ ∙ ap (λ (p : Declaration). length p.private) (paths_by.ends place path) in
    length-append here (flat_map (λ p. privates_at (scope_at place p)) list)
    ∙ (λ i. long i + entries_long paths_by place list i)
    ∙ sym (length-append own (flat_map (λ p. (end_of place.protocol p).private) list))

-- the flat protocol has as many private parameters as were counted
privates_long : PrivatesAreCounted → PathsByItems → (protocols : List Declaration) (number : ℕ) (top flat : Declaration) → slice_get protocols number ≡ Some top → IsFlat protocols top flat → length flat.private ≡ private_count protocols number
unfolding private_count
privates_long privates paths_by protocols number top flat stands flattened =
    sym (length-map flat.private entry) ∙ ap length flattened.private
    ∙ entries_long paths_by (start top) (paths (length protocols) protocols top)
    ∙ privates (length protocols) number protocols top stands

-- and as many messages
messages_long : MessagesAreCounted → (protocols : List Declaration) (number : ℕ) (top flat : Declaration) → slice_get protocols number ≡ Some top → IsFlat protocols top flat → length flat.body ≡ message_count protocols number
unfolding message_count
messages_long messages protocols number top flat stands flattened =
    as_long (IsImageItem (start top)) (message_paths (length protocols) protocols top) flat.body flattened.body
    ∙ messages (length protocols) number protocols top stands

-- and as many keys
keys_long : (protocols : List Declaration) (number : ℕ) (top flat : Declaration) → slice_get protocols number ≡ Some top → IsFlat protocols top flat → length (key_words flat) ≡ key_count protocols number
unfolding key_count
keys_long protocols number top flat stands flattened =
    ap (λ (public : List Formal). length (key_words (record top { public = public }))) flattened.public
    ∙ sym (ap (λ o. option_map_or (λ (p : Declaration). length (key_words p)) o 0) stands)

-- and as many parameters, public and private
params_long : PrivatesAreCounted → PathsByItems → (protocols : List Declaration) (number : ℕ) (top flat : Declaration) → slice_get protocols number ≡ Some top → IsFlat protocols top flat → length (param_words flat) ≡ length top.public + private_count protocols number
params_long privates paths_by protocols number top flat stands flattened =
    length-append (map (λ (f : Formal). f.name) flat.public) flat.private
    ∙ (λ i. (length-map flat.public (λ (f : Formal). f.name) ∙ ap length flattened.public) i + privates_long privates paths_by protocols number top flat stands flattened i)

-- so a flat protocol is within the limits of an expansion
pub counts_are_within : MessagesAreCounted → PrivatesAreCounted → PathsByItems → (protocols : List Declaration) (number : ℕ) (top flat : Declaration) → slice_get protocols number ≡ Some top → AreWithinLimits protocols number → IsFlat protocols top flat → CountsFit flat
counts_are_within messages privates paths_by protocols number top flat stands within flattened = record {
  few_roles = omega (arith, within_at protocols number 2 within (omega arith), roles_at protocols number top stands, ap length flattened.roles);
  few_params = omega (arith, within_at protocols number 3 within (omega arith), params_at protocols number top stands, params_long privates paths_by protocols number top flat stands flattened);
  few_keys = omega (arith, within_at protocols number 4 within (omega arith), keys_long protocols number top flat stands flattened);
  few_messages = omega (arith, within_at protocols number 6 within (omega arith), messages_long messages protocols number top flat stands flattened);
}

-- how many parameters a message carries
abbrev pub width : List Step × Schema → ℕ
width (path, m) = length m.params

-- the number of parameters of the first message that carries too many, or 0
abbrev first_width : List (List Step × Schema) → ℕ
first_width found = option_map_or (λ n. n) (option_map width (find is_oversized found)) 0

-- if that number is not too large, no message carries too many
none_wide : (found : List (List Step × Schema)) → first_width found ≤ carried_limit → All (λ x. width x ≤ carried_limit) found
none_wide [] few = All-nil (λ x. width x ≤ carried_limit)
none_wide ((path, m) ∷ rest) few = elim (cases_Bool (is_oversized (path, m))) [
  | inl over ↦
      let wide : carried_limit < length m.params = grind (arith, nat_tests) in
      let first : first_width ((path, m) ∷ rest) ≡ length m.params = ap (λ b. option_map_or (λ (n : ℕ). n) (option_map width (cond b (Some (path, m)) (find is_oversized rest))) 0) over in
      absurd (omega (arith, wide, first, few))
  | inr within ↦
      let later : first_width ((path, m) ∷ rest) ≡ first_width rest = ap (λ b. option_map_or (λ (n : ℕ). n) (option_map width (cond b (Some (path, m)) (find is_oversized rest))) 0) within in
      All-cons (λ x. width x ≤ carried_limit) (path, m) rest (not_over (length m.params) carried_limit within) (none_wide rest (omega (arith, later, few)))
]

-- a message that carries not too many parameters
abbrev pub CarriesFew : Item → Type 0
CarriesFew (Message s) = length s.params ≤ carried_limit
CarriesFew (Reference r) = ⊥

-- an image carries as many as its message
image_few : (place : Scope) (x : List Step × Schema) (i : Item) → width x ≤ carried_limit → IsImageItem place x i → CarriesFew i
image_few place (path, m) (Reference r) few image = absurd image
image_few place (path, m) (Message s) few image = omega (arith, few, as_long (IsImageFormal (scope_at place path)) m.params s.params image.carries)

-- what was counted of the protocol
carried_at : (protocols : List Declaration) (number : ℕ) (top : Declaration) → slice_get protocols number ≡ Some top → carried_count protocols number ≡ first_width (message_paths (length protocols) protocols top)
unfolding first_oversized
carried_at protocols number top stands = ap (λ o. option_map_or (λ (n : ℕ). n) (option_map_or (oversized_within (length protocols) protocols) o None) 0) stands

-- so no message of a flat protocol carries too many
pub messages_carry_few : (protocols : List Declaration) (number : ℕ) (top flat : Declaration) → slice_get protocols number ≡ Some top → AreWithinLimits protocols number → IsFlat protocols top flat → All CarriesFew flat.body
messages_carry_few protocols number top flat stands within flattened =
    let found = message_paths (length protocols) protocols top in
    let few : first_width found ≤ carried_limit = omega (arith, within_at protocols number 5 within (omega arith), carried_at protocols number top stands) in
    seconds (λ (x : List Step × Schema). width x ≤ carried_limit) (IsImageItem (start top)) CarriesFew (image_few (start top)) found flat.body (none_wide found few) flattened.body
