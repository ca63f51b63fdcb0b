-- The first message that carries too many parameters, by those of the protocols that are referred to.
use Rattle.std.proofs.Common.{◌≡◌, ℕ, suc, ◌+◌, Bool, true, false, cond, List, [], ◌∷◌, ◌++◌, length, map, Option, Some, None, refl, sym, ◌∙◌, ap}
use Rattle.std.specs.Prelude.{nat_lt}
use Rattle.std.specs.List.{enumerate_from, find, flat_map}
use Rattle.std.specs.Option.{option_map, option_map_or, option_or}
use Rattle.std.proofs.lemmas.List.Folds.{find-append}
use Rattle.bspl_types.specs.Limits.{carried_limit}
use Rattle.bspl_parser.specs.declared.document.Declaration.{Declaration}
use Rattle.bspl_parser.specs.declared.document.Item.{Item}
use Rattle.bspl_parser.specs.declared.document.Item.TheVariants.{Message, Reference}
use Rattle.bspl_parser.specs.declared.document.Reference.{Reference as Use}
use Rattle.bspl_parser.specs.declared.document.Schema.{Schema}
use Rattle.protocol_names.specs.Names.{protocol_of}
use Rattle.protocol_paths.specs.Path.{Step, through, item_messages, message_paths}
use Rattle.protocol_limits.specs.Counts.{is_oversized, oversized_within}
use Rattle.protocol_limits.specs.Graph.{protocol_number}
use Rattle.protocol_limits.specs.inner.Oversized.{first_oversized_in}
use Rattle.protocol_limits.proofs.MessageLemmas.{AreSame, same_target, step}

-- how many parameters a message carries
abbrev width : List Step × Schema → ℕ
width (path, m) = length m.params

-- the width of the first message that carries too many
abbrev first_width : List (List Step × Schema) → Option ℕ
first_width xs = option_map width (find is_oversized xs)

-- the number if it is too large
abbrev oversized : ℕ → Option ℕ
oversized n = cond (nat_lt carried_limit n) (Some n) None

-- the width of the first of two
width_or : (p q : Option (List Step × Schema)) → option_map width (option_or p q) ≡ option_or (option_map width p) (option_map width q)
width_or None q = refl
width_or (Some x) q = refl

-- of two lists the first has the first one, if it has one
width_append : (xs ys : List (List Step × Schema)) → first_width (xs ++ ys) ≡ option_or (first_width xs) (first_width ys)
width_append xs ys = ap (option_map width) (find-append is_oversized xs ys) ∙ width_or (find is_oversized xs) (find is_oversized ys)

-- by the first of the messages
width_first : (path : List Step) (m : Schema) (xs : List (List Step × Schema)) → first_width ((path, m) ∷ xs) ≡ option_or (oversized (length m.params)) (first_width xs)
width_first path m xs = by (nat_lt carried_limit (length m.params))
  where
    by : (b : Bool) → option_map width (cond b (Some (path, m)) (find is_oversized xs)) ≡ option_or (cond b (Some (length m.params)) None) (first_width xs)
    by true = refl
    by false = refl

-- one more reference passed changes no width
width_through : (s : Step) (xs : List (List Step × Schema)) → first_width (map (through s) xs) ≡ first_width xs
width_through s [] = refl
width_through s ((path, m) ∷ xs) =
    width_first (s ∷ path) m (map (through s) xs) ∙ ap (option_or (oversized (length m.params))) (width_through s xs) ∙ sym (width_first path m xs)

or_none : (o : Option ℕ) → option_or o None ≡ o
or_none None = refl
or_none (Some n) = refl

-- those by a reference
width_reference : (n position : ℕ) (protocols : List Declaration) (r : Use) (found : Option Declaration) → first_width (flat_map (λ s. map (through s) (message_paths n protocols s.target)) (option_map_or (λ q. step position r q ∷ []) found [])) ≡ option_map_or (oversized_within n protocols) found None
width_reference n position protocols r None = refl
width_reference n position protocols r (Some q) =
    let there = map (through (step position r q)) (message_paths n protocols q) in
    width_append there [] ∙ or_none (first_width there) ∙ width_through (step position r q) (message_paths n protocols q)

-- what was found where nothing was
abbrev pub nothing : ℕ → Option ℕ
nothing k = None

none_found : (found : Option ℕ) → option_map_or nothing found None ≡ None
none_found None = refl
none_found (Some k) = refl

-- the items of a body, without a reference
pub oversized_zero : (protocols : List Declaration) (position : ℕ) (items : List Item) → first_width (flat_map (item_messages 0 protocols) (enumerate_from position items)) ≡ first_oversized_in protocols nothing items
oversized_zero protocols position [] = refl
oversized_zero protocols position (Message m ∷ items) =
    width_first [] m (flat_map (item_messages 0 protocols) (enumerate_from (position + 1) items)) ∙ ap (option_or (oversized (length m.params))) (oversized_zero protocols (position + 1) items)
oversized_zero protocols position (Reference r ∷ items) =
    oversized_zero protocols (position + 1) items ∙ sym (ap (λ a. option_or a (first_oversized_in protocols nothing items)) (none_found (protocol_number protocols r.protocol.text)))

-- and through references
pub oversized_suc : (n : ℕ) (protocols : List Declaration) (f : ℕ → Option ℕ) → AreSame (oversized_within n protocols) f protocols → (position : ℕ) (items : List Item) → first_width (flat_map (item_messages (suc n) protocols) (enumerate_from position items)) ≡ first_oversized_in protocols f items
oversized_suc n protocols f same position [] = refl
oversized_suc n protocols f same position (Message m ∷ items) =
    width_first [] m (flat_map (item_messages (suc n) protocols) (enumerate_from (position + 1) items)) ∙ ap (option_or (oversized (length m.params))) (oversized_suc n protocols f same (position + 1) items)
oversized_suc n protocols f same position (Reference r ∷ items) =
    let here = item_messages (suc n) protocols (position, Reference r) in
    let rest = flat_map (item_messages (suc n) protocols) (enumerate_from (position + 1) items) in
    width_append here rest
    ∙ ap (λ a. option_or a (first_width rest)) (width_reference n position protocols r (protocol_of protocols r.protocol.text) ∙ same_target None (oversized_within n protocols) f protocols r.protocol.text same)
    ∙ ap (option_or (option_map_or f (protocol_number protocols r.protocol.text) None)) (oversized_suc n protocols f same (position + 1) items)
