-- There are as many messages at the ends of paths as the paths have, each weighed by the messages of the protocol where it ends.
use Rattle.std.proofs.Common.{◌≡◌, ℕ, zero, suc, ◌+◌, List, [], ◌∷◌, inl, inr, length, get_or, map, Option, Some, None, refl, sym, ◌∙◌, ap, arith, length-append}
use Rattle.std.specs.Prelude.{cond, count_by, slice_get}
use Rattle.std.specs.List.{cons_option, enumerate_from, filter_map, flat_map, sum_by}
use Rattle.std.specs.Option.{option_map_or}
use Rattle.std.proofs.lemmas.List.{length-map}
use Rattle.std.proofs.lemmas.List.Sums.{sum_by-cons}
use Rattle.bspl_parser.specs.declared.document.Declaration.{Declaration}
use Rattle.bspl_parser.specs.declared.document.Item.{Item}
use Rattle.bspl_parser.specs.declared.document.Item.TheVariants.{Message, Reference}
use Rattle.bspl_parser.specs.declared.document.Reference.{Reference as Use}
use Rattle.protocol_names.specs.Names.{declared_word, protocol_of}
use Rattle.protocol_paths.specs.Path.{through, item_messages, message_paths, Step}
use Rattle.reference_graph.specs.PathCounts.{weight_below}
use Rattle.reference_graph.specs.Laws.{WeightsAddUp}
use Rattle.protocol_limits.specs.Counts.{is_message, own_messages}
use Rattle.protocol_limits.specs.Graph.{graph_of, protocol_number, target_of}
use Rattle.protocol_limits.proofs.NumberLemmas.{number_cases}
use Rattle.protocol_limits.proofs.GraphLemmas.{map_at, successors_at}

-- the step by a reference that leads to the protocol
abbrev pub step : ℕ → Use → Declaration → Step
step position r q = record { position = position; reference = r; target = q }

-- a sum with what is found
pub sum_option : (f : ℕ → ℕ) (found : Option ℕ) (rest : List ℕ) → sum_by f (cons_option found rest) ≡ option_map_or f found 0 + sum_by f rest
sum_option f None rest = omega arith
sum_option f (Some k) rest = sum_by-cons f k rest

-- the messages behind a reference
through_length : (n position : ℕ) (protocols : List Declaration) (r : Use) (found : Option Declaration) → length (flat_map (λ s. map (through s) (message_paths n protocols s.target)) (option_map_or (λ q. step position r q ∷ []) found [])) ≡ option_map_or (λ q. length (message_paths n protocols q)) found 0
through_length n position protocols r None = refl
through_length n position protocols r (Some q) =
    let there = map (through (step position r q)) (message_paths n protocols q) in
    length-append there [] ∙ (let long : length there ≡ length (message_paths n protocols q) = length-map _ _ in omega (arith, long))

-- what holds of the protocols one step on
abbrev pub AreSame : {Y : Type 0} → (Declaration → Y) → (ℕ → Y) → List Declaration → Type 0
AreSame count f protocols = (k : ℕ) (q : Declaration) → slice_get protocols k ≡ Some q → count q ≡ f k

-- a count of the protocol of a name is that of its number
pub same_target : {Y : Type 0} (d : Y) (count : Declaration → Y) (f : ℕ → Y) (protocols : List Declaration) (name : List ℕ) → AreSame count f protocols → option_map_or count (protocol_of protocols name) d ≡ option_map_or f (protocol_number protocols name) d
same_target d count f protocols name same = elim (number_cases protocols name) [
  | inl none ↦ ap (λ o. option_map_or count o d) none.1 ∙ sym (ap (λ o. option_map_or f o d) none.0)
  | inr some ↦ ap (λ o. option_map_or count o d) some.3 ∙ same some.0 some.1 some.4 ∙ sym (ap (λ o. option_map_or f o d) some.2)
]

items_zero : (protocols : List Declaration) (position : ℕ) (items : List Item) → length (flat_map (item_messages 0 protocols) (enumerate_from position items)) ≡ length (flat_map declared_word items)
items_zero protocols position [] = refl
items_zero protocols position (Message m ∷ items) = omega (arith, items_zero protocols (position + 1) items)
items_zero protocols position (Reference r ∷ items) = items_zero protocols (position + 1) items

items_suc : (n : ℕ) (protocols : List Declaration) (f : ℕ → ℕ) → AreSame (λ q. length (message_paths n protocols q)) f protocols → (position : ℕ) (items : List Item) → length (flat_map (item_messages (suc n) protocols) (enumerate_from position items)) ≡ length (flat_map declared_word items) + sum_by f (filter_map (target_of protocols) items)
items_suc n protocols f same position [] = omega arith
items_suc n protocols f same position (Message m ∷ items) = omega (arith, items_suc n protocols f same (position + 1) items)
items_suc n protocols f same position (Reference r ∷ items) =
    let here = item_messages (suc n) protocols (position, Reference r) in
    let rest = flat_map (item_messages (suc n) protocols) (enumerate_from (position + 1) items) in
    let one : length here ≡ option_map_or f (protocol_number protocols r.protocol.text) 0 = through_length n position protocols r (protocol_of protocols r.protocol.text) ∙ same_target 0 (λ q. length (message_paths n protocols q)) f protocols r.protocol.text same in
    omega (arith, length-append here rest, one, items_suc n protocols f same (position + 1) items, sum_option f (protocol_number protocols r.protocol.text) (filter_map (target_of protocols) items))

-- the law, by the number of steps
pub messages_counted : WeightsAddUp → (n number : ℕ) (protocols : List Declaration) (p : Declaration) → slice_get protocols number ≡ Some p → length (message_paths n protocols p) ≡ weight_below n (graph_of protocols) (map own_messages protocols) number
messages_counted adds zero number protocols p at =
    items_zero protocols 1 p.body ∙ sym (map_at own_messages protocols number p 0 at) ∙ sym (adds.at_node (graph_of protocols) (map own_messages protocols) number)
messages_counted adds (suc n) number protocols p at =
    let f = weight_below n (graph_of protocols) (map own_messages protocols) in
    items_suc n protocols f (λ k q. messages_counted adds n k protocols q) 1 p.body
    ∙ ap (λ m. m + sum_by f (filter_map (target_of protocols) p.body)) (sym (map_at own_messages protocols number p 0 at))
    ∙ ap (λ (bs : List ℕ). get_or (map own_messages protocols) number 0 + sum_by f bs) (sym (successors_at protocols number p at))
    ∙ sym (adds.below (graph_of protocols) (map own_messages protocols) n number)

-- the messages of a body, by a test of its items
pub messages_by_test : (items : List Item) → length (flat_map declared_word items) ≡ count_by is_message items
unfolding is_message
messages_by_test [] = refl
messages_by_test (Message m ∷ items) = omega (arith, messages_by_test items, sum_by-cons (λ (i : Item). cond (is_message i) 1 0) (Message m) items)
messages_by_test (Reference r ∷ items) = omega (arith, messages_by_test items, sum_by-cons (λ (i : Item). cond (is_message i) 1 0) (Reference r) items)
