-- Over an order, the first message that carries too many parameters is found by those of the protocols before it.
use Rattle.std.proofs.Common.{◌≡◌, ℕ, zero, suc, ◌+◌, ◌<◌, ◌≤◌, List, [], ◌∷◌, length, get_or, Option, Some, None, refl, sym, ◌∙◌, ap, subst, arith, All}
use Rattle.std.specs.Prelude.{slice_get}
use Rattle.std.specs.List.{cons_option, filter_map}
use Rattle.std.specs.Option.{option_map_or, option_or}
use Rattle.std.proofs.lemmas.List.Elements.{All-head, All-nil, All-tail}
use Rattle.std.proofs.lemmas.Option.{slice_get_within}
use Rattle.list_base.proofs.Settled.{settled_below}
use Rattle.list_base.proofs.Tables.{AreFilled, filled_before}
use Rattle.bspl_parser.specs.declared.document.Declaration.{Declaration}
use Rattle.bspl_parser.specs.declared.document.Item.{Item}
use Rattle.bspl_parser.specs.declared.document.Item.TheVariants.{Message, Reference}
use Rattle.reference_graph.specs.Graph.{successors}
use Rattle.reference_graph.specs.Laws.{OrdersAreShort}
use Rattle.reference_graph.specs.Order.{IsOrder, IsTopological}
use Rattle.protocol_limits.specs.Counts.{first_oversized, oversized_within}
use Rattle.protocol_limits.specs.Graph.{graph_of, protocol_number, references_of, target_of}
use Rattle.protocol_limits.specs.inner.Oversized.{first_oversized_in, oversized_item}
use Rattle.protocol_limits.proofs.GraphLemmas.{length_graph, successors_at}
use Rattle.protocol_limits.proofs.FollowedLemmas.{start_index}
use Rattle.protocol_limits.proofs.OversizedLemmas.{nothing, oversized_suc, oversized_zero}

-- what is found at the number of a protocol, through at most `n` references
abbrev pub oversized_at : List Declaration → ℕ → ℕ → Option ℕ
oversized_at protocols n a = option_map_or (oversized_within n protocols) (slice_get protocols a) None

-- at a protocol
found_here : (protocols : List Declaration) (n a : ℕ) (p : Declaration) → slice_get protocols a ≡ Some p → oversized_at protocols n a ≡ oversized_within n protocols p
found_here protocols n a p at = ap (λ o. option_map_or (oversized_within n protocols) o None) at

found_here-zero : (protocols : List Declaration) (a : ℕ) (p : Declaration) → slice_get protocols a ≡ Some p → oversized_at protocols 0 a ≡ first_oversized_in protocols nothing p.body
found_here-zero protocols a p at = found_here protocols 0 a p at ∙ oversized_zero protocols 1 p.body

pub found_here-suc : (protocols : List Declaration) (n a : ℕ) (p : Declaration) → slice_get protocols a ≡ Some p → oversized_at protocols (suc n) a ≡ first_oversized_in protocols (oversized_at protocols n) p.body
found_here-suc protocols n a p at = found_here protocols (suc n) a p at ∙ oversized_suc n protocols (oversized_at protocols n) (λ k q there. sym (found_here protocols n k q there)) 1 p.body

-- one target more
found_first : (f h : ℕ → Option ℕ) (found : Option ℕ) (rest : List ℕ) → All (λ b. f b ≡ h b) (cons_option found rest) → (option_map_or f found None ≡ option_map_or h found None) × All (λ b. f b ≡ h b) rest
found_first f h None rest same = (refl, same)
found_first f h (Some k) rest same = (All-head (λ b. f b ≡ h b) k rest same, All-tail (λ b. f b ≡ h b) k rest same)

-- what is found of the protocols that are referred to decides
pub found_same : (protocols : List Declaration) (f h : ℕ → Option ℕ) (items : List Item) → All (λ b. f b ≡ h b) (filter_map (target_of protocols) items) → first_oversized_in protocols f items ≡ first_oversized_in protocols h items
found_same protocols f h [] same = refl
found_same protocols f h (Message m ∷ items) same = ap (option_or (oversized_item protocols h (Message m))) (found_same protocols f h items same)
found_same protocols f h (Reference r ∷ items) same =
    let parts = found_first f h (protocol_number protocols r.protocol.text) (filter_map (target_of protocols) items) same in
    ap (λ a. option_or a (first_oversized_in protocols f items)) parts.0 ∙ ap (option_or (option_map_or h (protocol_number protocols r.protocol.text) None)) (found_same protocols f h items parts.1)

-- a number that is that of no protocol
astray : (protocols : List Declaration) (n m a : ℕ) → slice_get protocols a ≡ None → oversized_at protocols n a ≡ oversized_at protocols m a
astray protocols n m a none = ap (λ o. option_map_or (oversized_within n protocols) o None) none ∙ sym (ap (λ o. option_map_or (oversized_within m protocols) o None) none)

-- what is found at a protocol that refers to none
leaf_here : (protocols : List Declaration) (n a : ℕ) (p : Declaration) → slice_get protocols a ≡ Some p → references_of protocols p ≡ [] → oversized_at protocols n a ≡ first_oversized_in protocols nothing p.body
leaf_here protocols zero a p at leaf = found_here-zero protocols a p at
leaf_here protocols (suc n) a p at leaf = found_here-suc protocols n a p at ∙ found_same protocols (oversized_at protocols n) nothing p.body (subst (All (λ b. oversized_at protocols n b ≡ nothing b)) (sym leaf) (All-nil (λ b. oversized_at protocols n b ≡ nothing b)))

at_leaf : (protocols : List Declaration) (n m a : ℕ) → successors (graph_of protocols) a ≡ [] → oversized_at protocols n a ≡ oversized_at protocols m a
at_leaf protocols n m a leaf = (elim (slice_get protocols a) as (λ o. slice_get protocols a ≡ o → oversized_at protocols n a ≡ oversized_at protocols m a) [
  | None ↦ λ none. astray protocols n m a none
  | Some p ↦ λ at. let bare : references_of protocols p ≡ [] = sym (successors_at protocols a p at) ∙ leaf in
      leaf_here protocols n a p at bare ∙ sym (leaf_here protocols m a p at bare)
]) refl

at_branch : (protocols : List Declaration) (n m a : ℕ) → All (λ b. oversized_at protocols n b ≡ oversized_at protocols m b) (successors (graph_of protocols) a) → oversized_at protocols (suc n) a ≡ oversized_at protocols (suc m) a
at_branch protocols n m a same = (elim (slice_get protocols a) as (λ o. slice_get protocols a ≡ o → oversized_at protocols (suc n) a ≡ oversized_at protocols (suc m) a) [
  | None ↦ λ none. astray protocols (suc n) (suc m) a none
  | Some p ↦ λ at. found_here-suc protocols n a p at
      ∙ found_same protocols (oversized_at protocols n) (oversized_at protocols m) p.body (subst (All (λ b. oversized_at protocols n b ≡ oversized_at protocols m b)) (successors_at protocols a p at) same)
      ∙ sym (found_here-suc protocols m a p at)
]) refl

-- over an order
pub found_in_order : (protocols : List Declaration) (order : List ℕ) → IsTopological (graph_of protocols) order → (n k a : ℕ) (p : Declaration) → length order ≤ n → slice_get order k ≡ Some a → slice_get protocols a ≡ Some p → oversized_at protocols n a ≡ first_oversized_in protocols (oversized_at protocols n) p.body
found_in_order protocols order topological zero k a p short at stands = absurd (omega (arith, slice_get_within order k a at))
found_in_order protocols order topological (suc n) k a p short at stands =
    let low : k ≤ n + 1 = omega (arith, slice_get_within order k a at, short) in
    let high : k ≤ suc n + 1 = omega (arith, low) in
    found_here-suc protocols n a p stands
    ∙ found_same protocols (oversized_at protocols n) (oversized_at protocols (suc n)) p.body
    (subst (All (λ b. oversized_at protocols n b ≡ oversized_at protocols (suc n) b)) (successors_at protocols a p stands)
    (settled_below (successors (graph_of protocols)) order topological.after (oversized_at protocols) (at_leaf protocols) (at_branch protocols) n (suc n) k a at low high))

-- what is found of a protocol, by what was found of those before it
pub found_is : OrdersAreShort → (protocols : List Declaration) (order : List ℕ) (table : List (Option ℕ)) (i a : ℕ) (p : Declaration) → IsTopological (graph_of protocols) order → slice_get order i ≡ Some a → slice_get protocols a ≡ Some p → AreFilled None (oversized_at protocols (length protocols)) order table i → first_oversized_in protocols (λ k. get_or table k None) p.body ≡ oversized_at protocols (length protocols) a
found_is short_orders protocols order table i a p topological at stands found =
    let f = oversized_at protocols (length protocols) in
    let short : length order ≤ length protocols = omega (arith, short_orders (graph_of protocols) order topological, length_graph protocols) in
    found_same protocols (λ k. get_or table k None) f p.body (subst (All (λ b. get_or table b None ≡ f b)) (successors_at protocols a p stands) (filled_before None f order table i (successors (graph_of protocols) a) (topological.after i a at) found))
    ∙ sym (found_in_order protocols order topological (length protocols) i a p short at stands)

-- what is found at the top
pub first_is : (protocols : List Declaration) (order : List ℕ) (table : List (Option ℕ)) (i top : ℕ) → IsOrder (graph_of protocols) top order → length order ≤ i → AreFilled None (oversized_at protocols (length protocols)) order table i → get_or table top None ≡ first_oversized protocols top
unfolding first_oversized
first_is protocols order table i top is_order passed found =
    let index = start_index (graph_of protocols) top order is_order in
    found.filled index.0 top (omega (arith, slice_get_within order index.0 top index.1, passed)) index.1

-- a node of the order is the number of a protocol
pub node_within : (protocols : List Declaration) (order : List ℕ) (top i : ℕ) → IsOrder (graph_of protocols) top order → i < length order → get_or order i 0 < length protocols
node_within protocols order top i is_order within = omega (arith, is_order.topological.nodes i 0 within, length_graph protocols)
