-- The graph of a document's references.
use Rattle.std.proofs.Common.{◌≡◌, ℕ, ◌+◌, ◌<◌, ◌≤◌, ◌^◌, List, [], ◌∷◌, ◌++◌, length, take, get_or, map, Option, Some, None, refl, sym, ◌∙◌, ap, subst, All}
use Rattle.std.specs.Prelude.{slice_get}
use Rattle.std.specs.List.{cons_option, filter_map}
use Rattle.std.proofs.lemmas.List.{length-map, get_or-map, take_all, take_more}
use Rattle.std.proofs.lemmas.List.Elements.{All-nil, All-cons, All-map, filter_map-append}
use Rattle.std.proofs.lemmas.Option.{get_or_from_slice_get, slice_get_within}
use Rattle.bspl_parser.specs.declared.document.Declaration.{Declaration}
use Rattle.bspl_parser.specs.declared.document.Item.{Item}
use Rattle.bspl_parser.specs.declared.document.Item.TheVariants.{Message, Reference}
use Rattle.reference_graph.specs.Graph.{AreNodes, IsGraph, successors}
use Rattle.protocol_limits.specs.Graph.{graph_of, references_of, target_of}
use Rattle.protocol_limits.proofs.NumberLemmas.{number_within}

-- what a mapped list has at the index of an item
pub map_at : {X Y : Type 0} (f : X → Y) (xs : List X) (k : ℕ) (x : X) (d : Y) → slice_get xs k ≡ Some x → get_or (map f xs) k d ≡ f x
map_at f xs k x d at = get_or-map f xs k x d (slice_get_within xs k x at) ∙ ap f (get_or_from_slice_get xs k x x at)

-- the graph has a node for each protocol
pub length_graph : (protocols : List Declaration) → length (graph_of protocols) ≡ length protocols
unfolding graph_of
length_graph protocols = length-map _ _

-- the references of all protocols
pub all_lists : (protocols : List Declaration) (lists : List (List ℕ)) (i : ℕ) → lists ≡ map (references_of protocols) (take i protocols) → length protocols ≤ i → lists ≡ graph_of protocols
unfolding graph_of
all_lists protocols lists i are passed = are ∙ ap (map (references_of protocols)) (take_all i protocols passed)

-- one item more
pub filter_map_more : {X Y : Type 0} (h : X → Option Y) (xs : List X) (i : ℕ) (d : X) → i < length xs → filter_map h (take (i + 1) xs) ≡ filter_map h (take i xs) ++ cons_option (h (get_or xs i d)) []
filter_map_more h xs i d within = ap (filter_map h) (take_more xs i d within) ∙ filter_map-append h (take i xs) (get_or xs i d ∷ [])

-- a node refers to what its protocol refers to
pub successors_at : (protocols : List Declaration) (k : ℕ) (p : Declaration) → slice_get protocols k ≡ Some p → successors (graph_of protocols) k ≡ references_of protocols p
unfolding graph_of
successors_at protocols k p at = map_at (references_of protocols) protocols k p [] at

-- what an item refers to is a protocol
pub target_within : (protocols : List Declaration) (i : Item) (k : ℕ) → target_of protocols i ≡ Some k → k < length protocols
target_within protocols (Message m) k is = absurd cc
target_within protocols (Reference r) k is = number_within protocols r.protocol.text k is

all_within : (n : ℕ) (found : Option ℕ) (rest : List ℕ) → ((k : ℕ) → found ≡ Some k → k < n) → All (λ b. b < n) rest → All (λ b. b < n) (cons_option found rest)
all_within n None rest within all = all
all_within n (Some k) rest within all = All-cons (λ b. b < n) k rest (within k refl) all

references_within : (protocols : List Declaration) (items : List Item) → All (λ b. b < length protocols) (filter_map (target_of protocols) items)
references_within protocols [] = All-nil (λ b. b < length protocols)
references_within protocols (i ∷ items) = all_within (length protocols) (target_of protocols i) (filter_map (target_of protocols) items) (target_within protocols i) (references_within protocols items)

-- the references of each protocol are nodes
pub all_nodes : (protocols : List Declaration) → All (AreNodes (graph_of protocols)) (graph_of protocols)
unfolding graph_of
all_nodes protocols = All-map (AreNodes (graph_of protocols)) (references_of protocols) protocols
    (λ k d within. subst (λ n. All (λ b. b < n) (references_of protocols (get_or protocols k d))) (sym (length_graph protocols)) (references_within protocols (get_or protocols k d).body))

-- it is a graph
pub graph_is : (protocols : List Declaration) → length protocols < 2 ^ 32 → IsGraph (graph_of protocols)
graph_is protocols few = record {
  few = subst (λ n. n < 2 ^ 32) (sym (length_graph protocols)) few;
  referred = all_nodes protocols;
}
