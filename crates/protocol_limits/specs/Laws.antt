-- The laws on counts, orders and depth.
use Rattle.std.specs.Prelude.{◌≡◌, ◌↔◌, ℕ, ◌<◌, ◌^◌, List, None, Some, length, map, slice_get}
use Rattle.std.specs.List.{position}
use Rattle.std.specs.Str.{bytes_eq}
use Rattle.bspl_parser.specs.declared.document.Declaration.{Declaration}
use Rattle.protocol_names.specs.Names.{protocol_of, protocol_words, texts}
use Rattle.protocol_paths.specs.Path.{message_paths, private_words}
use Rattle.protocol_paths.specs.ReferencePath.{IsWithinDepth}
use Rattle.reference_graph.specs.Graph.{IsGraph, successors}
use Rattle.reference_graph.specs.Order.{IsOrder}
use Rattle.reference_graph.specs.PathCounts.{weight_below}
use Rattle.protocol_limits.specs.Counts.{depth, own_messages, own_privates}
use Rattle.protocol_limits.specs.Graph.{graph_of, protocol_number, references_of}
use Rattle.protocol_limits.specs.Survey.{IsUnrolled}

-- the number of a name is that of its first protocol, and the index of the name among those of the
-- protocols
pub record NumbersAreOfProtocols : Type 0 where
  pub declared : (protocols : List Declaration) (name : List ℕ) (k : ℕ) →
      protocol_number protocols name ≡ Some k → (p : Declaration)
      × (protocol_of protocols name ≡ Some p) × (slice_get protocols k ≡ Some p)
  pub none : (protocols : List Declaration) (name : List ℕ) →
      protocol_number protocols name ≡ None → protocol_of protocols name ≡ None
  pub by_names : (protocols : List Declaration) (names : List (List ℕ)) (name : List ℕ) →
      names ≡ texts (protocol_words protocols) →
      position (λ n. bytes_eq n name) names ≡ protocol_number protocols name

-- the references of a document are a graph, with a node for each protocol and its references there
pub record ReferencesAreAGraph : Type 0 where
  pub graph : (protocols : List Declaration) → length protocols < 2 ^ 32 →
      IsGraph (graph_of protocols)
  pub nodes : (protocols : List Declaration) → length (graph_of protocols) ≡ length protocols
  pub at : (protocols : List Declaration) (k : ℕ) (p : Declaration) →
      slice_get protocols k ≡ Some p → successors (graph_of protocols) k ≡ references_of protocols p

-- no path is a cycle exactly if the protocols that are reached have an order
abbrev pub UnrolledHaveOrders : Type 0
UnrolledHaveOrders = (protocols : List Declaration) (top : ℕ) → top < length protocols →
    IsUnrolled protocols top ↔ ((order : List ℕ) × IsOrder (graph_of protocols) top order)

-- where no path is a cycle, no path has more references than the depth, nor than there are
-- protocols
pub record UnrolledPathsAreShort : Type 0 where
  pub by_depth : (protocols : List Declaration) (top : ℕ) (p : Declaration) →
      slice_get protocols top ≡ Some p → IsUnrolled protocols top →
      IsWithinDepth protocols p (depth protocols top)
  pub by_protocols : (protocols : List Declaration) (top : ℕ) (p : Declaration) →
      slice_get protocols top ≡ Some p → IsUnrolled protocols top →
      IsWithinDepth protocols p (length protocols)

-- there are as many messages at the ends of paths as the paths have, each weighed by the messages
-- of the protocol where it ends
abbrev pub MessagesAreCounted : Type 0
MessagesAreCounted = (n number : ℕ) (protocols : List Declaration) (p : Declaration) →
    slice_get protocols number ≡ Some p →
    length (message_paths n protocols p)
    ≡ weight_below n (graph_of protocols) (map own_messages protocols) number

-- so are the private parameters
abbrev pub PrivatesAreCounted : Type 0
PrivatesAreCounted = (n number : ℕ) (protocols : List Declaration) (p : Declaration) →
    slice_get protocols number ≡ Some p →
    length (private_words n protocols p)
    ≡ weight_below n (graph_of protocols) (map own_privates protocols) number
