-- What is counted of the expansion of a protocol, which is given by its number.
use Rattle.std.specs.Prelude.{ℕ, ◌+◌, Bool, true, false, List, length, map, nat_lt, Option, None}
use Rattle.std.specs.Prelude.{slice_get}
use Rattle.std.specs.List.{find}
use Rattle.std.specs.Option.{option_map, option_map_or}
use Rattle.bspl_types.specs.Limits.{carried_limit}
use Rattle.bspl_parser.specs.declared.document.Declaration.{Declaration}
use Rattle.bspl_parser.specs.declared.document.Item.{Item}
use Rattle.bspl_parser.specs.declared.document.Item.TheVariants.{Message, Reference}
use Rattle.bspl_parser.specs.declared.document.Schema.{Schema}
use Rattle.protocol_names.specs.Names.{key_words, message_words}
use Rattle.reference_graph.specs.PathCounts.{depth_within, weight_below}
use Rattle.protocol_paths.specs.Path.{Step, message_paths}
use Rattle.protocol_limits.specs.Graph.{graph_of}

-- what is counted of the protocol of the number
abbrev pub count_at : (Declaration → ℕ) → List Declaration → ℕ → ℕ
count_at count protocols top = option_map_or count (slice_get protocols top) 0

-- the item is a message
unfoldable pub is_message : Item → Bool
is_message (Message m) = true
is_message (Reference r) = false

-- how many messages a protocol has in its own body
abbrev pub own_messages : Declaration → ℕ
own_messages p = length (message_words p)

-- how many private parameters a protocol declares
abbrev pub own_privates : Declaration → ℕ
own_privates p = length p.private

-- something of each protocol, summed up over all paths of references
abbrev pub count_below : (Declaration → ℕ) → List Declaration → ℕ → ℕ
count_below own protocols top = weight_below (length protocols) (graph_of protocols)
    (map own protocols) top

-- how many messages the expansion has
unfoldable pub message_count : List Declaration → ℕ → ℕ
message_count protocols top = count_below own_messages protocols top

-- how many private parameters the expansion has
unfoldable pub private_count : List Declaration → ℕ → ℕ
private_count protocols top = count_below own_privates protocols top

-- how many parameters the expansion has, public and private
unfoldable pub param_count : List Declaration → ℕ → ℕ
param_count protocols top =
    count_at (λ p. length p.public) protocols top + private_count protocols top

-- how many references the longest path has
unfoldable pub depth : List Declaration → ℕ → ℕ
depth protocols top = depth_within (length protocols) (graph_of protocols) top

-- how many roles the protocol has
unfoldable pub role_count : List Declaration → ℕ → ℕ
role_count protocols top = count_at (λ p. length p.roles) protocols top

-- how many keys the protocol has
unfoldable pub key_count : List Declaration → ℕ → ℕ
key_count protocols top = count_at (λ p. length (key_words p)) protocols top

-- a message carries too many parameters
abbrev pub is_oversized : List Step × Schema → Bool
is_oversized (path, m) = nat_lt carried_limit (length m.params)

-- the number of parameters of the first message, through at most `n` references, that carries too
-- many
abbrev pub oversized_within : ℕ → List Declaration → Declaration → Option ℕ
oversized_within n protocols p = option_map (λ (path, m). length m.params)
    (find is_oversized (message_paths n protocols p))

-- the number of parameters of the first message of the expansion that carries too many
unfoldable pub first_oversized : List Declaration → ℕ → Option ℕ
first_oversized protocols top = option_map_or (oversized_within (length protocols) protocols)
    (slice_get protocols top) None
