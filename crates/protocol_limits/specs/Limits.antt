-- The limits of an expansion, and the first that is exceeded.
use Rattle.std.specs.Prelude.{◌≡◌, ℕ, Bool, List, [], ◌∷◌, length, nat_lt, Some, None}
use Rattle.std.specs.List.{find}
use Rattle.std.specs.Option.{option_map_or}
use Rattle.bspl_types.specs.Limits.{carried_limit, depth_limit, key_limit, message_limit}
use Rattle.bspl_types.specs.Limits.{param_limit, protocol_limit, role_limit}
use Rattle.bspl_types.specs.declared.refusals.What.{What}
use Rattle.bspl_types.specs.declared.refusals.What.TheVariants.{Carried, Depth, Keys, Messages}
use Rattle.bspl_types.specs.declared.refusals.What.TheVariants.{Parameters, Protocols, Roles}
use Rattle.bspl_parser.specs.declared.document.Declaration.{Declaration}
use Rattle.reference_graph.specs.PathCounts.{saturated}
use Rattle.protocol_limits.specs.declared.limit.Limit.{Limit}
use Rattle.protocol_limits.specs.Counts.{depth, first_oversized, key_count, message_count}
use Rattle.protocol_limits.specs.Counts.{param_count, role_count}

-- what is counted, how many there are, and the most that there may be
abbrev pub limit : What → ℕ → ℕ → Limit
limit what count most = record { what = what; count = count; most = most }

-- the parameters of the first message that carries too many, or 0
abbrev pub carried_count : List Declaration → ℕ → ℕ
carried_count protocols top = option_map_or (λ count. count) (first_oversized protocols top) 0

-- the limits, in the order in which they are judged
abbrev pub limits : List Declaration → ℕ → List Limit
limits protocols top = limit Protocols (length protocols) protocol_limit
    ∷ limit Depth (depth protocols top) depth_limit
    ∷ limit Roles (role_count protocols top) role_limit
    ∷ limit Parameters (param_count protocols top) param_limit
    ∷ limit Keys (key_count protocols top) key_limit
    ∷ limit Carried (carried_count protocols top) carried_limit
    ∷ limit Messages (message_count protocols top) message_limit ∷ []

-- there are more than there may be
abbrev pub is_over : Limit → Bool
is_over l = nat_lt l.most l.count

-- all counts are within their limits
abbrev pub AreWithinLimits : List Declaration → ℕ → Type 0
AreWithinLimits protocols top = find is_over (limits protocols top) ≡ None

-- the first count over its limit, or the last number of 64 bits if the count is larger
pub record IsFirstOver (protocols : List Declaration) (top : ℕ) (what : What)
    (count : ℕ) : Type 0 where
  pub over : Limit
  pub first : find is_over (limits protocols top) ≡ Some over
  pub counted : over.what ≡ what
  pub reported : count ≡ saturated over.count

-- the same limit, its count at most the last number of 64 bits
abbrev pub saturated_limit : Limit → Limit
saturated_limit l = limit l.what (saturated l.count) l.most
