-- What holds of every expansion: roles and parameters exist, names are valid and distinct,
-- and counts are within the limits.
use Rattle.std.specs.Prelude.{◌≡◌, ◌≢◌, ℕ, ◌<◌, ◌≤◌, Bool, false, List, map, length, take, drop}
use Rattle.std.specs.Prelude.{Option, Some, None, IsTrue}
use Rattle.std.specs.List.{All, AllPairs, filter, enumerate_from}
use Rattle.bspl_types.specs.declared.protocol.Adornment.{Adornment}
use Rattle.bspl_types.specs.declared.protocol.Message.{Message}
use Rattle.bspl_types.specs.declared.protocol.ParamInfo.{ParamInfo}
use Rattle.bspl_types.specs.Adornment.{has_value}
use Rattle.bspl_types.specs.Limits.{role_limit, param_limit, key_limit, carried_limit}
use Rattle.bspl_types.specs.Limits.{message_limit}
use Rattle.bspl_types.specs.Name.{is_name}

-- each has a valid name, and the names are distinct
pub record AreNamed {X : Type 0} (name : X → List ℕ) (items : List X) : Type 0 where
  pub named : All (λ x. IsTrue (is_name (name x))) items
  pub distinct : AllPairs (λ x y. name x ≢ name y) items

-- public, and adorned `in` or `out`
abbrev pub is_public_value : Option Adornment → Bool
is_public_value None = false
is_public_value (Some adornment) = has_value adornment

-- exactly the first `public` parameters are adorned,
-- and only those adorned `in` or `out` are marked as keys
pub record IsDeclared (public : ℕ) (params : List ParamInfo) : Type 0 where
  pub some_public : 0 < public
  pub within : public ≤ length params
  pub public_adorned : All (λ p. p.adornment ≢ None) (take public params)
  pub private_bare : All (λ p. p.adornment ≡ None) (drop public params)
  pub keys_bound : All (λ p. IsTrue p.key → IsTrue (is_public_value p.adornment)) params

-- the indices of the parameters that are marked as keys, in order
abbrev pub key_indices : List ParamInfo → List ℕ
key_indices params = map (λ (index, _). index) (filter (λ (_, p). p.key) (enumerate_from 0 params))

-- its roles and parameters exist, and it carries at least one parameter and at most the limit
pub record IsMessageOf (roles params : ℕ) (m : Message) : Type 0 where
  pub known_sender : m.sender < roles
  pub known_receiver : m.receiver < roles
  pub known_params : All (λ c. c.param < params) m.carried
  pub some : 0 < length m.carried
  pub few : length m.carried ≤ carried_limit

-- each count is at most its limit
pub record IsWithinLimits (roles params keys messages : ℕ) : Type 0 where
  pub few_roles : roles ≤ role_limit
  pub few_params : params ≤ param_limit
  pub few_keys : keys ≤ key_limit
  pub few_messages : messages ≤ message_limit

-- a well-formed expansion
pub record IsWellFormed (name : List ℕ) (roles : List (List ℕ)) (params : List ParamInfo)
    (public : ℕ) (keys : List ℕ) (messages : List Message) : Type 0 where
  pub named : IsTrue (is_name name)
  pub role_names : AreNamed (λ name. name) roles
  pub some_role : 0 < length roles
  pub param_names : AreNamed (λ p. p.name) params
  pub message_names : AreNamed (λ m. m.name) messages
  pub declared : IsDeclared public params
  pub key_list : keys ≡ key_indices params
  pub each_message : All (IsMessageOf (length roles) (length params)) messages
  pub counts : IsWithinLimits (length roles) (length params) (length keys) (length messages)
