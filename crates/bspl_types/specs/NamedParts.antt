-- The messages, roles and parameters of a protocol by their names. Names are distinct: each of the
-- statements at the end is the contract of a public function.
use Rattle.std.specs.Prelude.{◌≡◌, ℕ, ◌<◌, List, length}
use Rattle.bspl_types.specs.declared.expanded.Expanded.{Expanded}
use Rattle.bspl_types.specs.Expansion.{message_name, param_name, role_name}

-- the message exists, and this is its name
pub record IsMessageNamed (x : Expanded) (name : List ℕ) (m : ℕ) : Type 0 where
  pub known : m < length x.messages
  pub named : message_name x m ≡ name

-- the role is declared, and this is its name
pub record IsRoleNamed (x : Expanded) (name : List ℕ) (role : ℕ) : Type 0 where
  pub known : role < length x.roles
  pub named : role_name x role ≡ name

-- the parameter exists, and this is its name
pub record IsParamNamed (x : Expanded) (name : List ℕ) (p : ℕ) : Type 0 where
  pub known : p < length x.params
  pub named : param_name x p ≡ name

-- a name is that of one message at most
abbrev pub OneMessageOfAName : Type 0
OneMessageOfAName =
    (x : Expanded) (name : List ℕ) (m n : ℕ) → IsMessageNamed x name m →
    IsMessageNamed x name n → m ≡ n

-- a name is that of one role at most
abbrev pub OneRoleOfAName : Type 0
OneRoleOfAName =
    (x : Expanded) (name : List ℕ) (one other : ℕ) → IsRoleNamed x name one →
    IsRoleNamed x name other → one ≡ other

-- a name is that of one parameter at most
abbrev pub OneParamOfAName : Type 0
OneParamOfAName =
    (x : Expanded) (name : List ℕ) (p q : ℕ) → IsParamNamed x name p →
    IsParamNamed x name q → p ≡ q
