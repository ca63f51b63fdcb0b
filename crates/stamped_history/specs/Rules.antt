-- What the agents of all roles do, and what is lost between them.
use Rattle.std.specs.Prelude.{◌≡◌, ℕ, ◌-◌, ◌<◌, Bool, List, slice_get, Some}
use Rattle.bspl_types.specs.declared.value.Value.{Value}

-- the workload keys, numbered from 1; for each role the messages that it sends, in the order of
-- attempt; whether a message is declined at a number; a parameter's value in a message at a number;
-- whether a message is lost at a number
pub record Rules : Type 0 where
  pub keys : List (List Value)
  pub order : ℕ → List ℕ
  pub declines : ℕ → ℕ → Bool
  pub value : ℕ → ℕ → ℕ → Value
  pub loses : ℕ → ℕ → Bool

-- the key has that number
pub record IsNumber (rules : Rules) (n : ℕ) (key : List Value) : Type 0 where
  pub some : 0 < n
  pub at : slice_get rules.keys (n - 1) ≡ Some key

-- the role tries the first message before the other
pub record TriesBefore (rules : Rules) (role first other : ℕ) : Type 0 where
  pub index : ℕ
  pub later : ℕ
  pub in_order : index < later
  pub first_at : slice_get (rules.order role) index ≡ Some first
  pub other_at : slice_get (rules.order role) later ≡ Some other
