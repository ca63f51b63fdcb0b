-- Which script and plan the statements of a text give.
use Rattle.std.specs.Prelude.{◌≡◌, ℕ, zero, suc, Bool, true, false, not, ◌==◌, if◌then◌else◌}
use Rattle.std.specs.Prelude.{List, [], ◌∷◌, ◌++◌, length, map, replicate, slice_index_or}
use Rattle.std.specs.Prelude.{Option, Some, None}
use Rattle.std.specs.List.{filter, flat_map, list_any, enumerate_from}
use Rattle.bspl_types.specs.declared.expanded.Expanded.{Expanded}
use Rattle.bspl_types.specs.declared.value.Value.{Value}
use Rattle.bspl_types.specs.declared.value.Value.TheVariants.{Number}
use Rattle.agent_scripts.specs.declared.rules.ValueRule.{ValueRule}
use Rattle.agent_scripts.specs.declared.statement.Setting.{Setting}
use Rattle.agent_scripts.specs.declared.statement.Setting.TheVariants as settings
use Rattle.agent_scripts.specs.declared.statement.Statement.{Statement}
use Rattle.agent_scripts.specs.declared.statement.Statement.TheVariants.{Set, Order, Decline, Bind}
use Rattle.agent_scripts.specs.declared.plan.Plan.{Plan}
use Rattle.agent_scripts.specs.Rules.{key_in}
use Rattle.agent_scripts.specs.Script.{Script}

-- the same setting
abbrev pub is_setting : Setting → Setting → Bool
is_setting settings.Keys settings.Keys = true
is_setting settings.Seed settings.Seed = true
is_setting settings.Loss settings.Loss = true
is_setting settings.Repeat settings.Repeat = true
is_setting _ _ = false

-- the number to which a statement sets it
abbrev pub set_in : Setting → Statement → List ℕ
set_in setting (Set other n) = if is_setting other setting then n ∷ [] else []
set_in _ _ = []

-- the number of a setting, or its default
abbrev pub setting_of : List Statement → Setting → ℕ → ℕ
setting_of statements setting default =
    slice_index_or (flat_map (set_in setting) statements) 0 default

-- as many keys as that, the n-th with the number n in each place
abbrev pub counted_keys : ℕ → ℕ → List (List Value)
counted_keys width zero = []
counted_keys width (suc n) = counted_keys width n ++ replicate width (Number (suc n)) ∷ []

-- the keys of `key` lines, in their order, or else as many as `keys` says, or one
abbrev pub keys_given : ℕ → List Statement → List (List Value)
keys_given width statements =
    let listed = flat_map key_in statements in
    if length listed == 0 then counted_keys width (setting_of statements settings.Keys 1)
    else listed

-- the messages that the role sends, in the protocol's order
abbrev pub sent_by : Expanded → ℕ → List ℕ
sent_by x role =
    map (λ (m, _). m) (filter (λ (_, m). m.sender == role) (enumerate_from 0 x.messages))

-- the messages that a statement orders for the role
abbrev pub order_in : ℕ → Statement → List ℕ
order_in role (Order other messages) = if other == role then messages else []
order_in _ _ = []

-- those of the order come first, in its order, and the others follow in the protocol's
abbrev pub order_of : Expanded → List Statement → ℕ → List ℕ
order_of x statements role =
    let first = flat_map (order_in role) statements in
    first ++ filter (λ m. not (list_any (λ n. n == m) first)) (sent_by x role)

-- an order for each role
abbrev pub orders_given : Expanded → List Statement → List (List ℕ)
orders_given x statements =
    map (λ (role, _). order_of x statements role) (enumerate_from 0 x.roles)

-- a message that is declined always is so at the multiples of 1
abbrev pub every_of : Option ℕ → ℕ
every_of None = 1
every_of (Some n) = n

-- which message a statement declines, at the multiples of which number
abbrev pub declined_in : Statement → List (ℕ × ℕ)
declined_in (Decline m every) = (m, every_of every) ∷ []
declined_in _ = []

-- the rule that a statement gives a value
abbrev pub rule_in : Statement → List ValueRule
rule_in (Bind m p rule) = record { message = m; param = p; rule = rule } ∷ []
rule_in _ = []

-- the script has the keys, the orders, what is declined and the rules that the statements give
pub record IsGivenScript (x : Expanded) (statements : List Statement) (script : Script)
    : Type 0 where
  pub keys : script.keys ≡ keys_given (length x.keys) statements
  pub orders : script.orders ≡ orders_given x statements
  pub declines : map (λ d. (d.message, d.every)) script.declines
      ≡ flat_map declined_in statements
  pub rules : script.rules ≡ flat_map rule_in statements

-- the plan has the settings, each 0 if it is not set
pub record IsGivenPlan (statements : List Statement) (plan : Plan) : Type 0 where
  pub seed : plan.seed ≡ setting_of statements settings.Seed 0
  pub loss : plan.loss ≡ setting_of statements settings.Loss 0
  pub repeat : plan.repeat ≡ setting_of statements settings.Repeat 0
