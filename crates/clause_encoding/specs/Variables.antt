-- Event kinds of one enactment, and the variables and literals that speak of them.
use Rattle.std.specs.Prelude.{ℕ, ◌+◌, ◌-◌, ◌*◌, ◌/◌, ◌<◌, ◌≤◌, nat_lt, if◌then◌else◌, List, length}
use Rattle.std.specs.List.{range_with_len}
use Rattle.bspl_types.specs.declared.expanded.Expanded.{Expanded}
use Rattle.clause_core.specs.declared.literal.Lit.{Lit}
use Rattle.clause_core.specs.Literal.{negated, positive}
use Rattle.clause_encoding.specs.declared.variables.Variables.{Variables}

-- each message has two event kinds, so many in all
abbrev pub kind_count : Expanded → ℕ
kind_count x = 2 * length x.messages

-- kinds are numbered from 1, messages from 0: the emission of message `m`
abbrev pub sent : ℕ → ℕ
sent m = 2 * m + 1

-- and its reception
abbrev pub received : ℕ → ℕ
received m = 2 * m + 2

-- the numbers of the messages, in order
abbrev pub message_numbers : Expanded → List ℕ
message_numbers x = range_with_len 0 (length x.messages)

-- the kinds after one, in order; those after 0 are all
abbrev pub kinds_following : Variables → ℕ → List ℕ
kinds_following vars kind = range_with_len (kind + 1) (vars.kinds - kind)

-- the number is that of a kind
pub record IsKind (vars : Variables) (kind : ℕ) : Type 0 where
  pub from_one : 0 < kind
  pub up_to : kind ≤ vars.kinds

-- kind `i` occurs
abbrev pub occurs : ℕ → Lit
occurs i = positive i

-- for i < j, the number of the variable that says that kind `i` stands before kind `j`: the pairs
-- are numbered in lexicographic order, after the variables up to `order_base`
abbrev pub order_variable : Variables → ℕ → ℕ → ℕ
order_variable vars i j = vars.order_base + (i - 1) * vars.kinds - i * (i - 1) / 2 + (j - i)

-- kind `i` stands before kind `j`
abbrev pub stands_before : Variables → ℕ → ℕ → Lit
stands_before vars i j =
    if nat_lt i j then positive (order_variable vars i j)
    else negated (positive (order_variable vars j i))

-- how many variables there are: one of each pair of kinds comes after the others
abbrev pub variable_count : Variables → ℕ
variable_count vars = vars.order_base + vars.kinds * (vars.kinds - 1) / 2

-- all numbers of variables are those of a machine
pub record IsSmall (vars : Variables) : Type 0 where
  pub few_kinds : vars.kinds ≤ 128
  pub occurrences_first : vars.kinds ≤ vars.order_base
  pub few_others : vars.order_base ≤ 1048576
