-- The text of a protocol of n stages and of its agents. In each stage one role answers the other,
-- `yes` or `no`.
use Rattle.std.specs.Prelude.{ℕ, ◌-◌, ◌%◌, ◌==◌, if◌then◌else◌, List, ◌++◌, codes}
use Rattle.std.specs.List.{flat_map, range_with_len}
use Rattle.list_base.specs.Numeral.{numeral}

-- the stages are numbered from 1
abbrev pub stage_numbers : ℕ → List ℕ
stage_numbers n = range_with_len 1 n

-- the parameter that a stage produces, after those before it: , out x1
abbrev pub stage_parameter : ℕ → List ℕ
stage_parameter i = codes ", out x" ++ numeral i

-- the public parameters: the key, and the one that each stage produces
abbrev pub stage_parameters : ℕ → List ℕ
stage_parameters n =
    codes "  parameters out ID key" ++ flat_map stage_parameter (stage_numbers n) ++ codes "\n"

-- who sends to whom: A at each odd stage, and B at each even one
abbrev pub stage_roles : ℕ → List ℕ
stage_roles i = if i % 2 == 1 then codes "A -> B" else codes "B -> A"

-- what a message carries: the first stage produces the key and its own parameter; each later one
-- needs the key and the parameter of the stage before it, and produces its own
abbrev pub stage_carried : ℕ → List ℕ
stage_carried i =
    if i == 1 then codes "out ID, out x1"
    else codes "in ID, in x" ++ numeral (i - 1) ++ codes ", out x" ++ numeral i

-- a message: A -> B: yes1[out ID, out x1]
abbrev pub stage_message : List ℕ → ℕ → List ℕ
stage_message answer i =
    codes "  " ++ stage_roles i ++ codes ": " ++ answer ++ numeral i ++
    codes "[" ++ stage_carried i ++ codes "]\n"

-- the two messages of a stage
abbrev pub stage_messages : ℕ → List ℕ
stage_messages i = stage_message (codes "yes") i ++ stage_message (codes "no") i

-- the protocol
abbrev pub stage_protocol : ℕ → List ℕ
stage_protocol n =
    codes "Stage {\n  roles A, B\n" ++ stage_parameters n ++
    flat_map stage_messages (stage_numbers n) ++ codes "}\n"

-- its agents play it under a thousand keys, and n is their seed
abbrev pub stage_agents : ℕ → List ℕ
stage_agents n = codes "%% agents\nkeys 1000\nseed " ++ numeral n ++ codes "\n"

-- the protocol, and then its agents
abbrev pub stage_text : ℕ → List ℕ
stage_text n = stage_protocol n ++ stage_agents n
