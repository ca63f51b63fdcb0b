-- How the clauses and the entries are stored, so that a number or a variable finds them.
use Rattle.std.specs.Prelude.{◌≡◌, ◌≢◌, ℕ, ◌+◌, ◌-◌, ◌*◌, ◌^◌, ◌<◌, ◌≤◌, Bool, true, false, Option, Some, None}
use Rattle.std.specs.Prelude.{List, ◌++◌, length, All, AllPairs, is_some, count_by, take}
use Rattle.std.specs.Prelude.{slice_index_or, if◌then◌else◌}
use Rattle.std.specs.Option.{option_map}
use Rattle.clause_core.specs.declared.literal.Lit.{Lit}
use Rattle.clause_core.specs.Literal.{rank}
use Rattle.sat_trail.specs.declared.entry.Entry.{Entry}
use Rattle.sat_trail.specs.declared.value.Value.{Value}
use Rattle.sat_trail.specs.declared.value.Value.TheVariants.{Unset, False, True}
use Rattle.sat_trail.specs.Entry.{entry_of, values_of}

-- the entries, over the variables from 1 to `vars`
pub record Assigned : Type 0 where
  pub vars : ℕ
  pub entries : List Entry

-- the cell of each variable has the entry that sets it
pub record Agrees (entries : List Entry) (cells : List (Option Entry)) : Type 0 where
  pub found : (v : ℕ) → v < length cells → slice_index_or cells v None ≡ entry_of entries (v + 1)
  pub distinct : AllPairs (λ d e. d.lit.var ≢ e.lit.var) entries
  pub exist : All (λ e. (0 < e.lit.var) × (e.lit.var ≤ length cells)) entries
  pub counted : count_by is_some cells ≡ length entries

-- the value of a variable's literal of this sign, if the variable has the value
abbrev pub value_of : Option Bool → Bool → Value
value_of None positive = Unset
value_of (Some true) positive = if positive then True else False
value_of (Some false) positive = if positive then False else True

-- the value of each literal is that by its variable's cell; those of variable 0 stay unset
pub record HasValues (cells : List (Option Entry)) (values : List Value) : Type 0 where
  pub many : length values ≡ 2 * length cells + 2
  pub none : (l : Lit) → l.var ≡ 0 → slice_index_or values (rank l) Unset ≡ Unset
  pub same : (l : Lit) → 0 < l.var → l.var ≤ length cells →
      let cell = slice_index_or cells (l.var - 1) None in
      slice_index_or values (rank l) Unset
      ≡ value_of (option_map (λ e. e.lit.positive) cell) l.positive

-- the first `len` slots are the entries; there is a slot and a cell for each variable
pub record IsStored
    (slots : List Entry) (len : ℕ) (cells : List (Option Entry)) (values : List Value)
    : Type 0 where
  pub room : length slots ≡ length cells
  pub few : length cells < 2 ^ 31
  pub filled : len ≤ length slots
  pub agrees : Agrees (take len slots) cells
  pub valued : HasValues cells values

-- entries above the level, which were the last ones, were taken out
pub record StartsWith (level : ℕ) (old new : Assigned) : Type 0 where
  pub dropped : List Entry
  pub vars : new.vars ≡ old.vars
  pub whole : old.entries ≡ new.entries ++ dropped
  pub above : All (λ e. level < e.level) dropped

-- while a variable has no value, there are fewer entries than variables, and less than 2 ^ 31
pub record HasRoom (set : Assigned) : Type 0 where
  pub few : set.vars < 2 ^ 31
  pub more : (v : ℕ) → 0 < v → v ≤ set.vars → values_of set.entries v ≡ None →
      length set.entries < set.vars
