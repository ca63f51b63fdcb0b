-- Which numbers the text of a log may have.
use Rattle.std.specs.Prelude.{ℕ, ◌<◌, ◌≤◌, All}
use Rattle.refutation_log.specs.declared.refutation.Link.{Link}
use Rattle.refutation_log.specs.declared.refutation.Chain.{Chain}
use Rattle.refutation_log.specs.declared.refutation.Log.{Log}
use Rattle.refutation_log.specs.declared.refutation.Entry.{Entry}
use Rattle.refutation_log.specs.declared.refutation.Entry.TheVariants.{Step, Drop}
use Rattle.refutation_log.specs.Entries.{entries}

-- the numbers that a text may have are from 1 to 2,147,483,647
pub record IsInRange (n : ℕ) : Type 0 where
  pub low : 0 < n
  pub high : n ≤ 2147483647

-- the numbers of a link are in range
pub record LinkInRange (link : Link) : Type 0 where
  pub pivot : IsInRange link.pivot.var
  pub clause : IsInRange link.clause

-- the numbers of a step are in range
pub record StepInRange (step : Chain) : Type 0 where
  pub first : IsInRange step.first
  pub links : All LinkInRange step.links

-- the numbers of an entry are in range
abbrev pub EntryInRange : Entry → Type 0
EntryInRange (Step step) = StepInRange step
EntryInRange (Drop numbers) = All IsInRange numbers

-- the numbers that a log's steps and removals name are in range
abbrev pub LogInRange : Log → Type 0
LogInRange log = All EntryInRange (entries log)
