-- Which calls of a source or a sink in memory fail.
use Rattle.std.specs.Prelude.{List, ℕ, Bool, ◌==◌, if◌then◌else◌}
use Rattle.std.specs.List.{list_any}
use Rattle.bspl_io.specs.declared.schedule.Schedule.{Schedule}
use Rattle.bspl_io.specs.Faults.{count_after}

-- before the first call
abbrev pub unstarted : ℕ → List ℕ → Schedule
unstarted piece fails = record { piece = piece; fails = fails; calls = 0; faults = 0 }

-- whether the number of the next call is listed, so that it fails
abbrev pub is_due : Schedule → Bool
is_due s = list_any (λ number. number == count_after s.calls) s.fails

-- the call is counted, and a listed one also as a fault
abbrev pub after_call : Schedule → Schedule
after_call s = record s {
  calls = count_after s.calls;
  faults = if is_due s then count_after s.faults else s.faults;
}
