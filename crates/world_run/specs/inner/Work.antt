-- How much the agents can still do.
use Rattle.std.specs.Prelude.{ℕ, ◌+◌, ◌*◌, List}
use Rattle.std.specs.List.{sum_by}
use Rattle.bspl_types.specs.declared.envelope.Envelope.{Envelope}
use Rattle.adapter.specs.Desk.{DeskState}

-- the copies that an inbox holds
abbrev pub copies_in : List Envelope → ℕ
copies_in envelopes = sum_by (λ e. e.copies) envelopes

-- five for each event that fits, of which an emission gives at most four to its copies, and one for
-- each copy that is held
abbrev pub work_of : DeskState → ℕ
work_of d = 5 * d.store.spare + copies_in d.inbox.envelopes

-- the work that is left at all desks
abbrev pub work_left : List DeskState → ℕ
work_left desks = sum_by work_of desks
