-- What a live role writes and keeps is determined by what it is given.
use Rattle.std.specs.Prelude.{ℕ, ◌<◌, length}
use Rattle.bspl_types.specs.declared.expanded.Expanded.{Expanded}
use Rattle.bspl_types.specs.Admission.{IsAdmitted}
use Rattle.kept_lines.specs.Replay.{AnswersOnceFrom, KeepsOrStays}
use Rattle.local_store.specs.Consistent.{IsConsistent}
use Rattle.local_store.specs.State.{StoreState}
use Rattle.role_server.specs.Live.{LiveReplies, first_live_store}

-- from each store of a role on, wherever lines lead, a line has one outcome
abbrev pub LiveRepliesAreOne : Type 0
LiveRepliesAreOne = (s : StoreState) → IsConsistent s → AnswersOnceFrom LiveReplies s

-- a line that is kept has its LF, and each other leaves the store
abbrev pub LiveLinesKeepOrStay : Type 0
LiveLinesKeepOrStay = KeepsOrStays LiveReplies

-- the store before the first line is one of a role's stores
abbrev pub FirstLiveStoreIsConsistent : Type 0
FirstLiveStoreIsConsistent = (x : Expanded) (role : ℕ) → IsAdmitted x → role < length x.roles →
    IsConsistent (first_live_store x role)
