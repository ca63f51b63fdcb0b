-- What a role writes is determined by what it is given.
use Rattle.std.specs.Prelude.{◌≡◌, ℕ, ◌<◌, List, length}
use Rattle.bspl_types.specs.declared.expanded.Expanded.{Expanded}
use Rattle.bspl_types.specs.Admission.{IsAdmitted}
use Rattle.kept_lines.specs.Replay.{AnswersOnceFrom}
use Rattle.local_store.specs.Consistent.{IsConsistent}
use Rattle.local_store.specs.State.{StoreState}
use Rattle.role_server.specs.Served.{Served, ServesLine, first_store}

-- the bytes and the store before them determine the replies and the store after them
abbrev pub RepliesAreDetermined : Type 0
RepliesAreDetermined =
    (s : StoreState) (bytes out other : List ℕ) (end also : StoreState) → IsConsistent s
    → Served s bytes out end → Served s bytes other also → (out ≡ other) × (end ≡ also)

-- from a role's store on, wherever lines lead, a line has one reply
abbrev pub LinesHaveOneReply : Type 0
LinesHaveOneReply = (s : StoreState) → IsConsistent s → AnswersOnceFrom ServesLine s

-- the store of a role before the first line is one of a role's stores
abbrev pub FirstStoreIsConsistent : Type 0
FirstStoreIsConsistent = (x : Expanded) (role : ℕ) → IsAdmitted x → role < length x.roles
    → IsConsistent (first_store x role)
