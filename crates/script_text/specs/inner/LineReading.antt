-- What is learnt by reading a line, or a part of one.
use Rattle.std.specs.Prelude.{◌≡◌, ◌≢◌, ℕ, List, map, Result, Ok, Err}
use Rattle.std.specs.List.{All}
use Rattle.bspl_types.specs.declared.expanded.Expanded.{Expanded}
use Rattle.agent_scripts.specs.declared.statement.Statement.{Statement}
use Rattle.agent_scripts.specs.Statement.{HasLineForm, IsSentBy, Means}
use Rattle.script_text.specs.declared.line_error.LineError.{LineError}
use Rattle.script_text.specs.declared.line_error.LineError.TheVariants.{Form, Unknown, NoMemory}
use Rattle.bspl_types.specs.Expansion.{message_name}
use Rattle.text_lines.specs.Fields.{Field}

-- the fields say the statement that is read, or have no form of the table, or have one and say
-- nothing of the protocol
abbrev pub ReadsFields : Expanded → List Field → Result Statement LineError → Type 0
ReadsFields x fields (Ok statement) = Means x fields statement
ReadsFields x fields (Err Form) = ¬ HasLineForm x fields
ReadsFields x fields (Err Unknown) =
    HasLineForm x fields × ((s : Statement) → ¬ Means x fields s)
ReadsFields x fields (Err NoMemory) = Unit {0}

-- the fields name messages that the role sends, or there are none with these names
abbrev pub ReadsOrder : Expanded → ℕ → List Field → Result (List ℕ) LineError → Type 0
ReadsOrder x role fields (Ok messages) =
    All (IsSentBy x role) messages × (fields ≡ map (message_name x) messages)
ReadsOrder x role fields (Err Form) = ⊥
ReadsOrder x role fields (Err Unknown) =
    (messages : List ℕ) → All (IsSentBy x role) messages → fields ≢ map (message_name x) messages
ReadsOrder x role fields (Err NoMemory) = Unit {0}
