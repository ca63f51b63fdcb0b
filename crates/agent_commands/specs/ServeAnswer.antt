-- What `serve` answers on an admitted protocol and the lines for one of its roles.
use Rattle.std.specs.Prelude.{◌≡◌, ℕ, ◌<◌, List, ◌++◌, length, ⊤}
use Rattle.bspl_types.specs.Admission.{IsAdmitted}
use Rattle.bspl_types.specs.declared.expanded.Expanded.{Expanded}
use Rattle.history_audit.specs.HistoryText.{role_line}
use Rattle.local_store.specs.State.{StoreState}
use Rattle.role_server.specs.Served.{Served, first_store}
use Rattle.tool_input.specs.declared.need.Need.TheVariants.{Part}
use Rattle.tool_input.specs.Rules.{CommandRules}
use Rattle.tool_input.specs.declared.parts.Part.TheVariants as part
use Rattle.tool_input.specs.declared.rejection.Rejection.{Rejection}
use Rattle.tool_input.specs.declared.status.Status.{Status}
use Rattle.tool_input.specs.declared.status.Status.TheVariants.{Done}
use Rattle.tool_input.specs.RoleName.{unknown_role}

-- the part begins with the line that names the role, and the lines for the role come after it
pub record OpensRole (x : Expanded) (part : List ℕ) (role : ℕ) (lines : List ℕ) : Type 0 where
  pub known : role < length x.roles
  pub whole : part ≡ role_line x role ++ lines

-- the text has the reply to each of the lines in order, given by a role that begins with this store
abbrev pub AreReplies : StoreState → List ℕ → List ℕ → Type 0
AreReplies store lines text = (end : StoreState) × Served store lines text end

-- the part names a role, and the output has the replies of that role, which begins without events
pub record IsServeAnswer (x : Expanded) (part out : List ℕ) (status : Status) : Type 0 where
  pub role : ℕ
  pub lines : List ℕ
  pub opens : OpensRole x part role lines
  pub replies : AreReplies (first_store x role) lines out
  pub done : status ≡ Done

-- the part is refused: it begins with the line of no role
pub record IsServeRefused (x : Expanded) (part : List ℕ) (rejection : Rejection) : Type 0 where
  pub none : (role : ℕ) (lines : List ℕ) → ¬ OpensRole x part role lines
  pub rejection_is : rejection ≡ unknown_role

-- a part has one answer
abbrev pub OneServeAnswer : Type 0
OneServeAnswer = (x : Expanded) (part out other : List ℕ) (status also : Status) → IsAdmitted x
    → IsServeAnswer x part out status → IsServeAnswer x part other also
    → (out ≡ other) × (status ≡ also)

-- it needs lines for a role, and has one answer
abbrev pub serve_rules : CommandRules
serve_rules = record {
  needs = Part part.Wire;
  answers = IsServeAnswer;
  refuses = IsServeRefused;
  is_determined = ⊤;
}
