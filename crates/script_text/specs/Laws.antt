-- A text has one reading. Each statement is the contract of a public function.
use Rattle.std.specs.Prelude.{◌≡◌, ℕ, List, map}
use Rattle.bspl_types.specs.declared.expanded.Expanded.{Expanded}
use Rattle.bspl_types.specs.Admission.{IsAdmitted}
use Rattle.agent_scripts.specs.declared.plan.Plan.{Plan}
use Rattle.agent_scripts.specs.declared.refusal.ScriptRefusal.{ScriptRefusal}
use Rattle.agent_scripts.specs.Refusal.{IsRefusedScript, IsScriptText}
use Rattle.agent_scripts.specs.Script.{Script}

-- both scripts have the same keys and orders, decline the same and have the same rules
pub record IsSameScript (s t : Script) : Type 0 where
  pub keys : s.keys ≡ t.keys
  pub orders : s.orders ≡ t.orders
  pub declines : map {B = ℕ × ℕ} (λ d. (d.message, d.every)) s.declines
      ≡ map (λ d. (d.message, d.every)) t.declines
  pub rules : s.rules ≡ t.rules

-- both plans have the same settings
pub record IsSamePlan (p q : Plan) : Type 0 where
  pub seed : p.seed ≡ q.seed
  pub loss : p.loss ≡ q.loss
  pub repeat : p.repeat ≡ q.repeat

-- a text gives one script and one plan at most
abbrev pub OneScript : Type 0
OneScript =
    (x : Expanded) (text : List ℕ) (script other : Script) (plan another : Plan) → IsAdmitted x →
    IsScriptText x text script plan → IsScriptText x text other another →
    IsSameScript script other × IsSamePlan plan another

-- it is refused for one line at most
abbrev pub OneRefusal : Type 0
OneRefusal =
    (x : Expanded) (text : List ℕ) (refusal other : ScriptRefusal) → IsAdmitted x →
    IsRefusedScript x text refusal → IsRefusedScript x text other → refusal ≡ other

-- a text that gives a script is not refused
abbrev pub ScriptIsNotRefused : Type 0
ScriptIsNotRefused =
    (x : Expanded) (text : List ℕ) (script : Script) (plan : Plan) (refusal : ScriptRefusal) →
    IsAdmitted x → IsScriptText x text script plan → ¬ IsRefusedScript x text refusal
