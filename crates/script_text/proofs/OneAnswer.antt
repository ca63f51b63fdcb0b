-- A text has one answer.
use Rattle.std.proofs.Common.{◌≡◌, ◌⊎◌, ℕ, List, [], ◌∷◌, sym, ap, subst, ◌∙◌, inl, inr}
use Rattle.std.specs.List.{All}
use Rattle.bspl_types.specs.declared.expanded.Expanded.{Expanded}
use Rattle.bspl_types.specs.ValueSpelling.{ValuesAreSpelledOnce}
use Rattle.agent_scripts.specs.declared.plan.Plan.{Plan}
use Rattle.agent_scripts.specs.declared.refusal.ScriptRefusal.{ScriptRefusal}
use Rattle.agent_scripts.specs.declared.refusal.ScriptRefusal.TheVariants.{Form, Unknown, NoMemory}
use Rattle.agent_scripts.specs.declared.statement.Stated.{Stated}
use Rattle.agent_scripts.specs.declared.statement.Statement.{Statement}
use Rattle.agent_scripts.specs.StatedScript.{IsGivenPlan, IsGivenScript}
use Rattle.agent_scripts.specs.Refusal.{IsFirstOutOfRange, IsRefusedScript, IsScriptText}
use Rattle.agent_scripts.specs.Script.{Script}
use Rattle.agent_scripts.specs.ScriptText.{HasValueInRange, IsBadLine, IsRefusedNext, NamesUndeclared, statements_of}
use Rattle.script_text.specs.Laws.{IsSamePlan, IsSameScript}
use Rattle.script_text.proofs.OneReading.{read_alike}
use Rattle.script_text.proofs.OneOutOfRange.{none_out, one_out}

-- a line is bad, and refused in that way
abbrev IsBad : Expanded → List Stated → List (ℕ × List ℕ) → ScriptRefusal → Type 0
IsBad x stated rest refusal = ((n : ℕ) × (refusal ≡ Form n) × IsFirstOutOfRange x stated n)
    ⊎ (All (HasValueInRange x stated) stated × IsRefusedNext x stated rest refusal)

-- statements give one script
one_script : (x : Expanded) (statements : List Statement) (script other : Script) → IsGivenScript x statements script → IsGivenScript x statements other → IsSameScript script other
one_script x statements script other one two = record {
  keys = one.keys ∙ sym two.keys;
  orders = one.orders ∙ sym two.orders;
  declines = one.declines ∙ sym two.declines;
  rules = one.rules ∙ sym two.rules;
}

-- and one plan
one_plan : (statements : List Statement) (plan other : Plan) → IsGivenPlan statements plan → IsGivenPlan statements other → IsSamePlan plan other
one_plan statements plan other one two = record {
  seed = one.seed ∙ sym two.seed;
  loss = one.loss ∙ sym two.loss;
  repeat = one.repeat ∙ sym two.repeat;
}

-- a text gives one script and one plan
pub gives_one : ValuesAreSpelledOnce → (x : Expanded) (text : List ℕ) (script other : Script) (plan another : Plan) → IsScriptText x text script plan → IsScriptText x text other another → IsSameScript script other × IsSamePlan plan another
gives_one once x text script other plan another one two =
    let same = ap statements_of (read_alike once x text one.stated two.stated [] [] one.read two.read).0 in (
      one_script x (statements_of two.stated) script other (subst (λ all. IsGivenScript x all script) same one.script_given) two.script_given,
      one_plan (statements_of two.stated) plan another (subst (λ all. IsGivenPlan all plan) same one.plan_given) two.plan_given,
    )

-- a line that is out of form is not one of unknown names
form_or_unknown : (x : Expanded) (stated : List Stated) (line : List ℕ) → IsBadLine x stated line → NamesUndeclared x line → ⊥
form_or_unknown x stated line form unknown = elim form [
  | inl none ↦ none unknown.0
  | inr breaks ↦ unknown.1 breaks.0 breaks.1
]

-- the next line is refused in one way
one_refused : (x : Expanded) (stated : List Stated) (rest : List (ℕ × List ℕ)) (r q : ScriptRefusal) → IsRefusedNext x stated rest r → IsRefusedNext x stated rest q → r ≡ q
one_refused x stated [] r q one two = absurd one
one_refused x stated ((n, line) ∷ rest) (Form k) (Form l) one two = ap Form (one.0 ∙ sym two.0)
one_refused x stated ((n, line) ∷ rest) (Unknown k) (Unknown l) one two = ap Unknown (one.0 ∙ sym two.0)
one_refused x stated ((n, line) ∷ rest) (Form k) (Unknown l) one two = absurd (form_or_unknown x stated line one.1 two.1)
one_refused x stated ((n, line) ∷ rest) (Unknown k) (Form l) one two = absurd (form_or_unknown x stated line two.1 one.1)
one_refused x stated ((n, line) ∷ rest) NoMemory q one two = absurd one
one_refused x stated ((n, line) ∷ rest) r NoMemory one two = absurd two

-- a text is refused for one line
pub refused_once : ValuesAreSpelledOnce → (x : Expanded) (text : List ℕ) (r q : ScriptRefusal) → IsRefusedScript x text r → IsRefusedScript x text q → r ≡ q
refused_once once x text r q one two = elim one.bad [
  | inl out ↦ elim bad_too [
    | inl also ↦ out.1 ∙ ap Form (one_out x one.stated out.0 also.0 out.2 also.2) ∙ sym also.1
    | inr next ↦ absurd (none_out x one.stated out.0 next.0 out.2)
  ]
  | inr next ↦ elim bad_too [
    | inl also ↦ absurd (none_out x one.stated also.0 next.0 also.2)
    | inr then ↦ one_refused x one.stated one.rest r q next.1 then.1
  ]
]
  where
    alike : (one.stated ≡ two.stated) × (one.rest ≡ two.rest)
    alike = read_alike once x text one.stated two.stated one.rest two.rest one.read two.read

    bad_too : IsBad x one.stated one.rest q
    bad_too = subst (λ all. IsBad x all one.rest q) (sym alike.0) (subst (λ lines. IsBad x two.stated lines q) (sym alike.1) two.bad)

-- a text that gives a script is not refused
pub not_refused : ValuesAreSpelledOnce → (x : Expanded) (text : List ℕ) (script : Script) (plan : Plan) (refusal : ScriptRefusal) → IsScriptText x text script plan → IsRefusedScript x text refusal → ⊥
not_refused once x text script plan refusal gives refused =
    let alike = read_alike once x text gives.stated refused.stated [] refused.rest gives.read refused.read in
    let bad : IsBad x gives.stated [] refusal = subst (λ all. IsBad x all [] refusal) (sym alike.0) (subst (λ lines. IsBad x refused.stated lines refusal) (sym alike.1) refused.bad) in
    elim bad [
      | inl out ↦ none_out x gives.stated out.0 gives.in_range out.2
      | inr next ↦ next.1
    ]
