-- What a page is of its section, and of what an input gives.
use Rattle.std.proofs.Common.{◌≡◌, ℕ, List, ◌++◌, Some, inl, inr, sym, ap, ◌∙◌}
use Rattle.std.proofs.lemmas.Grind.{flat_map-append}
use Rattle.agent_scripts.specs.declared.plan.Plan.{Plan}
use Rattle.agent_scripts.specs.Refusal.{IsScriptText}
use Rattle.agent_scripts.specs.Script.{Script}
use Rattle.ask_commands.specs.declared.rule_list.AskedRules.{AskedRules}
use Rattle.ask_commands.specs.AskedRules.{AreAskedRules}
use Rattle.ask_commands.specs.RulesAnswer.{IsRulesRefused}
use Rattle.bspl_types.specs.declared.expanded.Expanded.{Expanded}
use Rattle.html.specs.Fragment.{Fragment, as_html, fragment_text}
use Rattle.protocol_rules.specs.declared.rule.Rule.{Rule}
use Rattle.protocol_rules.specs.Rules.{AreRulesOf}
use Rattle.tool_input.specs.declared.parts.Part.TheVariants as parts
use Rattle.tool_input.specs.declared.answer_error.AnswerError.{AnswerError}
use Rattle.tool_input.specs.declared.answer_error.AnswerError.TheVariants as error
use Rattle.tool_input.specs.Error.{RejectsFor}
use Rattle.tool_input.specs.NeededPart.{HasPart}
use Rattle.tool_input.specs.Parts.{protocol_text}
use Rattle.program_frame.specs.declared.reply.Reply.{Reply}
use Rattle.tool_input.specs.declared.status.Status.{Status}
use Rattle.verdict.specs.declared.outcome.Verdicts.{Verdicts}
use Rattle.more_commands.specs.PageAnswer.{IsPageAnswer, IsPageRefused, RefusesBeside, ShowsGiven, ShowsInput}
use Rattle.more_commands.specs.inner.Beside.{ShowsBeside}
use Rattle.more_commands.specs.Given.{Agents, Given}

-- it is the page of whatever the section shows
abbrev pub PageOf : Expanded → Verdicts → List Rule → List ℕ → Reply Status → Type 0
PageOf x v rules section reply =
    (given : Given) (shown : List Fragment) → ShowsGiven x v.safety given shown → section ≡ as_html shown → IsPageAnswer x rules given reply.text reply.status

-- the page of the agents that the input gives
pub agents_shown : (x : Expanded) (input part : List ℕ) (rules : List Rule) (script : Script) (plan : Plan) (reply : Reply Status) → HasPart (Some parts.Agents) input part → IsScriptText x part script plan → IsPageAnswer x rules (Agents script plan) reply.text reply.status → ShowsBeside x rules input reply.text reply.status
agents_shown x input part rules script plan reply has read answer = record { given = Agents script plan; gives = record { part = part; has_part = has; read = read }; answer = answer }

-- it is the page of the input, if the rules are those of its text
pub input_shown : (x : Expanded) (input : List ℕ) (rules : List Rule) (reply : Reply Status) → AreRulesOf (protocol_text input) x.name rules → ShowsBeside x rules input reply.text reply.status → ShowsInput x input reply.text reply.status
input_shown x input rules reply of_text shows = record { rules = rules; of_text = of_text; given = shows.given; gives = shows.gives; answer = shows.answer }

-- bad rules refuse the page
pub refused_for_rules : (x : Expanded) (input : List ℕ) (e : AnswerError) → RejectsFor (IsRulesRefused x input) e → RejectsFor (IsPageRefused x input) e
refused_for_rules x input (error.Rejected r) is = inl is
refused_for_rules x input error.NoMemory is = is

-- and so does a bad line of what is given beside good ones
pub refused_beside : (x : Expanded) (input : List ℕ) (asked : AskedRules) → AreAskedRules x input asked → (e : AnswerError) → RejectsFor (RefusesBeside x input) e → RejectsFor (IsPageRefused x input) e
refused_beside x input asked are (error.Rejected r) is = inr (record { asked = asked; are_asked = are; refused = is })
refused_beside x input asked are error.NoMemory is = is

-- two sections, one after the other, are one
pub one_section : (ruled shown : List Fragment) (section both : List ℕ) → both ≡ as_html ruled ++ section → section ≡ as_html shown → both ≡ as_html (ruled ++ shown)
one_section ruled shown section both is section_is = is ∙ ap (λ (ys : List ℕ). as_html ruled ++ ys) section_is ∙ sym (flat_map-append fragment_text ruled shown)
