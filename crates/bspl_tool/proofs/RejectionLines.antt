-- The line of a rejection claims nothing.
use Rattle.std.proofs.Common.{◌≡◌, false, ◌++◌, codes, Option, Some, None, refl}
use Rattle.bspl_types.specs.declared.refusals.What.{What}
use Rattle.bspl_types.specs.declared.refusals.What.TheVariants as what
use Rattle.tool_input.specs.declared.parts.Part.{Part}
use Rattle.tool_input.specs.declared.parts.Part.TheVariants.{Agents, Histories, Log, Run, Wire}
use Rattle.tool_input.specs.declared.rejection.Code.{Code}
use Rattle.tool_input.specs.declared.rejection.Code.TheVariants.{E, F, H, L, P, Q, S, W}
use Rattle.tool_input.specs.declared.rejection.Field.{Field}
use Rattle.tool_input.specs.declared.rejection.Field.TheVariants as field
use Rattle.tool_input.specs.declared.rejection.Rejection.{Rejection}
use Rattle.tool_input.specs.Parts.{part_name}
use Rattle.tool_input.specs.Rejection.{after_space, code_text, rejection_line, what_word}
use Rattle.bspl_tool.proofs.ClaimsNothing.{ClaimsNothing, line_claims_nothing}
use Rattle.bspl_tool.proofs.NameBytes.{name_has_no_lf}
use Rattle.bspl_tool.proofs.RejectedNames.{HasNames, IsNamedField}
use Rattle.bspl_tool.proofs.Unbroken.{decimal_has_no_lf, has_lf, joined_has_none}

-- a code has no LF
code_has_no_lf : (code : Code) → has_lf (code_text code) ≡ false
code_has_no_lf (P n) = decimal_has_no_lf n
code_has_no_lf (E n) = decimal_has_no_lf n
code_has_no_lf (L n) = decimal_has_no_lf n
code_has_no_lf (W n) = decimal_has_no_lf n
code_has_no_lf (S n) = decimal_has_no_lf n
code_has_no_lf (H n) = decimal_has_no_lf n
code_has_no_lf (F n) = decimal_has_no_lf n
code_has_no_lf (Q n) = decimal_has_no_lf n

-- nor the word for what is counted
what_has_no_lf : (counted : What) → has_lf (what_word counted) ≡ false
what_has_no_lf what.Text = refl
what_has_no_lf what.Protocols = refl
what_has_no_lf what.Depth = refl
what_has_no_lf what.Roles = refl
what_has_no_lf what.Parameters = refl
what_has_no_lf what.Keys = refl
what_has_no_lf what.Carried = refl
what_has_no_lf what.Messages = refl

-- nor the name of a part
part_has_no_lf : (part : Part) → has_lf (part_name part) ≡ false
part_has_no_lf Agents = refl
part_has_no_lf Log = refl
part_has_no_lf Run = refl
part_has_no_lf Histories = refl
part_has_no_lf Wire = refl

-- nor a field, whose name is a name
field_has_no_lf : (said : Option Field) → IsNamedField said → has_lf (after_space said) ≡ false
field_has_no_lf None named = refl
field_has_no_lf (Some (field.Number n)) named = decimal_has_no_lf n
field_has_no_lf (Some (field.Name name)) named = name_has_no_lf name named
field_has_no_lf (Some (field.Counted counted)) named = what_has_no_lf counted
field_has_no_lf (Some (field.Part part)) named = part_has_no_lf part

-- so the line begins with `refused`, and is one line
pub rejection_claims_nothing : (r : Rejection) → HasNames r → ClaimsNothing (rejection_line r)
rejection_claims_nothing r names =
    let code = joined_has_none 10 (codes "refused ") (code_text r.code) refl (code_has_no_lf r.code) in
    let first = joined_has_none 10 (codes "refused " ++ code_text r.code) (after_space r.first) code (field_has_no_lf r.first names.first) in
    let second = joined_has_none 10 (codes "refused " ++ code_text r.code ++ after_space r.first) (after_space r.second) first (field_has_no_lf r.second names.second) in
    line_claims_nothing (codes "refused " ++ code_text r.code ++ after_space r.first ++ after_space r.second) second refl
