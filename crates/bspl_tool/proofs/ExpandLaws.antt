-- The laws of `expand`.
use Rattle.std.proofs.Common.{◌≡◌, ℕ, List, sym, ◌∙◌, subst}
use Rattle.bspl_types.specs.declared.expanded.Expanded.{Expanded}
use Rattle.protocol_expand.specs.Printed.{IsPrinted}
use Rattle.verdict_commands.specs.ExpandAnswer.{expand_rules}
use Rattle.bspl_tool.proofs.ClaimsNothing.{ClaimsNothing}
use Rattle.bspl_tool.proofs.CommandLaws.{CommandLaws, honest_nothing}
use Rattle.bspl_tool.proofs.PrintedLines.{printed_claims_nothing}

-- an expansion has one text
abbrev pub OnePrinting : Type 0
OnePrinting = (x : Expanded) (one other : List ℕ) → IsPrinted x one → IsPrinted x other → one ≡ other

-- an expansion claims nothing, no protocol is refused, and each has one text
pub expand_laws : CommandLaws OnePrinting expand_rules
expand_laws = record {
  honest = λ x part out status n answer. honest_nothing x out n (subst ClaimsNothing (sym answer.printed.layout) (printed_claims_nothing answer.printed.flat));
  names = λ x part r refused. absurd refused;
  distinct = λ once x part out status r admitted answer refused. refused;
  one_refusal = λ once x part r s admitted one other. absurd one;
  one_answer = λ once x part out out' status status' admitted determined one other. (once x out out' one.printed other.printed, one.done ∙ sym other.done);
}
