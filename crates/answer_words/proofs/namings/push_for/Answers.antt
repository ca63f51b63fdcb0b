-- The line is on the protocol that the text declares, if it declares one.
use Rattle.std.proofs.Common.{ℕ, List, refl, subst}
use Rattle.std.proofs.lemmas.Result.{on_ok_weaker}
use Rattle.std.specs.Option.{option_map}
use Rattle.bspl_types.specs.declared.expanded.Expanded.{Expanded}
use Rattle.tool_input.specs.Input.{Declares}
use Rattle.answer_words.specs.Namings.{namings_of}
use Rattle.answer_words.specs.inner.LentNaming.{naming_of}
use Rattle.answer_words.specs.inner.NamingLine.{AddsNaming}
use Rattle.answer_words.proofs.NamingLemmas.{declared_line}
use Rattle.answer_words.proofs.namings.push_for.Goals as goal

pub returns-in_ok-found-in-Some : goal.returns-in_ok-found-in-Some
returns-in_ok-found-in-Some c =
    on_ok_weaker c.push_naming.result (λ grown. declared_line c.args.spelled.now (namings_of c.args.fault c.args.line.now c.args.name.now) c.args.protocol.now c.in-Some.admitted c.expanded.result.now c.as_slice-own.result.now c.args.text.now c.push_naming.new.text (option_map naming_of c.in_ok-found-in-Some.found) c.as_slice-own.ensures c.expanded.ensures.same (rw c.in-Some.is at c.in_ok-admitted.ensures) c.in_ok-found-in-Some.ensures grown) c.push_naming.ensures

pub returns-in-None : goal.returns-in-None
returns-in-None c =
    AddsNaming.undeclared (subst (λ (name : List ℕ). (x : Expanded) → ¬ Declares name c.args.spelled.now x) c.as_slice-own.ensures (rw c.in-None.is at c.in_ok-admitted.ensures)) refl
