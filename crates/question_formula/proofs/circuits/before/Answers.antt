-- What happens has kinds of the protocol.
use Rattle.std.proofs.Common.{ℕ, List, sym, ◌∙◌, subst}
use Rattle.std.specs.List.{All}
use Rattle.clause_encoding.specs.Variables.{IsKind}
use Rattle.question_formula.specs.Happenings.{kinds_of}
use Rattle.question_formula.proofs.OverLemmas.{kinds_are, kinds_of_vars}
use Rattle.question_formula.proofs.circuits.before.Goals as goal

pub some_before-requires-clause-kinds : goal.some_before-requires-clause-kinds
some_before-requires-clause-kinds c =
    let x = c.args.x.now in
    subst (λ (kinds : List ℕ). All (IsKind c.args.vars) kinds) (sym (c.as_slice.ensures ∙ c.in_ok-kinds.ensures))
    (kinds_of_vars x c.args.vars (kinds_of x c.args.one) c.requires.kinds (kinds_are c.carriers_are_kinds.ensures x c.args.one c.requires.one))

pub some_before-requires-clause-others : goal.some_before-requires-clause-others
some_before-requires-clause-others c =
    let x = c.args.x.now in
    subst (λ (kinds : List ℕ). All (IsKind c.args.vars) kinds) (sym (c.as_slice-2.ensures ∙ c.in_ok-others.ensures))
    (kinds_of_vars x c.args.vars (kinds_of x c.args.other) c.requires.kinds (kinds_are c.carriers_are_kinds.ensures x c.args.other c.requires.other))
