-- A later stage needs the parameter of the stage before it.
use Rattle.std.proofs.Common.{◌≡◌, ◌++◌, ◌-◌, ℕ, List, codes, ap, ◌∙◌, subst}
use Rattle.std.specs.Prelude.{OnOk}
use Rattle.list_base.specs.Numeral.{numeral}
use Rattle.workload.specs.Stage.{stage_carried, stage_parameter}
use Rattle.workload.proofs.StageLemmas.{carried_later}
use Rattle.workload.proofs.stage.push_carried.Goals as goal

pub returns : goal.returns
returns c =
    let before = c.args.text.now in
    let i = c.args.i in
    let known : c.push_number.new.text ≡ (before ++ codes "in ID, in x") ++ numeral (i - 1) =
    c.in_ok-push_number.ensures ∙ ap (λ (ys : List ℕ). ys ++ numeral (i - 1)) c.in_ok-append.ensures.ok in
    let all : c.push_number.new.text ++ stage_parameter i ≡ before ++ stage_carried i =
    ap (λ (ys : List ℕ). ys ++ stage_parameter i) known ∙ carried_later before i c.if-i-eq1.false in
    subst (λ (ys : List ℕ). OnOk c.push_parameter.result (c.push_parameter.new.text ≡ ys)) all c.push_parameter.ensures
