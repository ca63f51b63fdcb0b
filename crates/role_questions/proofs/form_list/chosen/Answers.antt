-- One parameter further, and all of them.
use Rattle.std.proofs.Common.{◌≡◌, ◌+◌, ◌∙◌, List, ap, map, sym}
use Rattle.std.specs.List.{filter}
use Rattle.std.proofs.lemmas.List.{take_all}
use Rattle.bspl_types.specs.declared.protocol.Adornment.TheVariants.{In}
use Rattle.bspl_types.specs.declared.protocol.Carried.{Carried}
use Rattle.bspl_types.specs.Choice.{is_chosen}
use Rattle.role_questions.proofs.ListedLemmas.{listed, listed_more, listed_same}
use Rattle.role_questions.proofs.form_list.chosen.Goals as goal
use Rattle.role_questions.proofs.form_list.chosen.Goals.{then-is_chosen+in_ok-push, else-is_chosen}

pub loop-c-init : goal.loop-c-init
loop-c-init c = c.new-outs.ensures

pub loop-c-preserved : goal.loop-c-preserved
loop-c-preserved c =
    let test = is_chosen c.args.keys.now in
    let f = λ (d : Carried). d.param in
    let xs = c.args.carried.now in
    let i = c.loop-c.c-index in
    let blank : Carried = record { param = 0; adornment = In } in
    (elim c.if-is_chosen.branch as (λ _. c.if-is_chosen.outs ≡ listed test f xs (i + 1)) [
      | then-is_chosen+in_ok-push w ↦ rw (w.outs-is, w.in_ok-push.ensures.ok, c.loop-c.invariant) (sym (listed_more test f xs i blank c.loop-c-test.true (sym c.is_chosen.ensures ∙ w.if-is_chosen.true)))
      | else-is_chosen w ↦ rw w.outs-is (c.loop-c.invariant ∙ sym (listed_same test f xs i blank c.loop-c-test.true (sym c.is_chosen.ensures ∙ w.if-is_chosen.false)))
    ])

pub returns : goal.returns
returns c = c.loop-c.invariant ∙ ap (λ (list : List Carried). map (λ (d : Carried). d.param) (filter (is_chosen c.args.keys.now) list)) (take_all c.loop-c.c-index c.args.carried.now c.loop-c-test.false)
