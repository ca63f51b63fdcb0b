-- The first event that makes the parameter known, or none does.
use Rattle.std.proofs.Common.{ap, refl, sym, subst, ◌∙◌, [], ◌∷◌}
use Rattle.std.proofs.lemmas.Bool.{false≢true}
use Rattle.bspl_types.specs.History.{history_of, role_of}
use Rattle.bspl_types.specs.Knowledge.{IsKnown, Knows}
use Rattle.role_knowledge.proofs.KnowledgeLemmas.{first_known_at, known_from_first, unknown_more, unknown_of_all}
use Rattle.role_knowledge.proofs.knowledge.knows.Goals as goal
use Rattle.role_knowledge.proofs.knowledge.knows.Goals.{then-role+in_default, else-role}

pub returns-in-Some-clause-first : goal.returns-in-Some-clause-first
returns-in-Some-clause-first c =
    let x = c.args.x.now in
    let is = c.event-item.is in
    first_known_at x c.args.role c.args.events.now c.loop-event.event-index c.event-item.result c.args.key.now c.args.param c.in-Some.value
    c.loop-event-test.true c.loop-event.invariant
    (ap (role_of x) (sym is) ∙ sym c.role.ensures ∙ c.if-role.true)
    (subst (λ e. Knows x (e ∷ []) c.args.key.now c.args.param c.in-Some.value) is c.in-Some.ensures)

pub returns-in-Some-clause-exact : goal.returns-in-Some-clause-exact
returns-in-Some-clause-exact c =
    let x = c.args.x.now in
    (λ _. known_from_first x (history_of x c.args.role c.args.events.now) c.args.key.now c.args.param c.in-Some.value (returns-in-Some-clause-first c), λ _. refl)

pub loop-event-preserved : goal.loop-event-preserved
loop-event-preserved c =
    let x = c.args.x.now in
    let is = c.event-item.is in
    unknown_more x c.args.role c.args.events.now c.loop-event.event-index c.event-item.result c.args.key.now c.args.param c.loop-event-test.true
    (elim c.if-role.branch [
      | then-role+in_default w ↦ λ _. subst (λ e. ¬ IsKnown x (e ∷ []) c.args.key.now c.args.param) is w.in_default.ensures
      | else-role w ↦ λ of_role. absurd (w.if-role.false (c.role.ensures ∙ ap (role_of x) is ∙ of_role))
    ])
    c.loop-event.invariant

pub returns-clause-exact : goal.returns-clause-exact
returns-clause-exact c = (
  λ wrong. absurd (false≢true wrong),
  λ known. absurd (unknown_of_all c.args.x.now c.args.role c.args.events.now c.loop-event.event-index c.args.key.now c.args.param c.loop-event-test.false c.loop-event.invariant known),
)
