-- The section of what is found.
use Rattle.std.proofs.Common.{◌≤◌, ◌∷◌, List, length, length-append, refl, ap, subst, arith}
use Rattle.std.proofs.lemmas.Result.{on_ok_weaker}
use Rattle.bspl_types.specs.declared.event.Event.{Event}
use Rattle.bspl_types.specs.declared.expanded.Expanded.{Expanded}
use Rattle.enactment_model.specs.declared.bad_event.BadEvent.{BadEvent}
use Rattle.enactment_model.specs.BadEvent.{IsFirstBadEvent}
use Rattle.page_sections.specs.declared.run_verdict.RunVerdict.TheVariants.{Illegal, Legal}
use Rattle.page_sections.specs.RunVerdict.{IsRunVerdict}
use Rattle.page_sections.specs.RunSection.{illegal_section, legal_section}
use Rattle.page_sections.proofs.run.push_run.Goals as goal

-- the bad event is one of the run
place_within : (x : Expanded) (run : List Event) (bad : BadEvent) → IsFirstBadEvent x run bad → bad.place ≤ length run
place_within x run bad first =
    let all = ap (λ (events : List Event). length events) first.split in
    let place = first.place in
    omega (arith, place, all, length-append first.before (first.event ∷ first.after))

pub push_illegal-requires-clause-within : goal.push_illegal-requires-clause-within
push_illegal-requires-clause-within c =
    let right = subst (IsRunVerdict c.args.a.now c.args.run.now) c.in-Illegal.is c.in_ok-bad.ensures in
    place_within c.args.a.now c.args.run.now c.in-Illegal.bad right.first

pub returns-in-Illegal : goal.returns-in-Illegal
returns-in-Illegal c = on_ok_weaker c.push_illegal.result
    (λ text. record {
      shown = illegal_section c.args.a.now c.args.run.now c.in-Illegal.bad c.args.report.now;
      shows = record {
        verdict = Illegal c.in-Illegal.bad;
        right = subst (IsRunVerdict c.args.a.now c.args.run.now) c.in-Illegal.is c.in_ok-bad.ensures;
        section = refl;
      };
      text = text;
    })
    c.push_illegal.ensures

pub returns-in-Legal : goal.returns-in-Legal
returns-in-Legal c = on_ok_weaker c.push_legal.result
    (λ text. record {
      shown = legal_section c.args.a.now c.args.run.now c.in-Legal.found c.args.report.now;
      shows = record {
        verdict = Legal c.in-Legal.found;
        right = subst (IsRunVerdict c.args.a.now c.args.run.now) c.in-Legal.is c.in_ok-bad.ensures;
        section = refl;
      };
      text = text;
    })
    c.push_legal.ensures
