-- The run is illegal from its first bad event on, or it is legal with its least conflict.
use Rattle.std.proofs.Common.{List, None, Some, Option, refl}
use Rattle.std.specs.Prelude.{◌↔◌, IfSome, IsNone, MatchOption}
use Rattle.std.proofs.lemmas.Bool.{false≢true}
use Rattle.bspl_types.specs.declared.event.Event.{Event}
use Rattle.bspl_types.specs.declared.expanded.Expanded.{Expanded}
use Rattle.enactment_model.specs.declared.conflicts.Conflict.{Conflict}
use Rattle.enactment_model.specs.LeastConflict.{IsLeastConflict}
use Rattle.enactment_model.specs.Safety.{HasNoConflict}
use Rattle.page_sections.proofs.run_verdict.verdict_along.Goals as goal

-- what was found of conflicts
conflict_of : (x : Expanded) (run : List Event) (found : Option Conflict) → (IsNone found ↔ HasNoConflict x run) → IfSome found (IsLeastConflict x run) → MatchOption found (HasNoConflict x run) (IsLeastConflict x run)
conflict_of x run None none least = none.0 refl
conflict_of x run (Some found) none least = least

pub returns-in-Err : goal.returns-in-Err
returns-in-Err c =
    let exact = rw (c.in-Err.is, c.expanded.ensures.same) at c.in_ok-answer.ensures.exact in
    record { illegal = λ legal. false≢true (exact.1 legal); first = rw (c.in-Err.is, c.expanded.ensures.same) at c.in_ok-answer.ensures.bad }

pub returns-in_ok-found-in-Ok : goal.returns-in_ok-found-in-Ok
returns-in_ok-found-in-Ok c =
    let exact = rw (c.in-Ok.is, c.expanded.ensures.same) at c.in_ok-answer.ensures.exact in
    let none = rw c.expanded-in-Ok.ensures.same at c.in_ok-found-in-Ok.ensures.none in
    let least = rw c.expanded-in-Ok.ensures.same at c.in_ok-found-in-Ok.ensures.least in
    record {
      legal = record { fits = c.requires; legal = exact.0 refl };
      conflict = conflict_of c.args.a.now c.args.index.now c.in_ok-found-in-Ok.found none least;
    }
