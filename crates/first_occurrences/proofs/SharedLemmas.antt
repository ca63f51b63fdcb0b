-- The families that all formulas share, together.
use Rattle.std.proofs.Common.{◌++◌}
use Rattle.std.proofs.lemmas.List.Elements.{All-append}
use Rattle.clause_core.specs.Clause.{Satisfies}
use Rattle.clause_encoding.specs.Families.{delivery_clauses, freshness_clauses, occurrence_clauses, order_clauses, premise_clauses}
use Rattle.first_occurrences.specs.Laws.{DeliveryHolds, FreshnessHolds, OccurrenceHolds, OrderHolds, PremisesHold, SharedClausesHold}

-- what satisfies each family satisfies all
pub satisfies_shared : OrderHolds → OccurrenceHolds → DeliveryHolds → PremisesHold → FreshnessHolds → SharedClausesHold
satisfies_shared order occurrence delivery premises freshness x vars run key v are is_legal reports =
    All-append (Satisfies v) (order_clauses vars ++ occurrence_clauses vars ++ delivery_clauses x vars ++ premise_clauses x vars) (freshness_clauses x vars)
    (All-append (Satisfies v) (order_clauses vars ++ occurrence_clauses vars ++ delivery_clauses x vars) (premise_clauses x vars)
    (All-append (Satisfies v) (order_clauses vars ++ occurrence_clauses vars) (delivery_clauses x vars)
    (All-append (Satisfies v) (order_clauses vars) (occurrence_clauses vars) (order vars run key v reports) (occurrence vars run key v reports))
    (delivery x vars run key v are is_legal reports)) (premises x vars run key v are is_legal reports)) (freshness x vars run key v are is_legal reports)
