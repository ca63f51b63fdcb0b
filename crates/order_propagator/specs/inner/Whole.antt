-- What contracts see of a trail with names: the whole formula, and reasons by their names.
use Rattle.std.specs.Prelude.{ℕ, ◌++◌, Bool, Option, Some, List, map}
use Rattle.std.specs.Option.{option_map}
use Rattle.clause_core.specs.declared.literal.Lit.{Lit}
use Rattle.clause_core.specs.Numbering.{live}
use Rattle.order_axioms.specs.declared.order.Order.{Order}
use Rattle.order_axioms.specs.Order.{order_list}
use Rattle.sat_trail.specs.declared.entry.Entry.{Entry}
use Rattle.sat_trail.specs.State.{State}
use Rattle.order_propagator.specs.declared.named_trail.NamedTrail.{NamedTrail}
use Rattle.order_propagator.specs.inner.Names.{name_of}

-- the entry with the name of its reason
abbrev pub renamed : List ℕ → Entry → Entry
renamed names e = record {
  lit = e.lit;
  level = e.level;
  reason = option_map (name_of names) e.reason;
}

-- the clauses of the order, and those at the places
abbrev pub whole_clauses : Order → List (Option (List Lit)) → List ℕ → List (Option (List Lit))
whole_clauses order clauses places =
    map (λ clause. Some clause) (order_list order) ++ map (live clauses) places

-- the state of the whole formula
abbrev pub whole_state : Order → NamedTrail → List ℕ → Bool → State
whole_state order t places ready = record {
  vars = t.trail.vars;
  clauses = whole_clauses order t.trail.clauses places;
  entries = map (renamed t.names) t.trail.entries;
  level = t.trail.level;
  ready = ready;
}
