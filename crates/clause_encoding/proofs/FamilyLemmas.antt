-- The variables of the clauses on messages are among those that there are.
use Rattle.std.proofs.Common.{ℕ, ◌<◌, ◌++◌, length, map, arith}
use Rattle.std.specs.List.{All, flat_map}
use Rattle.std.proofs.lemmas.List.Elements.{All-append, All-cons}
use Rattle.bspl_types.specs.declared.expanded.Expanded.{Expanded}
use Rattle.bspl_types.specs.Expansion.{message_of}
use Rattle.clause_core.specs.Literal.{negated}
use Rattle.clause_encoding.specs.declared.variables.Variables.{Variables}
use Rattle.clause_encoding.specs.Carriers.{fresh_parameters, in_parameters, sender_carriers}
use Rattle.clause_encoding.specs.Families.{delivery_clauses, fresh_clauses_of, freshness_clauses, occurrence_clauses, order_clauses, premise_clause, premise_clauses, shared_clauses}
use Rattle.clause_encoding.specs.Variables.{IsKind, message_numbers, occurs, received, sent, stands_before}
use Rattle.clause_encoding.specs.inner.Implications.{delivery_clause, fresh_clause}
use Rattle.clause_encoding.specs.inner.Kinds.{AreOver, IsOtherKind}
use Rattle.clause_encoding.proofs.ExistenceLemmas.{ClauseExists, all_added, all_images, occurrence_exists, order_exists, two_exist}
use Rattle.clause_encoding.proofs.KindLemmas.{numbers_known, other_kinds}
use Rattle.clause_encoding.proofs.VariableLemmas.{LitExists, before_exists, occurs_exists}

-- the number is that of a message
abbrev pub Known : Expanded → ℕ → Type 0
Known x m = m < length x.messages

-- the emission of a message is a kind
sent_is_kind : (x : Expanded) (vars : Variables) (m : ℕ) → AreOver x vars → Known x m → IsKind vars (sent m)
sent_is_kind x vars m over known = let every = over.every_kind in record { from_one = omega arith; up_to = omega (arith, every, known) }

-- so is its reception
received_is_kind : (x : Expanded) (vars : Variables) (m : ℕ) → AreOver x vars → Known x m → IsKind vars (received m)
received_is_kind x vars m over known = let every = over.every_kind in record { from_one = omega arith; up_to = omega (arith, every, known) }

-- the literal of an emission
pub sent_exists : (x : Expanded) (vars : Variables) (m : ℕ) → AreOver x vars → Known x m → LitExists vars (occurs (sent m))
sent_exists x vars m over known = occurs_exists vars (sent m) over.small (sent_is_kind x vars m over known)

-- and that of a reception
pub received_exists : (x : Expanded) (vars : Variables) (m : ℕ) → AreOver x vars → Known x m → LitExists vars (occurs (received m))
received_exists x vars m over known = occurs_exists vars (received m) over.small (received_is_kind x vars m over known)

-- the literal that another kind comes before an emission
other_exists : (x : Expanded) (vars : Variables) (m kind : ℕ) → AreOver x vars → Known x m → IsOtherKind x m kind → LitExists vars (stands_before vars kind (sent m))
other_exists x vars m kind over known other =
    let every = over.every_kind in
    let up_to = other.up_to in
    before_exists vars kind (sent m) (record { from_one = other.from_one; up_to = omega (arith, every, up_to) }) (sent_is_kind x vars m over known) other.other

-- the delivery clauses
delivery_exists : (x : Expanded) (vars : Variables) → AreOver x vars → All (ClauseExists vars) (delivery_clauses x vars)
delivery_exists x vars over =
    all_images (Known x) (ClauseExists vars) (delivery_clause vars) (message_numbers x)
    (λ m known.
    let sends = sent_is_kind x vars m over known in
    let receives = received_is_kind x vars m over known in
    two_exist vars (negated (occurs (received m))) (stands_before vars (sent m) (received m)) (occurs_exists vars (received m) over.small receives) (before_exists vars (sent m) (received m) sends receives (omega arith)))
    (numbers_known x)

-- a premise clause
premise_exists : (x : Expanded) (vars : Variables) (m p : ℕ) → AreOver x vars → Known x m → ClauseExists vars (premise_clause x vars m p)
premise_exists x vars m p over known =
    let before = λ (kind : ℕ). stands_before vars kind (sent m) in
    All-cons (LitExists vars) (negated (occurs (sent m))) (map before (sender_carriers x m p)) (sent_exists x vars m over known)
    (all_images (IsOtherKind x m) (LitExists vars) before (sender_carriers x m p) (λ kind other. other_exists x vars m kind over known other) (other_kinds x m p))

-- the premise clauses
premises_exist : (x : Expanded) (vars : Variables) → AreOver x vars → All (ClauseExists vars) (premise_clauses x vars)
premises_exist x vars over =
    all_added (Known x) (ClauseExists vars) (λ m. map (premise_clause x vars m) (in_parameters (message_of x m))) (message_numbers x)
    (λ m known. all_images (λ _. Unit {0}) (ClauseExists vars) (premise_clause x vars m) (in_parameters (message_of x m)) (λ p _. premise_exists x vars m p over known) (λ _ _ _. tt))
    (numbers_known x)

-- the freshness clauses of a parameter
fresh_exists : (x : Expanded) (vars : Variables) (m p : ℕ) → AreOver x vars → Known x m → All (ClauseExists vars) (fresh_clauses_of x vars m p)
fresh_exists x vars m p over known =
    all_images (IsOtherKind x m) (ClauseExists vars) (fresh_clause vars m) (sender_carriers x m p)
    (λ kind other. two_exist vars (negated (occurs (sent m))) (negated (stands_before vars kind (sent m))) (sent_exists x vars m over known) (other_exists x vars m kind over known other))
    (other_kinds x m p)

-- the freshness clauses
freshness_exists : (x : Expanded) (vars : Variables) → AreOver x vars → All (ClauseExists vars) (freshness_clauses x vars)
freshness_exists x vars over =
    all_added (Known x) (ClauseExists vars) (λ m. flat_map (fresh_clauses_of x vars m) (fresh_parameters (message_of x m))) (message_numbers x)
    (λ m known. all_added (λ _. Unit {0}) (ClauseExists vars) (fresh_clauses_of x vars m) (fresh_parameters (message_of x m)) (λ p _. fresh_exists x vars m p over known) (λ _ _ _. tt))
    (numbers_known x)

-- the clauses of every formula
pub shared_exist : (x : Expanded) (vars : Variables) → AreOver x vars → All (ClauseExists vars) (shared_clauses x vars)
shared_exist x vars over =
    let Exist = ClauseExists vars in
    let two = All-append Exist (order_clauses vars) (occurrence_clauses vars) (order_exists vars) (occurrence_exists vars over.small) in
    let three = All-append Exist (order_clauses vars ++ occurrence_clauses vars) (delivery_clauses x vars) two (delivery_exists x vars over) in
    let four = All-append Exist (order_clauses vars ++ occurrence_clauses vars ++ delivery_clauses x vars) (premise_clauses x vars) three (premises_exist x vars over) in
    All-append Exist (order_clauses vars ++ occurrence_clauses vars ++ delivery_clauses x vars ++ premise_clauses x vars) (freshness_clauses x vars) four (freshness_exists x vars over)
