-- The clauses that liveness adds: their variables exist, and they are few.
use Rattle.std.proofs.Common.{ℕ, ◌+◌, ◌<◌, ◌≤◌, List, [], ◌∷◌, ◌++◌, length, map, refl, arith, length-append}
use Rattle.std.specs.Prelude.{◌==◌}
use Rattle.std.specs.List.{All, filter}
use Rattle.std.proofs.lemmas.List.{length-map}
use Rattle.std.proofs.lemmas.List.Elements.{All-append, All-cons, All-filter, All-weaker}
use Rattle.std.proofs.lemmas.List.FromFn.{length-enumerate_from}
use Rattle.bspl_types.specs.declared.expanded.Expanded.{Expanded}
use Rattle.bspl_types.specs.Expansion.{message_of}
use Rattle.clause_core.specs.declared.literal.Lit.{Lit}
use Rattle.clause_core.specs.Literal.{negated, positive}
use Rattle.clause_encoding.specs.declared.wants.Want.{Want}
use Rattle.clause_encoding.specs.Carriers.{binds, fresh_parameters, sender_carriers}
use Rattle.clause_encoding.specs.Formula.{liveness_variables}
use Rattle.clause_encoding.specs.Rest.{arrival_clauses, blockers, exhaustion_clause, exhaustion_clauses, public_values, rest_clauses, unbound_clauses, unbound_clauses_of, unbound_variables, want_clauses, want_clauses_of, want_variables, wanted_by, wants_of}
use Rattle.clause_encoding.specs.Variables.{kind_count, message_numbers, occurs, received, sent}
use Rattle.clause_encoding.specs.inner.Implications.{arrival_clause}
use Rattle.clause_encoding.specs.inner.Kinds.{AreOver, IsOtherKind}
use Rattle.clause_encoding.specs.inner.Lacking.{absence_clause}
use Rattle.clause_encoding.proofs.ClauseLengths.{few_added, few_messages, few_sender_carriers}
use Rattle.clause_encoding.proofs.ExistenceLemmas.{ClauseExists, all_added, all_images, two_exist}
use Rattle.clause_encoding.proofs.FamilyLemmas.{Known, received_exists, sent_exists}
use Rattle.clause_encoding.proofs.FilterLemmas.{all_one}
use Rattle.clause_encoding.proofs.KindLemmas.{numbers_known, other_kinds}
use Rattle.clause_encoding.proofs.LackingLemmas.{IsOfMessage, few_values, few_wants, wants_known}
use Rattle.clause_encoding.proofs.LengthLemmas.{length_filter}
use Rattle.clause_encoding.proofs.RangeLemmas.{IsNumbered, numbered}
use Rattle.clause_encoding.proofs.VariableLemmas.{LitExists, occurs_exists}

-- the variables of the liveness formula are over the protocol's kinds, and small
pub liveness_over : (x : Expanded) → AreOver x (liveness_variables x)
liveness_over x =
    let messages = x.shape.counts.few_messages in
    let values = few_values x in
    let wants = few_wants x in
    record {
      every_kind = refl;
      small = record { few_kinds = omega (arith, messages); occurrences_first = omega arith; few_others = omega (arith, messages, values, wants) };
    }

-- the literal's variable exists
abbrev Exists : Expanded → Lit → Type 0
Exists x l = LitExists (liveness_variables x) l

-- the variables of the clause exist
abbrev AllExist : Expanded → List Lit → Type 0
AllExist x lits = ClauseExists (liveness_variables x) lits

-- a variable between the kinds and the order exists
between_exists : (x : Expanded) (v : ℕ) → 0 < v → v ≤ (liveness_variables x).order_base → Exists x (positive v)
between_exists x v from to = (from, omega (arith, to))

-- the literal of another kind
other_exists : (x : Expanded) (m kind : ℕ) → IsOtherKind x m kind → Exists x (occurs kind)
other_exists x m kind other = occurs_exists (liveness_variables x) kind (liveness_over x).small (record { from_one = other.from_one; up_to = other.up_to })

-- the clause of a variable and a kind
absence_exists : (x : Expanded) (v kind : ℕ) → Exists x (positive v) → Exists x (occurs kind) → AllExist x (absence_clause v kind)
absence_exists x v kind = two_exist (liveness_variables x) (negated (positive v)) (negated (occurs kind))

-- the variable exists, and so does the message of what is numbered
abbrev IsWanted : Expanded → ℕ × Want → Type 0
IsWanted x pair = Exists x (positive pair.0) × IsOfMessage x pair.1

-- of each parameter that may be lacking
wanted : (x : Expanded) → All (IsWanted x) (want_variables x)
wanted x =
    let first = kind_count x + length (public_values x) + 1 in
    All-weaker (IsNumbered (IsOfMessage x) first (first + length (wants_of x))) (IsWanted x)
    (λ pair is. let from = is.0 in let to = is.1 in (between_exists x pair.0 (omega (arith, from)) (omega (arith, to)), is.2))
    (want_variables x) (numbered (IsOfMessage x) first (wants_of x) (wants_known x))

-- the variable of each parameter that may be unbound exists
values_exist : (x : Expanded) → All (λ pair. Exists x (positive pair.0)) (unbound_variables x)
values_exist x =
    let first = kind_count x + 1 in
    All-weaker (IsNumbered (λ _. Unit {0}) first (first + length (public_values x))) (λ pair. Exists x (positive pair.0))
    (λ pair is. let from = is.0 in let to = is.1 in between_exists x pair.0 (omega (arith, from)) (omega (arith, to)))
    (unbound_variables x) (numbered (λ _. Unit {0}) first (public_values x) (λ _ _ _. tt))

-- the clauses of arrival
arrival_exists : (x : Expanded) → All (AllExist x) (arrival_clauses x)
arrival_exists x =
    let vars = liveness_variables x in
    all_images (Known x) (AllExist x) arrival_clause (message_numbers x)
    (λ m known. two_exist vars (negated (occurs (sent m))) (occurs (received m)) (sent_exists x vars m (liveness_over x) known) (received_exists x vars m (liveness_over x) known))
    (numbers_known x)

-- the literals of what blocks a message
blockers_exist : (x : Expanded) (m : ℕ) → All (Exists x) (map occurs (blockers x m))
blockers_exist x m =
    all_images (IsOtherKind x m) (Exists x) occurs (blockers x m) (other_exists x m)
    (all_added (λ _. Unit {0}) (IsOtherKind x m) (sender_carriers x m) (fresh_parameters (message_of x m)) (λ p _. other_kinds x m p) (λ _ _ _. tt))

-- the literals of what its sender may lack
wanted_exist : (x : Expanded) (m : ℕ) → All (Exists x) (map positive (wanted_by x m))
wanted_exist x m =
    let number = λ (pair : ℕ × Want). pair.0 in
    let own = λ (pair : ℕ × Want). pair.1.message == m in
    all_images (λ v. Exists x (positive v)) (Exists x) positive (wanted_by x m) (λ v exists. exists)
    (all_images (IsWanted x) (λ v. Exists x (positive v)) number (filter own (want_variables x)) (λ pair is. is.0) (All-filter own (IsWanted x) (want_variables x) (wanted x)))

-- the clause of exhaustion of a message
exhaustion_exists : (x : Expanded) (m : ℕ) → Known x m → AllExist x (exhaustion_clause x m)
exhaustion_exists x m known =
    All-append (Exists x) (occurs (sent m) ∷ map positive (wanted_by x m)) (map occurs (blockers x m))
    (All-cons (Exists x) (occurs (sent m)) (map positive (wanted_by x m)) (sent_exists x (liveness_variables x) m (liveness_over x) known) (wanted_exist x m))
    (blockers_exist x m)

-- the clauses of exhaustion
exhaustions_exist : (x : Expanded) → All (AllExist x) (exhaustion_clauses x)
exhaustions_exist x = all_images (Known x) (AllExist x) (exhaustion_clause x) (message_numbers x) (exhaustion_exists x) (numbers_known x)

-- the clauses of what is lacking
wants_exist : (x : Expanded) → All (AllExist x) (want_clauses x)
wants_exist x =
    all_added (IsWanted x) (AllExist x) (want_clauses_of x) (want_variables x)
    (λ pair is. all_images (IsOtherKind x pair.1.message) (AllExist x) (absence_clause pair.0) (sender_carriers x pair.1.message pair.1.param)
    (λ kind other. absence_exists x pair.0 kind is.0 (other_exists x pair.1.message kind other)) (other_kinds x pair.1.message pair.1.param))
    (wanted x)

-- the clauses of what is unbound
unbound_exist : (x : Expanded) → All (AllExist x) (unbound_clauses x)
unbound_exist x =
    all_added (λ pair. Exists x (positive pair.0)) (AllExist x) (unbound_clauses_of x) (unbound_variables x)
    (λ pair exists.
    let test = λ (m : ℕ). binds (message_of x m) pair.1 in
    all_images (Known x) (AllExist x) (λ m. absence_clause pair.0 (sent m)) (filter test (message_numbers x))
    (λ m known. absence_exists x pair.0 (sent m) exists (sent_exists x (liveness_variables x) m (liveness_over x) known))
    (All-filter test (Known x) (message_numbers x) (numbers_known x)))
    (values_exist x)

-- the literals of the last clause
abbrev last_lits : Expanded → List Lit
last_lits x = map (λ pair. positive pair.0) (unbound_variables x)

-- the last clause
last_exists : (x : Expanded) → AllExist x (last_lits x)
last_exists x = all_images (λ pair. Exists x (positive pair.0)) (Exists x) (λ pair. positive pair.0) (unbound_variables x) (λ pair exists. exists) (values_exist x)

-- all clauses that liveness adds
pub rest_exist : (x : Expanded) → All (ClauseExists (liveness_variables x)) (rest_clauses x)
rest_exist x =
    let two = All-append (AllExist x) (arrival_clauses x) (exhaustion_clauses x) (arrival_exists x) (exhaustions_exist x) in
    let three = All-append (AllExist x) (arrival_clauses x ++ exhaustion_clauses x) (want_clauses x) two (wants_exist x) in
    let four = All-append (AllExist x) (arrival_clauses x ++ exhaustion_clauses x ++ want_clauses x) (unbound_clauses x) three (unbound_exist x) in
    All-append (AllExist x) (arrival_clauses x ++ exhaustion_clauses x ++ want_clauses x ++ unbound_clauses x) (last_lits x ∷ []) four (all_one (AllExist x) (last_lits x) (last_exists x))

-- the clauses of what is lacking are few
few_want_clauses : (x : Expanded) → length (want_clauses x) ≤ 131072
few_want_clauses x =
    few_added (want_clauses_of x) 128 1024 131072 (want_variables x)
    (λ pair. omega (arith, length-map (sender_carriers x pair.1.message pair.1.param) (absence_clause pair.0), few_sender_carriers x pair.1.message pair.1.param))
    (omega (arith, length-enumerate_from (kind_count x + length (public_values x) + 1) (wants_of x), few_wants x)) (omega arith)

-- the clauses of what is unbound are few
few_unbound_clauses : (x : Expanded) → length (unbound_clauses x) ≤ 4096
few_unbound_clauses x =
    few_added (unbound_clauses_of x) 64 64 4096 (unbound_variables x)
    (λ pair.
    let test = λ (m : ℕ). binds (message_of x m) pair.1 in
    omega (arith, length-map (filter test (message_numbers x)) (λ m. absence_clause pair.0 (sent m)), length_filter test (message_numbers x), few_messages x))
    (omega (arith, length-enumerate_from (kind_count x + 1) (public_values x), few_values x)) (omega arith)

-- all clauses that liveness adds are few
pub few_rest : (x : Expanded) → length (rest_clauses x) ≤ 200000
few_rest x =
    let two = arrival_clauses x ++ exhaustion_clauses x in
    let three = two ++ want_clauses x in
    let four = three ++ unbound_clauses x in
    omega (
      arith,
      few_messages x,
      length-map (message_numbers x) arrival_clause,
      length-map (message_numbers x) (exhaustion_clause x),
      few_want_clauses x,
      few_unbound_clauses x,
      length-append (arrival_clauses x) (exhaustion_clauses x),
      length-append two (want_clauses x),
      length-append three (unbound_clauses x),
      length-append four (last_lits x ∷ []),
    )
