-- How many clauses each family has at most.
use Rattle.std.proofs.Common.{ℕ, ◌+◌, ◌-◌, ◌*◌, ◌≤◌, Bool, List, [], ◌∷◌, ◌++◌, length, map, inl, inr, cond, sym, subst, arith, length-append}
use Rattle.std.specs.Prelude.{not, ◌==◌}
use Rattle.std.specs.List.{filter, flat_map}
use Rattle.std.proofs.Math.Nat.{mul-le-mul}
use Rattle.std.proofs.lemmas.Bool.{cases_lt, cond_both}
use Rattle.std.proofs.lemmas.List.{length-map, get_or_past}
use Rattle.std.proofs.lemmas.List.FromFn.{length-range_with_len}
use Rattle.bspl_types.specs.declared.expanded.Expanded.{Expanded}
use Rattle.bspl_types.specs.declared.protocol.Carried.{Carried}
use Rattle.bspl_types.specs.declared.protocol.Message.{Message}
use Rattle.bspl_types.specs.Expansion.{message_of, no_message}
use Rattle.clause_encoding.specs.declared.variables.Variables.{Variables}
use Rattle.clause_encoding.specs.Carriers.{binds, carriers, fresh_parameters, in_parameters, is_in, kinds_at, sender_carriers}
use Rattle.clause_encoding.specs.Families.{delivery_clauses, fresh_clauses_of, freshness_clauses, occurrence_clauses, order_clauses, order_of_three, premise_clause, premise_clauses, shared_clauses}
use Rattle.clause_encoding.specs.Variables.{kinds_following, message_numbers, received, sent}
use Rattle.clause_encoding.specs.inner.Implications.{delivery_clause, fresh_clause}
use Rattle.clause_encoding.specs.inner.Occurrence.{occurrence_clause}
use Rattle.clause_encoding.specs.inner.Order.{order_of_one, order_of_two}
use Rattle.clause_encoding.proofs.LengthLemmas.{length_filter, length_flat_map}

-- a list of few items that each add few is short
pub few_added : {X A : Type 0} (f : X → List A) (most count bound : ℕ) (xs : List X) → ((x : X) → length (f x) ≤ most) → length xs ≤ count → most * count ≤ bound → length (flat_map f xs) ≤ bound
few_added f most count bound xs each few product =
    let all = length_flat_map f most xs each in
    let larger : most * length xs ≤ most * count = mul-le-mul (let same : most ≤ most = omega arith in same) few in
    omega (arith, all, larger, product)

-- few kinds come after one
few_kinds : (vars : Variables) (kind : ℕ) → vars.kinds ≤ 128 → length (kinds_following vars kind) ≤ 128
few_kinds vars kind few = omega (arith, length-range_with_len (kind + 1) (vars.kinds - kind), few)

-- the order clauses are few
few_order : (vars : Variables) → vars.kinds ≤ 128 → length (order_clauses vars) ≤ 4194304
few_order vars few =
    few_added (order_of_one vars) 32768 128 4194304 (kinds_following vars 0)
    (λ i. few_added (order_of_two vars i) 256 128 32768 (kinds_following vars i)
    (λ j. few_added (order_of_three vars i j) 2 128 256 (kinds_following vars j) (λ k. omega arith) (few_kinds vars j few) (omega arith))
    (few_kinds vars i few) (omega arith))
    (few_kinds vars 0 few) (omega arith)

-- the occurrence clauses are few
few_occurrence : (vars : Variables) → vars.kinds ≤ 128 → length (occurrence_clauses vars) ≤ 16384
few_occurrence vars few =
    few_added (λ i. map (occurrence_clause vars i) (filter (λ j. not (j == i)) (kinds_following vars 0))) 128 128 16384 (kinds_following vars 0)
    (λ i.
    let others = filter (λ (j : ℕ). not (j == i)) (kinds_following vars 0) in
    let kept = length_filter (λ (j : ℕ). not (j == i)) (kinds_following vars 0) in
    let kinds = few_kinds vars 0 few in
    omega (arith, length-map others (occurrence_clause vars i), kept, kinds))
    (few_kinds vars 0 few) (omega arith)

-- there are few messages
pub few_messages : (x : Expanded) → length (message_numbers x) ≤ 64
few_messages x = let few = x.shape.counts.few_messages in omega (arith, length-range_with_len 0 (length x.messages), few)

-- a message carries few parameters
few_carried : (x : Expanded) (m : ℕ) → length (message_of x m).carried ≤ 16
few_carried x m = elim (cases_lt m (length x.messages)) [
  | inl known ↦ (x.shape.each_message m no_message known).few
  | inr past ↦ subst (λ (message : Message). length message.carried ≤ 16) (sym (get_or_past x.messages m no_message past)) (omega arith)
]

-- it has few parameters that pass a test
pub few_params : (x : Expanded) (m : ℕ) (p : Carried → Bool) → length (map (λ (c : Carried). c.param) (filter p (message_of x m).carried)) ≤ 16
few_params x m p =
    let carried = (message_of x m).carried in
    omega (arith, length-map (filter p carried) (λ (c : Carried). c.param), length_filter p carried, few_carried x m)

-- a message has few kinds at a role
few_kinds_at : (x : Expanded) (role m : ℕ) → length (kinds_at x role m) ≤ 2
few_kinds_at x role m =
    let Few = λ (kinds : List ℕ). length kinds ≤ 1 in
    let at_sender = cond_both ((message_of x m).sender == role) (sent m ∷ []) [] Few (λ _. omega arith) (λ _. omega arith) in
    let at_receiver = cond_both ((message_of x m).receiver == role) (received m ∷ []) [] Few (λ _. omega arith) (λ _. omega arith) in
    omega (arith, at_sender, at_receiver, length-append (cond ((message_of x m).sender == role) (sent m ∷ []) []) (cond ((message_of x m).receiver == role) (received m ∷ []) []))

-- few kinds at the sender make a parameter known
pub few_sender_carriers : (x : Expanded) (m p : ℕ) → length (sender_carriers x m p) ≤ 128
few_sender_carriers x m p =
    let role = (message_of x m).sender in
    let test = λ (n : ℕ). binds (message_of x n) p in
    let kept = length_filter test (message_numbers x) in
    let messages = few_messages x in
    let all = few_added (kinds_at x role) 2 64 128 (filter test (message_numbers x)) (few_kinds_at x role) (omega (arith, kept, messages)) (omega arith) in
    omega (arith, all, length_filter (λ (kind : ℕ). not (kind == sent m)) (carriers x role p))

-- the delivery clauses are few
few_delivery : (x : Expanded) (vars : Variables) → length (delivery_clauses x vars) ≤ 64
few_delivery x vars = omega (arith, length-map (message_numbers x) (delivery_clause vars), few_messages x)

-- the premise clauses are few
few_premises : (x : Expanded) (vars : Variables) → length (premise_clauses x vars) ≤ 1024
few_premises x vars =
    few_added (λ m. map (premise_clause x vars m) (in_parameters (message_of x m))) 16 64 1024 (message_numbers x)
    (λ m. let params = few_params x m (λ c. is_in c.adornment) in omega (arith, length-map (in_parameters (message_of x m)) (premise_clause x vars m), params))
    (few_messages x) (omega arith)

-- the freshness clauses are few
few_freshness : (x : Expanded) (vars : Variables) → length (freshness_clauses x vars) ≤ 131072
few_freshness x vars =
    few_added (λ m. flat_map (fresh_clauses_of x vars m) (fresh_parameters (message_of x m))) 2048 64 131072 (message_numbers x)
    (λ m. few_added (fresh_clauses_of x vars m) 128 16 2048 (fresh_parameters (message_of x m))
    (λ p. omega (arith, length-map (sender_carriers x m p) (fresh_clause vars m), few_sender_carriers x m p))
    (few_params x m (λ c. not (is_in c.adornment))) (omega arith))
    (few_messages x) (omega arith)

-- the clauses of every formula are few
pub few_shared : (x : Expanded) (vars : Variables) → vars.kinds ≤ 128 → length (shared_clauses x vars) ≤ 4342848
few_shared x vars few =
    let two = order_clauses vars ++ occurrence_clauses vars in
    let three = two ++ delivery_clauses x vars in
    let four = three ++ premise_clauses x vars in
    omega (
      arith,
      few_order vars few,
      few_occurrence vars few,
      few_delivery x vars,
      few_premises x vars,
      few_freshness x vars,
      length-append (order_clauses vars) (occurrence_clauses vars),
      length-append two (delivery_clauses x vars),
      length-append three (premise_clauses x vars),
      length-append four (freshness_clauses x vars),
    )
