-- How long lists are at most.
use Rattle.std.proofs.Common.{ℕ, ◌+◌, ◌*◌, ◌≤◌, Bool, true, false, cond, List, [], ◌∷◌, length, map, arith, length-append}
use Rattle.std.proofs.lemmas.List.{length-map}
use Rattle.std.proofs.Math.Nat.{mul-le-mul}
use Rattle.std.specs.List.{filter, flat_map, range_with_len}
use Rattle.std.proofs.lemmas.List.FromFn.{length-range_with_len}
use Rattle.bspl_types.specs.declared.expanded.Expanded.{Expanded}
use Rattle.bspl_types.specs.Expansion.{message_of}
use Rattle.clause_encoding.specs.declared.rivals.Rivals.{Rivals}
use Rattle.clause_encoding.specs.Rivals.{producers_of, produces, rivals_among, rivals_of}
use Rattle.clause_encoding.specs.Variables.{message_numbers}

-- if each item adds at most `most`, all add at most `most` times their number
pub length_flat_map : {X A : Type 0} (f : X → List A) (most : ℕ) (xs : List X) → ((x : X) → length (f x) ≤ most) → length (flat_map f xs) ≤ most * length xs
length_flat_map f most [] each = omega arith
length_flat_map f most (x ∷ xs) each =
    let rest = length_flat_map f most xs each in
    omega (arith, length-append (f x) (flat_map f xs), each x, rest)

-- the first item counts at most once
kept_or_not : {X : Type 0} (kept : Bool) (x : X) (xs : List X) → length (cond kept (x ∷ xs) xs) ≤ length xs + 1
kept_or_not true x xs = omega arith
kept_or_not false x xs = omega arith

-- a filter keeps no more items than there are
pub length_filter : {X : Type 0} (p : X → Bool) (xs : List X) → length (filter p xs) ≤ length xs
length_filter p [] = omega arith
length_filter p (x ∷ xs) = omega (arith, kept_or_not (p x) x (filter p xs), length_filter p xs)

-- pairs are at most as many as the square
length_rivals_among : (p : ℕ) (ms : List ℕ) → length (rivals_among p ms) ≤ length ms * length ms
length_rivals_among p [] = omega arith
length_rivals_among p (m ∷ others) =
    let rest = length_rivals_among p others in
    let with = λ (n : ℕ). (let pair : Rivals = record { param = p; first = m; second = n } in pair) in
    omega (arith, rest, length-append (map with others) (rivals_among p others), length-map others with)

-- few messages produce a parameter
few_producers : (x : Expanded) (p : ℕ) → length (producers_of x p) ≤ 64
few_producers x p =
    let few = x.shape.counts.few_messages in
    omega (arith, length_filter (λ m. produces (message_of x m) p) (message_numbers x), length-range_with_len 0 (length x.messages), few)

-- a parameter has few rivals
few_rivals_of_one : (x : Expanded) (p : ℕ) → length (rivals_among p (producers_of x p)) ≤ 4096
few_rivals_of_one x p =
    let few = few_producers x p in
    let square = mul-le-mul few few in
    omega (arith, length_rivals_among p (producers_of x p), square)

-- a protocol has few rivals
pub few_rivals : (x : Expanded) → length (rivals_of x) ≤ 262144
few_rivals x =
    let few = x.shape.counts.few_params in
    let all = length_flat_map (λ p. rivals_among p (producers_of x p)) 4096 (range_with_len 0 (length x.params)) (few_rivals_of_one x) in
    omega (arith, length-range_with_len 0 (length x.params), few, all)
