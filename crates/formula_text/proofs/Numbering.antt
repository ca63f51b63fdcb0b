-- The variables of a legend are those from 1 on, in order.
use Rattle.std.proofs.Common.{◌≡◌, ℕ, zero, suc, ◌+◌, ◌-◌, ◌*◌, ◌/◌, ◌<◌, ◌≤◌, List, [], ◌∷◌, ◌++◌, map, length, refl, sym, ap, ◌∙◌, arith}
use Rattle.std.specs.Prelude.{nat_lt}
use Rattle.std.specs.List.{enumerate_from, flat_map, range_with_len}
use Rattle.std.proofs.lemmas.Bool.{cond-true, lt-ltb}
use Rattle.std.proofs.lemmas.List.{map-append}
use Rattle.std.proofs.lemmas.Nat.{mul-le}
use Rattle.bspl_types.specs.declared.expanded.Expanded.{Expanded}
use Rattle.clause_core.specs.Literal.{negated, positive}
use Rattle.clause_encoding.specs.declared.rivals.Rivals.{Rivals}
use Rattle.clause_encoding.specs.declared.variables.Variables.{Variables}
use Rattle.clause_encoding.specs.declared.wants.Want.{Want}
use Rattle.clause_encoding.specs.Formula.{liveness_variables, safety_variables, variables_of}
use Rattle.clause_encoding.specs.Rest.{public_values, unbound_variables, want_variables, wants_of}
use Rattle.clause_encoding.specs.Rivals.{rivals_of}
use Rattle.clause_encoding.specs.Variables.{kind_count, order_variable, variable_count}
use Rattle.bspl_types.specs.declared.property.Property.{Property}
use Rattle.bspl_types.specs.declared.property.Property.TheVariants.{Liveness, Safety}
use Rattle.formula_text.specs.Legend.{Meaning, lack, legend, occurrence, occurrences, order, orders, orders_of, own_meanings, selection, unbound}

-- the variables of meanings
abbrev pub number : Meaning → ℕ
number (variable, words) = variable

abbrev pub numbers : List Meaning → List ℕ
numbers meanings = map number meanings

-- a range and the next one are one range
pub range_both : (a n b m : ℕ) → a + n ≡ b → range_with_len a n ++ range_with_len b m ≡ range_with_len a (n + m)
range_both a zero b m next = (λ i. range_with_len ((let same : b ≡ a = omega arith in same) i) ((let same : m ≡ 0 + m = omega arith in same) i))
range_both a (suc n) b m next =
    ap (λ (rest : List ℕ). a ∷ rest) (range_both (a + 1) n b m (omega arith)) ∙ ap (range_with_len a) (let same : suc (n + m) ≡ suc n + m = omega arith in same)

-- the kinds
kinds_numbered : (x : Expanded) (a n : ℕ) → numbers (map (occurrence x) (range_with_len a n)) ≡ range_with_len a n
kinds_numbered x a zero = refl
kinds_numbered x a (suc n) = ap (λ (rest : List ℕ). a ∷ rest) (kinds_numbered x (a + 1) n)

-- the selectors
selectors_numbered : (x : Expanded) (a : ℕ) (rivals : List Rivals) → numbers (map (selection x) (enumerate_from a rivals)) ≡ range_with_len a (length rivals)
selectors_numbered x a [] = refl
selectors_numbered x a (r ∷ rivals) = ap (λ (rest : List ℕ). a ∷ rest) (selectors_numbered x (a + 1) rivals)

-- what may be unbound
unbound_numbered : (x : Expanded) (a : ℕ) (params : List ℕ) → numbers (map (unbound x) (enumerate_from a params)) ≡ range_with_len a (length params)
unbound_numbered x a [] = refl
unbound_numbered x a (p ∷ params) = ap (λ (rest : List ℕ). a ∷ rest) (unbound_numbered x (a + 1) params)

-- what a sender may lack
lacks_numbered : (x : Expanded) (a : ℕ) (wants : List Want) → numbers (map (lack x) (enumerate_from a wants)) ≡ range_with_len a (length wants)
lacks_numbered x a [] = refl
lacks_numbered x a (w ∷ wants) = ap (λ (rest : List ℕ). a ∷ rest) (lacks_numbered x (a + 1) wants)

-- the variable of two kinds in order
order_number : (x : Expanded) (vars : Variables) (i j : ℕ) → i < j → (order x vars i j).0 ≡ order_variable vars i j
order_number x vars i j less =
    ap (λ l. l.var) (cond-true (nat_lt i j) (positive (order_variable vars i j)) (negated (positive (order_variable vars j i))) (lt-ltb i j less))

-- those of a kind with later ones are a range; `d` is how far the first one is from the kind
row_numbered : (x : Expanded) (vars : Variables) (i a n first : ℕ) → i < a → first ≡ order_variable vars i a → numbers (map (order x vars i) (range_with_len a n)) ≡ range_with_len first n
row_numbered x vars i a zero first less is = refl
row_numbered x vars i a (suc n) first less is =
    let here : (order x vars i a).0 ≡ first = order_number x vars i a less ∙ sym is in
    let next : first + 1 ≡ order_variable vars i (a + 1) = omega (arith, is) in
    λ k. here k ∷ row_numbered x vars i (a + 1) n (first + 1) (omega arith) next k

-- the number of a kind's first pair
abbrev row_start : Variables → ℕ → ℕ
row_start vars i = order_variable vars i (i + 1)

-- after the pairs of a kind come those of the next one
rows_follow : (vars : Variables) (i p : ℕ) → i ≡ p + 1 → i ≤ vars.kinds → row_start vars i + (vars.kinds - i) ≡ row_start vars (i + 1)
rows_follow vars i p after within =
    let kinds = vars.kinds in
    let before : i - 1 ≡ p = omega arith in
    let back : i + 1 - 1 ≡ i = omega arith in
    let fits : (p + 1) * p ≤ kinds * p = mul-le (p + 1) p kinds p (omega arith) (omega arith) in
    let first : (i - 1) * kinds ≡ p * kinds = ap (λ (k : ℕ). k * kinds) before in
    let pairs : i * (i - 1) ≡ (p + 1) * p = λ n. after n * before n in
    let second : (i + 1 - 1) * kinds ≡ (p + 1) * kinds = ap (λ (k : ℕ). k * kinds) (back ∙ after) in
    let more : (i + 1) * (i + 1 - 1) ≡ (p + 1 + 1) * (p + 1) = λ n. (after n + 1) * (back ∙ after) n in
    omega (arith, fits, first, pairs, second, more)

-- how many pairs there are of one kind more
pairs_more : (m : ℕ) → m + m * (m - 1) / 2 ≡ suc m * (suc m - 1) / 2
pairs_more zero = refl
pairs_more (suc q) =
    let less : suc q * (suc q - 1) ≡ suc q * q = ap (λ (k : ℕ). suc q * k) (let is : suc q - 1 ≡ q = omega arith in is) in
    let more : suc (suc q) * (suc (suc q) - 1) ≡ suc (suc q) * suc q = ap (λ (k : ℕ). suc (suc q) * k) (let is : suc (suc q) - 1 ≡ suc q = omega arith in is) in
    omega (arith, less, more)

-- the pairs of the last kinds
rows_numbered : (x : Expanded) (vars : Variables) (i n : ℕ) → 0 < i → i + n ≡ vars.kinds + 1 → numbers (flat_map (orders_of x vars) (range_with_len i n)) ≡ range_with_len (row_start vars i) (n * (n - 1) / 2)
rows_numbered x vars i zero from to = refl
rows_numbered x vars i (suc m) from to =
    let later = vars.kinds - i in
    let start = row_start vars i in
    let rest = flat_map (orders_of x vars) (range_with_len (i + 1) m) in
    let parts = map-append number (orders_of x vars i) rest in
    let row = row_numbered x vars i (i + 1) later start (omega arith) refl in
    let more = rows_numbered x vars (i + 1) m (omega arith) (omega arith) in
    let same : later ≡ m = omega arith in
    let follow : start + later ≡ row_start vars (i + 1) = rows_follow vars i (i - 1) (omega arith) (omega arith) in
    parts ∙ (λ k. row k ++ more k) ∙ range_both start later (row_start vars (i + 1)) (m * (m - 1) / 2) follow ∙ ap (λ (k : ℕ). range_with_len start (k + m * (m - 1) / 2)) same ∙ ap (range_with_len start) (pairs_more m)

-- the variables between the kinds and the order
own_numbered : (x : Expanded) → numbers (own_meanings Liveness x) ≡ range_with_len (kind_count x + 1) (length (public_values x) + length (wants_of x))
own_numbered x =
    let first = kind_count x + 1 in
    let values = length (public_values x) in
    let parts = map-append number (map (unbound x) (unbound_variables x)) (map (lack x) (want_variables x)) in
    let params = unbound_numbered x first (public_values x) in
    let wants = lacks_numbered x (kind_count x + values + 1) (wants_of x) in
    parts ∙ (λ k. params k ++ wants k) ∙ range_both first values (kind_count x + values + 1) (length (wants_of x)) (omega arith)

-- all variables, if `n` are between the kinds and the order
pub all_numbered : (x : Expanded) (vars : Variables) (between : List Meaning) (n : ℕ) → vars.order_base ≡ vars.kinds + n → numbers between ≡ range_with_len (vars.kinds + 1) n → numbers (occurrences x vars ++ between ++ orders x vars) ≡ range_with_len 1 (variable_count vars)
all_numbered x vars between n base own =
    let many = vars.kinds in
    let whole : many - 0 ≡ many = omega arith in
    let events = occurrences x vars in
    let kinds : numbers events ≡ range_with_len 1 many = kinds_numbered x 1 (many - 0) ∙ ap (range_with_len 1) whole in
    let pairs : numbers (orders x vars) ≡ range_with_len (row_start vars 1) (many * (many - 1) / 2) =
    rows_numbered x vars 1 (many - 0) (omega arith) (omega arith) ∙ ap (λ (k : ℕ). range_with_len (row_start vars 1) (k * (k - 1) / 2)) whole in
    let first = range_both 1 many (many + 1) n (omega arith) in
    let count : many + n ≡ vars.order_base = sym base in
    let all = range_both 1 (many + n) (row_start vars 1) (many * (many - 1) / 2) (omega (arith, base)) in
    let front : numbers (events ++ between) ≡ range_with_len 1 (many + n) = map-append number events between ∙ (λ k. kinds k ++ own k) ∙ first in
    map-append number (events ++ between) (orders x vars) ∙ (λ k. front k ++ pairs k) ∙ all ∙ ap (λ (k : ℕ). range_with_len 1 (k + many * (many - 1) / 2)) count

-- so it is with a legend's
pub legend_numbered : (property : Property) (x : Expanded) (n : ℕ) → n ≡ variable_count (variables_of property x) → numbers (legend property x) ≡ range_with_len 1 n
legend_numbered Safety x n is =
    all_numbered x (safety_variables x) (own_meanings Safety x) (length (rivals_of x)) refl (selectors_numbered x (kind_count x + 1) (rivals_of x)) ∙ ap (range_with_len 1) (sym is)
legend_numbered Liveness x n is =
    all_numbered x (liveness_variables x) (own_meanings Liveness x) (length (public_values x) + length (wants_of x)) (omega arith) (own_numbered x) ∙ ap (range_with_len 1) (sym is)
