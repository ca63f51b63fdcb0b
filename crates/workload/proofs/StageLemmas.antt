-- The texts of the stages, one stage after another, and how long they are.
use Rattle.std.specs.Prelude.{◌==◌}
use Rattle.std.proofs.Common.{Bool, true, false, cond, ◌≡◌, ℕ, zero, suc, ◌+◌, ◌*◌, ◌-◌, ◌/◌, ◌%◌, ◌<◌, ◌≤◌, ◌≢◌, List, [], ◌∷◌, ◌++◌, codes, length, sym, ap, ◌∙◌, inl, inr, arith}
use Rattle.std.specs.List.{flat_map, range_with_len}
use Rattle.std.proofs.lemmas.Bool.{cases_lt, cond-false, ne_eqb}
use Rattle.std.proofs.lemmas.List.{append_assoc, flat_map_more, length-append, length_push}
use Rattle.list_base.specs.Numeral.{numeral}
use Rattle.list_base.proofs.Numerals.{numeral_digit, numeral_more}
use Rattle.workload.specs.Stage.{stage_carried, stage_message, stage_messages, stage_numbers, stage_parameter, stage_parameters, stage_roles, stage_text}

-- a range of one number more ends with that number
range_push : (a n : ℕ) → range_with_len a (suc n) ≡ range_with_len a n ++ (a + n) ∷ []
range_push a zero =
    let same : a ≡ a + 0 = omega arith in
    ap (λ (k : ℕ). k ∷ []) same
range_push a (suc n) =
    let same : (a + 1) + n ≡ a + suc n = omega arith in
    ap (λ (ks : List ℕ). a ∷ ks) (range_push (a + 1) n)
    ∙ ap (λ (k : ℕ). a ∷ (range_with_len (a + 1) n ++ k ∷ [])) same

-- the text of one stage more
pub stage_more : (f : ℕ → List ℕ) (before : List ℕ) (n : ℕ) → (before ++ flat_map f (range_with_len 1 n)) ++ f (n + 1) ≡ before ++ flat_map f (range_with_len 1 (n + 1))
stage_more f before n =
    let next : suc n ≡ n + 1 = omega arith in
    let number : 1 + n ≡ n + 1 = omega arith in
    ap (λ (k : ℕ). (before ++ flat_map f (range_with_len 1 n)) ++ f k) (sym number)
    ∙ flat_map_more f before (range_with_len 1 n) (1 + n)
    ∙ ap (λ (ks : List ℕ). before ++ flat_map f ks) (sym (range_push 1 n))
    ∙ ap (λ (k : ℕ). before ++ flat_map f (range_with_len 1 k)) next

-- a number below a hundred has two digits at most
pub two_digits : (n : ℕ) → n < 100 → length (numeral n) ≤ 2
two_digits n small = elim (cases_lt n 10) [
  | inl one ↦ omega (arith, ap length (numeral_digit n one))
  | inr two ↦
      let tens : n / 10 < 10 = omega arith in
      omega (arith, ap length (numeral_more n two), ap length (numeral_digit (n / 10) tens), length_push (numeral (n / 10)) (48 + n % 10))
]

-- texts of few bytes each
pub few_bytes : (f : ℕ → List ℕ) (most a n : ℕ) → ((i : ℕ) → i < a + n → length (f i) ≤ most) → length (flat_map f (range_with_len a n)) ≤ n * most
few_bytes f most a zero each = omega arith
few_bytes f most a (suc n) each =
    let first : length (f a) ≤ most = each a (omega arith) in
    let rest : length (flat_map f (range_with_len (a + 1) n)) ≤ n * most = few_bytes f most (a + 1) n (λ i below. each i (omega (arith, below))) in
    omega (arith, first, rest, length-append (f a) (flat_map f (range_with_len (a + 1) n)))

-- two pieces and then two more, after what is there
after_two : (before a b c d : List ℕ) → ((before ++ a) ++ b) ++ (c ++ d) ≡ before ++ (((a ++ b) ++ c) ++ d)
after_two before a b c d = simp append_assoc

-- what a later stage's message carries is written piece by piece
pub carried_later : (before : List ℕ) (i : ℕ) → i ≢ 1 → ((before ++ codes "in ID, in x") ++ numeral (i - 1)) ++ stage_parameter i ≡ before ++ stage_carried i
carried_later before i later =
    after_two before (codes "in ID, in x") (numeral (i - 1)) (codes ", out x") (numeral i)
    ∙ ap (λ (ys : List ℕ). before ++ ys) (sym (cond-false _ _ _ (ne_eqb i 1 later)))

-- four pieces and then three more
after_four : (a b c d e f g : List ℕ) → (((((a ++ b) ++ c) ++ d) ++ e) ++ f) ++ g ≡ (((a ++ b) ++ c) ++ d) ++ ((e ++ f) ++ g)
after_four a b c d e f g = simp append_assoc

-- the text is written part by part
pub text_written : (n : ℕ) → (((((codes "Stage {\n  roles A, B\n" ++ stage_parameters n) ++ flat_map stage_messages (stage_numbers n)) ++ codes "}\n") ++ codes "%% agents\nkeys 1000\nseed ") ++ numeral n) ++ 10 ∷ [] ≡ stage_text n
text_written n = after_four (codes "Stage {\n  roles A, B\n") (stage_parameters n) (flat_map stage_messages (stage_numbers n)) (codes "}\n") (codes "%% agents\nkeys 1000\nseed ") (numeral n) (10 ∷ [])

-- one of two short texts
either_short : (b : Bool) (xs ys : List ℕ) (most : ℕ) → length xs ≤ most → length ys ≤ most → length (cond b xs ys) ≤ most
either_short true xs ys most one other = one
either_short false xs ys most one other = other

-- what a message carries has at most 22 bytes
carried_short : (i : ℕ) → i < 100 → length (stage_carried i) ≤ 22
carried_short i small =
    let later : length (codes "in ID, in x" ++ numeral (i - 1) ++ codes ", out x" ++ numeral i) ≤ 22 = simp length-append (omega (arith, two_digits i small, two_digits (i - 1) (omega (arith, small)))) in
    either_short (i == 1) (codes "out ID, out x1") (codes "in ID, in x" ++ numeral (i - 1) ++ codes ", out x" ++ numeral i) 22 (omega arith) later

-- who sends to whom takes six bytes
roles_short : (i : ℕ) → length (stage_roles i) ≤ 6
roles_short i = either_short (i % 2 == 1) (codes "A -> B") (codes "B -> A") 6 (omega arith) (omega arith)

-- a message has at most 40 bytes
message_short : (answer : List ℕ) (i : ℕ) → length answer ≤ 3 → i < 100 → length (stage_message answer i) ≤ 40
message_short answer i short small = simp length-append (omega (arith, roles_short i, two_digits i small, carried_short i small, short))

-- both messages of a stage have at most 80
messages_short : (i : ℕ) → i < 100 → length (stage_messages i) ≤ 80
messages_short i small =
    omega (arith, message_short (codes "yes") i (omega arith) small, message_short (codes "no") i (omega arith) small, length-append (stage_message (codes "yes") i) (stage_message (codes "no") i))

-- the parameter of a stage has at most 9
parameter_short : (i : ℕ) → i < 100 → length (stage_parameter i) ≤ 9
parameter_short i small = omega (arith, two_digits i small)

-- the whole text has at most 2,048
pub text_short : (n : ℕ) → n ≤ 16 → length (stage_text n) ≤ 2048
text_short n few =
    let parameters : length (flat_map stage_parameter (range_with_len 1 n)) ≤ n * 9 = few_bytes stage_parameter 9 1 n (λ i below. parameter_short i (omega (arith, below, few))) in
    let messages : length (flat_map stage_messages (range_with_len 1 n)) ≤ n * 80 = few_bytes stage_messages 80 1 n (λ i below. messages_short i (omega (arith, below, few))) in
    simp length-append (omega (arith, parameters, messages, two_digits n (omega (arith, few)), few))
