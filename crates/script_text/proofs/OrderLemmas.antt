-- The messages that a role sends, without those of its order.
use Rattle.std.proofs.Common.{◌≡◌, ◌≢◌, ◌==◌, ◌+◌, ◌<◌, ◌≤◌, ℕ, Bool, true, false, not, List, [], ◌∷◌, ◌++◌, length, map, take, get_or, refl, sym, ap, ◌∙◌, arith, eq-eqb}
use Rattle.std.specs.List.{filter, list_any, enumerate_from}
use Rattle.std.proofs.lemmas.Bool.Decides.{nat_tests}
use Rattle.std.proofs.lemmas.List.{take_more, take_all, map-append, append-nil, get_or-map, length-map}
use Rattle.std.proofs.lemmas.List.Elements.{filter-append}
use Rattle.std.proofs.lemmas.List.FromFn.{get_or-enumerate_from, length-enumerate_from}
use Rattle.bspl_types.specs.declared.expanded.Expanded.{Expanded}
use Rattle.bspl_types.specs.declared.protocol.Message.{Message}
use Rattle.agent_scripts.specs.declared.statement.Statement.{Statement}
use Rattle.agent_scripts.specs.StatedScript.{order_of, orders_given, sent_by}

-- of numbered messages those that a role sends and that are not among the first
abbrev pub others_of : ℕ → List ℕ → List (ℕ × Message) → List ℕ
others_of role first numbered =
    filter (λ m. not (list_any (λ n. n == m) first)) (map {B = ℕ} (λ (m, _). m) (filter (λ (_, m). m.sender == role) numbered))

-- of the messages before a number
abbrev pub others_to : Expanded → ℕ → List ℕ → ℕ → List ℕ
others_to x role first count = others_of role first (take count (enumerate_from 0 x.messages))

-- a numbered list with one more
numbered_more : {X : Type 0} (xs : List X) (i : ℕ) (x : X) → i < length xs → x ≡ get_or xs i x → take (i + 1) (enumerate_from 0 xs) ≡ take i (enumerate_from 0 xs) ++ (i, x) ∷ []
numbered_more {X} xs i x within is_item =
    let inside : i < length (enumerate_from 0 xs) = omega (arith, within, length-enumerate_from 0 xs) in
    let counted : 0 + i ≡ i = omega arith in
    take_more (enumerate_from 0 xs) i (i, x) inside
    ∙ ap (λ (pair : ℕ × X). take i (enumerate_from 0 xs) ++ pair ∷ []) (get_or-enumerate_from 0 xs i (i, x) within ∙ ap {B = ℕ × X} (λ n. (n, get_or xs i x)) counted ∙ ap {B = ℕ × X} (λ y. (i, y)) (sym is_item))

others_append : (role : ℕ) (first : List ℕ) (front back : List (ℕ × Message)) → others_of role first (front ++ back) ≡ others_of role first front ++ others_of role first back
others_append role first front back =
    let sends : ℕ × Message → Bool = λ (_, m). m.sender == role in
    let new : ℕ → Bool = λ m. not (list_any (λ n. n == m) first) in
    ap (λ (q : List (ℕ × Message)). filter new (map {B = ℕ} (λ (m, _). m) q)) (filter-append sends front back)
    ∙ ap (filter new) (map-append {B = ℕ} (λ (m, _). m) (filter sends front) (filter sends back))
    ∙ filter-append new (map {B = ℕ} (λ (m, _). m) (filter sends front)) (map {B = ℕ} (λ (m, _). m) (filter sends back))

one_more : (x : Expanded) (role : ℕ) (first : List ℕ) (i : ℕ) (m : Message) → i < length x.messages → m ≡ get_or x.messages i m → others_to x role first (i + 1) ≡ others_to x role first i ++ others_of role first ((i, m) ∷ [])
one_more x role first i m within is_item =
    ap (others_of role first) (numbered_more x.messages i m within is_item) ∙ others_append role first (take i (enumerate_from 0 x.messages)) ((i, m) ∷ [])

-- a message that the role sends and that is not among the first is one more
pub other_more : (x : Expanded) (role : ℕ) (first : List ℕ) (i : ℕ) (m : Message) → i < length x.messages → m ≡ get_or x.messages i m → m.sender ≡ role → list_any (λ n. n == i) first ≡ false → others_to x role first (i + 1) ≡ others_to x role first i ++ i ∷ []
other_more x role first i m within is_item sends new = one_more x role first i m within is_item ∙ ap (λ (more : List ℕ). others_to x role first i ++ more) kept
  where
    kept : others_of role first ((i, m) ∷ []) ≡ i ∷ []
    kept = rw (eq-eqb m.sender role sends, new) refl

-- another message is none
pub not_sent : (x : Expanded) (role : ℕ) (first : List ℕ) (i : ℕ) (m : Message) → i < length x.messages → m ≡ get_or x.messages i m → m.sender ≢ role → others_to x role first (i + 1) ≡ others_to x role first i
not_sent x role first i m within is_item other = one_more x role first i m within is_item ∙ ap (λ (more : List ℕ). others_to x role first i ++ more) none ∙ append-nil (others_to x role first i)
  where
    apart : (m.sender == role) ≡ false
    apart = grind (arith, nat_tests)

    none : others_of role first ((i, m) ∷ []) ≡ []
    none = rw apart refl

pub not_new : (x : Expanded) (role : ℕ) (first : List ℕ) (i : ℕ) (m : Message) → i < length x.messages → m ≡ get_or x.messages i m → m.sender ≡ role → list_any (λ n. n == i) first ≡ true → others_to x role first (i + 1) ≡ others_to x role first i
not_new x role first i m within is_item sends among = one_more x role first i m within is_item ∙ ap (λ (more : List ℕ). others_to x role first i ++ more) none ∙ append-nil (others_to x role first i)
  where
    none : others_of role first ((i, m) ∷ []) ≡ []
    none = rw (eq-eqb m.sender role sends, among) refl

-- past the last message they are all
pub others_all : (x : Expanded) (role : ℕ) (first : List ℕ) (i : ℕ) → length x.messages ≤ i → others_to x role first i ≡ filter (λ m. not (list_any (λ n. n == m) first)) (sent_by x role)
others_all x role first i past = ap (others_of role first) (take_all i (enumerate_from 0 x.messages) (omega (arith, past, length-enumerate_from 0 x.messages)))

-- there is an order for each role
pub length-orders_given : (x : Expanded) (statements : List Statement) → length (orders_given x statements) ≡ length x.roles
length-orders_given x statements = length-map (enumerate_from 0 x.roles) (λ (q : ℕ × List ℕ). order_of x statements q.0) ∙ length-enumerate_from 0 x.roles

-- the order of the next role
pub orders_more : (x : Expanded) (statements : List Statement) (role : ℕ) → role < length x.roles → take (role + 1) (orders_given x statements) ≡ take role (orders_given x statements) ++ order_of x statements role ∷ []
orders_more x statements role within =
    let numbered = enumerate_from 0 x.roles in
    let order : ℕ × List ℕ → List ℕ = λ q. order_of x statements q.0 in
    let inside : role < length numbered = omega (arith, within, length-enumerate_from 0 x.roles) in
    let counted : 0 + role ≡ role = omega arith in
    take_more (orders_given x statements) role [] (omega (arith, within, length-orders_given x statements))
    ∙ ap (λ (o : List ℕ). take role (orders_given x statements) ++ o ∷ [])
    (get_or-map order numbered role (0, []) [] inside
    ∙ ap order (get_or-enumerate_from 0 x.roles role (0, []) within)
    ∙ ap (order_of x statements) counted)
