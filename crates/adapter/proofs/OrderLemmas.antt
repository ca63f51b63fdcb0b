-- No message stands twice in an order.
use Rattle.std.proofs.Common.{◌≡◌, ◌≢◌, ℕ, zero, suc, ◌+◌, ◌<◌, ◌≤◌, Bool, List, [], ◌∷◌, ◌++◌, length, map, get_or, take, drop, Some, slice_get, refl, sym, ◌∙◌, ap, subst, arith, ⊎_elim, All}
use Rattle.std.specs.Prelude.{◌==◌, not}
use Rattle.std.specs.List.{AllPairs, filter, flat_map, list_any, enumerate_from}
use Rattle.std.proofs.lemmas.Bool.{both_ways, cases_Bool, cond-true, cond-false}
use Rattle.std.proofs.lemmas.Bool.Decides.{Decides-eqb}
use Rattle.std.proofs.lemmas.List.{append-nil, drop_more, get_or-take, length-take, take-append-drop}
use Rattle.std.proofs.lemmas.List.Elements.{All-append, All-cons, All-contains_itself, All-filter, All-head, All-nil, All-tail}
use Rattle.std.proofs.lemmas.List.Folds.{list_any_at}
use Rattle.std.proofs.lemmas.List.Kept.{AllPairs-cons}
use Rattle.std.proofs.lemmas.Option.{slice_get_within, same_Some}
use Rattle.list_base.proofs.Filtered.{filtered_member}
use Rattle.bspl_types.specs.declared.protocol.Message.{Message}
use Rattle.bspl_types.specs.declared.expanded.Expanded.{Expanded}
use Rattle.agent_scripts.specs.declared.statement.Statement.{Statement}
use Rattle.agent_scripts.specs.declared.statement.Statement.TheVariants.{Set, Key, Order, Decline, Bind}
use Rattle.agent_scripts.specs.StatedScript.{order_in, order_of, orders_given, sent_by}
use Rattle.agent_scripts.specs.Rules.{HasDistinct, StandTogether}
use Rattle.agent_scripts.specs.ScriptText.{KeepRules, statements_of}
use Rattle.adapter.specs.Laws.{OrdersAreDistinct}

-- pairs of a list, by its first item
no_pairs : {X : Type 0} (R : X → X → Type 0) → AllPairs R []
no_pairs R i j d less within = absurd (omega (arith, within))

pairs_head : {X : Type 0} (R : X → X → Type 0) (x : X) (xs : List X) → AllPairs R (x ∷ xs) → All (R x) xs
pairs_head R x xs pairs k d within = pairs 0 (suc k) d (omega arith) (omega (arith, within))

pairs_tail : {X : Type 0} (R : X → X → Type 0) (x : X) (xs : List X) → AllPairs R (x ∷ xs) → AllPairs R xs
pairs_tail R x xs pairs i j d less within = pairs (suc i) (suc j) d (omega (arith, less)) (omega (arith, within))

pairs_append : {X : Type 0} (R : X → X → Type 0) (xs ys : List X) → AllPairs R xs → AllPairs R ys → All (λ x. All (R x) ys) xs → AllPairs R (xs ++ ys)
pairs_append R [] ys one other across = other
pairs_append {X} R (x ∷ xs) ys one other across =
    AllPairs-cons R x (xs ++ ys)
    (All-append (R x) xs ys (pairs_head R x xs one) (All-head (λ (z : X). All (R z) ys) x xs across))
    (pairs_append R xs ys (pairs_tail R x xs one) other (All-tail (λ (z : X). All (R z) ys) x xs across))

pairs_filter : {X : Type 0} (R : X → X → Type 0) (p : X → Bool) (xs : List X) → AllPairs R xs → AllPairs R (filter p xs)
pairs_filter R p [] pairs = no_pairs R
pairs_filter R p (x ∷ xs) pairs =
    let rest = pairs_filter R p xs (pairs_tail R x xs pairs) in
    ⊎_elim
    (λ yes. subst (AllPairs R) (sym (cond-true (p x) (x ∷ filter p xs) (filter p xs) yes)) (AllPairs-cons R x (filter p xs) (All-filter p (R x) xs (pairs_head R x xs pairs)) rest))
    (λ none. subst (AllPairs R) (sym (cond-false (p x) (x ∷ filter p xs) (filter p xs) none)) rest)
    (cases_Bool (p x))

-- the statements of a text stand together, each with distinct messages
split_at : {X : Type 0} (xs : List X) (k : ℕ) (d : X) → k < length xs → xs ≡ take k xs ++ get_or xs k d ∷ drop (k + 1) xs
split_at xs k d within = sym (take-append-drop k xs) ∙ ap (λ rest. take k xs ++ rest) (drop_more xs k d within)

together : (statements : List Statement) → KeepRules statements → AllPairs StandTogether statements
together ss rules i j d less within =
    let keeps = rules (take j ss) (drop (j + 1) ss) (get_or ss j d) (split_at ss j d within) in
    subst (λ t. StandTogether t (get_or ss j d)) (get_or-take j ss i d less) (keeps.together i d (omega (arith, less, within, length-take j ss)))

each_distinct : (statements : List Statement) → KeepRules statements → All HasDistinct statements
each_distinct ss rules k d within = (rules (take k ss) (drop (k + 1) ss) (get_or ss k d) (split_at ss k d within)).distinct

-- after a role's order no other is stated for it
no_other : (role other : ℕ) (messages : List ℕ) (ss : List Statement) → other ≡ role → All (StandTogether (Order other messages)) ss → flat_map (order_in role) ss ≡ []
no_other role other messages [] is all = refl
no_other role other messages (Order next ordered ∷ ss) is all =
    let rest = no_other role other messages ss is (All-tail (StandTogether (Order other messages)) (Order next ordered) ss all) in
    ⊎_elim
    (λ yes. absurd (All-head (StandTogether (Order other messages)) (Order next ordered) ss all (is ∙ sym ((Decides-eqb next role).0 yes))))
    (λ none. ap (λ front. front ++ flat_map (order_in role) ss) (cond-false (next == role) ordered [] none) ∙ rest)
    (cases_Bool (next == role))
no_other role other messages (Set s n ∷ ss) is all = no_other role other messages ss is (All-tail (StandTogether (Order other messages)) (Set s n) ss all)
no_other role other messages (Key k ∷ ss) is all = no_other role other messages ss is (All-tail (StandTogether (Order other messages)) (Key k) ss all)
no_other role other messages (Decline m every ∷ ss) is all = no_other role other messages ss is (All-tail (StandTogether (Order other messages)) (Decline m every) ss all)
no_other role other messages (Bind m p rule ∷ ss) is all = no_other role other messages ss is (All-tail (StandTogether (Order other messages)) (Bind m p rule) ss all)

-- what is stated of a role's order is distinct
stated_distinct : (role : ℕ) (ss : List Statement) → AllPairs StandTogether ss → All HasDistinct ss → AllPairs ◌≢◌ (flat_map (order_in role) ss)
stated_distinct role [] pairs each = no_pairs ◌≢◌
stated_distinct role (s ∷ ss) pairs each =
    let rest = stated_distinct role ss (pairs_tail StandTogether s ss pairs) (All-tail HasDistinct s ss each) in
    one s (pairs_head StandTogether s ss pairs) (All-head HasDistinct s ss each) rest
  where
    one : (t : Statement) → All (StandTogether t) ss → HasDistinct t → AllPairs ◌≢◌ (flat_map (order_in role) ss) → AllPairs ◌≢◌ (order_in role t ++ flat_map (order_in role) ss)
    one (Order other messages) all distinct rest = ⊎_elim
        (λ yes. subst (λ (ms : List ℕ). AllPairs ◌≢◌ ms)
        (sym (ap (λ front. front ++ flat_map (order_in role) ss) (cond-true (other == role) messages [] yes) ∙ ap (λ more. messages ++ more) (no_other role other messages ss ((Decides-eqb other role).0 yes) all) ∙ append-nil messages))
        distinct)
        (λ none. subst (λ (ms : List ℕ). AllPairs ◌≢◌ (ms ++ flat_map (order_in role) ss)) (sym (cond-false (other == role) messages [] none)) rest)
        (cases_Bool (other == role))
    one (Set _ _) all distinct rest = rest
    one (Key _) all distinct rest = rest
    one (Decline _ _) all distinct rest = rest
    one (Bind _ _ _) all distinct rest = rest

-- numbers of messages rise

rising : (p : Message → Bool) (k : ℕ) (messages : List Message) → All (λ n. k ≤ n) (map (λ (n, _). n) (filter (λ (_, m). p m) (enumerate_from k messages)))
rising p k [] = All-nil (λ n. k ≤ n)
rising p k (m ∷ messages) =
    let later = rising p (k + 1) messages in
    let rest : All (λ n. k ≤ n) (map (λ (n, _). n) (filter (λ (_, s). p s) (enumerate_from (k + 1) messages))) = λ i d within. omega (arith, later i d within) in
    ⊎_elim
    (λ yes. rw yes (All-cons (λ n. k ≤ n) k _ (omega arith) rest))
    (λ none. rw none rest)
    (cases_Bool (p m))

once_numbered : (p : Message → Bool) (k : ℕ) (messages : List Message) → AllPairs ◌≢◌ (map (λ (n, _). n) (filter (λ (_, m). p m) (enumerate_from k messages)))
once_numbered p k [] = no_pairs ◌≢◌
once_numbered p k (m ∷ messages) =
    let later = rising p (k + 1) messages in
    let rest = map (λ (n, _). n) (filter (λ (_, s). p s) (enumerate_from (k + 1) messages)) in
    let above : All (λ n. k ≢ n) rest = λ i d within same. let more = later i d within in omega (arith, more, same) in
    ⊎_elim
    (λ yes. rw yes (AllPairs-cons ◌≢◌ k rest above (once_numbered p (k + 1) messages)))
    (λ none. rw none (once_numbered p (k + 1) messages))
    (cases_Bool (p m))

-- an order is distinct
order_distinct : (x : Expanded) (ss : List Statement) (role : ℕ) → KeepRules ss → AllPairs ◌≢◌ (order_of x ss role)
order_distinct x ss role rules =
    let first = flat_map (order_in role) ss in
    let test = λ (m : ℕ). not (list_any (λ n. n == m) first) in
    let others = filter test (sent_by x role) in
    pairs_append ◌≢◌ first others (stated_distinct role ss (together ss rules) (each_distinct ss rules))
    (pairs_filter ◌≢◌ test (sent_by x role) (once_numbered (λ m. m.sender == role) 0 x.messages))
    (λ i d within j e within_others same.
    let other = filtered_member test (sent_by x role) (get_or others j e) (All-contains_itself others j e within_others) in
    let found = list_any_at (λ n. n == get_or others j e) first i d within ((Decides-eqb (get_or first i d) (get_or others j e)).1 same) in
    both_ways (test (get_or others j e)) (ap not found) other.1)

-- the order at a role's index is the role's
over_length : {X A : Type 0} (f : ℕ → A) (k : ℕ) (xs : List X) → length (map (λ (n, _). f n) (enumerate_from k xs)) ≡ length xs
over_length f k [] = refl
over_length f k (x ∷ xs) = ap suc (over_length f (k + 1) xs)

over_at : {X A : Type 0} (f : ℕ → A) (k : ℕ) (xs : List X) (i : ℕ) → i < length xs → slice_get (map (λ (n, _). f n) (enumerate_from k xs)) i ≡ Some (f (k + i))
over_at f k [] i within = absurd (omega (arith, within))
over_at f k (x ∷ xs) i within = elim i as (λ j. j < length (x ∷ xs) → slice_get (map (λ (n, _). f n) (enumerate_from k (x ∷ xs))) j ≡ Some (f (k + j))) [
  | zero ↦ λ _. let same : k ≡ k + 0 = omega arith in ap (λ n. Some (f n)) same
  | suc j ↦ λ below. let same : k + 1 + j ≡ k + suc j = omega arith in over_at f (k + 1) xs j (omega (arith, below)) ∙ ap (λ n. Some (f n)) same
] within

order_is : (x : Expanded) (ss : List Statement) (role : ℕ) (order : List ℕ) → slice_get (orders_given x ss) role ≡ Some order → order_of x ss role ≡ order
order_is x ss role order at =
    let below : role < length x.roles = subst (λ n. role < n) (over_length (order_of x ss) 0 x.roles) (slice_get_within _ role order at) in
    let there_is = over_at (order_of x ss) 0 x.roles role below in
    let same : role ≡ 0 + role = omega arith in
    ap (order_of x ss) same ∙ same_Some _ _ (sym there_is ∙ at)

pub distinct_orders : OrdersAreDistinct
distinct_orders x script for_it role order at =
    let ss = statements_of for_it.gives.stated in
    let same = order_is x ss role order (ap (λ os. slice_get os role) (sym for_it.gives.script_given.orders) ∙ at) in
    subst (λ (ms : List ℕ). AllPairs ◌≢◌ ms) same (order_distinct x ss role for_it.gives.read.rules)
