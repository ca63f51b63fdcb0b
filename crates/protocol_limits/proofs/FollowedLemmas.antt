-- What is reached is in the order, and what the flags say.
use Rattle.std.proofs.Common.{◌≡◌, ◌≢◌, ℕ, zero, suc, ◌+◌, ◌<◌, ◌≤◌, Bool, true, false, List, [], ◌∷◌, length, replicate, set, Some, refl, sym, ◌∙◌, ap, subst, arith, inl, inr, Contains}
use Rattle.std.specs.Prelude.{◌↔◌, IsTrue, not, slice_get}
use Rattle.std.proofs.lemmas.Bool.{cases_eq, cases_lt, true≢false}
use Rattle.std.proofs.lemmas.List.{get_or-replicate, length-replicate}
use Rattle.std.proofs.lemmas.List.Elements.{Contains-push}
use Rattle.std.proofs.lemmas.Option.{slice_get_within, get_or_from_slice_get, same_Some}
use Rattle.bspl_parser.specs.declared.document.Declaration.{Declaration}
use Rattle.reference_graph.specs.Path.{IsReached}
use Rattle.reference_graph.specs.Order.{IsOrder}
use Rattle.reference_graph.specs.PathCounts.{saturated}
use Rattle.list_base.proofs.Membership.{member_at, index_of}
use Rattle.reference_graph.specs.Laws.{OrdersHaveTheReached, WeightsAddUp}
use Rattle.protocol_paths.specs.declared.followed.Followed.{Followed}
use Rattle.protocol_paths.specs.Followed.{FollowsEnough, IsSkipped}
use Rattle.protocol_paths.specs.Path.{message_paths, private_words}
use Rattle.protocol_limits.specs.Counts.{message_count, private_count}
use Rattle.protocol_limits.specs.Graph.{graph_of}
use Rattle.protocol_limits.specs.Reported.{AreFollowed}
use Rattle.protocol_limits.specs.inner.SortedDocument.{AreCounts}
use Rattle.protocol_limits.proofs.MessageLemmas.{messages_counted}
use Rattle.protocol_limits.proofs.PrivateLemmas.{privates_counted}

-- the start is in its order
pub start_index : (g : List (List ℕ)) (start : ℕ) (order : List ℕ) → IsOrder g start order → (k : ℕ) × (slice_get order k ≡ Some start)
start_index g start order is_order = index_of order start (subst (λ (xs : List ℕ). Contains xs start) (sym is_order.last) (Contains-push is_order.before start))

-- so is what is reached
pub reached_index : OrdersHaveTheReached → (g : List (List ℕ)) (start a : ℕ) (order : List ℕ) → IsOrder g start order → IsReached g start a → (k : ℕ) × (slice_get order k ≡ Some a)
reached_index have g start a order is_order reached = index_of order a (have g start a order is_order reached)

-- the count of a node of the order
pub count_of : (count : ℕ → ℕ) (order counts : List ℕ) (k a : ℕ) → AreCounts count order counts → slice_get order k ≡ Some a → slice_get counts a ≡ Some (saturated (count a))
count_of count order counts k a are at =
    let same = get_or_from_slice_get order k a 0 at in
    subst (λ b. slice_get counts b ≡ Some (saturated (count b))) same (are k 0 (slice_get_within order k a at))

-- a number that stopped at the last number is 0 if it was
pub stopped_zero : (n : ℕ) → saturated n ≡ 0 → n ≡ 0
stopped_zero n none = omega arith

-- an empty list
nothing_in : {X : Type 0} (xs : List X) (n : ℕ) → length xs ≡ n → n ≡ 0 → xs ≡ []
nothing_in [] n long none = refl
nothing_in (x ∷ xs) n long none = absurd (omega arith)

-- a skipped protocol has no message
no_message : WeightsAddUp → (protocols : List Declaration) (followed : List Bool) → ((k : ℕ) → slice_get followed k ≡ Some false → message_count protocols k ≡ 0) → (q : Declaration) → IsSkipped protocols followed q → message_paths (length protocols) protocols q ≡ []
unfolding message_count
no_message adds protocols followed none q skips =
    nothing_in (message_paths (length protocols) protocols q) (message_count protocols skips.number) (messages_counted adds (length protocols) skips.number protocols q skips.declared) (none skips.number skips.skipped)

-- nor a private parameter
no_private : WeightsAddUp → (protocols : List Declaration) (followed : List Bool) → ((k : ℕ) → slice_get followed k ≡ Some false → private_count protocols k ≡ 0) → (q : Declaration) → IsSkipped protocols followed q → private_words (length protocols) protocols q ≡ []
unfolding private_count
no_private adds protocols followed none q skips =
    nothing_in (private_words (length protocols) protocols q) (private_count protocols skips.number) (privates_counted adds (length protocols) skips.number protocols q skips.declared) (none skips.number skips.skipped)

-- flags that lend the two lists follow enough
pub lent : WeightsAddUp → (protocols : List Declaration) (top : ℕ) (messages privates : List Bool) → AreFollowed (graph_of protocols) top (message_count protocols) messages → AreFollowed (graph_of protocols) top (private_count protocols) privates → (followed : Followed) → followed.messages.now ≡ messages → followed.privates.now ≡ privates → FollowsEnough protocols followed
lent adds protocols top messages privates of_messages of_privates followed is_messages is_privates = record {
  messages = λ q skips. no_message adds protocols messages of_messages.none q (subst (λ (ms : List Bool). IsSkipped protocols ms q) is_messages skips);
  privates = λ q skips. no_private adds protocols privates of_privates.none q (subst (λ (ms : List Bool). IsSkipped protocols ms q) is_privates skips);
}

-- an item that is set is at its index
set_here : {X : Type 0} (xs : List X) (i : ℕ) (x : X) → i < length xs → slice_get (set xs i x) i ≡ Some x
set_here [] i x within = absurd (omega arith)
set_here (y ∷ xs) zero x within = refl
set_here (y ∷ xs) (suc i) x within = set_here xs i x (omega arith)

-- all others stay
set_there : {X : Type 0} (xs : List X) (i j : ℕ) (x : X) → j ≢ i → slice_get (set xs i x) j ≡ slice_get xs j
set_there [] i j x other = refl
set_there (y ∷ xs) zero zero x other = absurd (other refl)
set_there (y ∷ xs) zero (suc j) x other = refl
set_there (y ∷ xs) (suc i) zero x other = refl
set_there (y ∷ xs) (suc i) (suc j) x other = set_there xs i j x (λ same. other (ap suc same))

-- the first nodes of the order are skipped by their counts, and no others are
pub record AreSkipped (order counts : List ℕ) (followed : List Bool) (i : ℕ) : Type 0 where
  pub none : (a : ℕ) → slice_get followed a ≡ Some false → Contains order a × (slice_get counts a ≡ Some 0)
  pub all : (k a : ℕ) → k < i → slice_get order k ≡ Some a → slice_get counts a ≡ Some 0 → slice_get followed a ≡ Some false

-- at first none is skipped
pub none_skipped : (order counts : List ℕ) (n : ℕ) → AreSkipped order counts (replicate n true) 0
none_skipped order counts n = record {
  none = λ a skips. absurd (never a skips);
  all = λ k a early. absurd (omega (arith, early));
}
  where
    never : (a : ℕ) → slice_get (replicate n true) a ≡ Some false → ⊥
    never a skips =
        let within : a < n = omega (arith, slice_get_within (replicate n true) a false skips, length-replicate n true) in
        true≢false (sym (get_or-replicate n a true false within) ∙ get_or_from_slice_get (replicate n true) a false false skips)

-- one node more is judged
pub one_skipped : (order counts : List ℕ) (followed : List Bool) (i a : ℕ) (b : Bool) → slice_get order i ≡ Some a → a < length followed → IsTrue b ↔ (slice_get counts a ≡ Some 0) → AreSkipped order counts followed i → AreSkipped order counts (set followed a (not b)) (i + 1)
one_skipped order counts followed i a b at within tells skips = record { none = none; all = all }
  where
    here : slice_get (set followed a (not b)) a ≡ Some (not b)
    here = set_here followed a (not b) within

    is_followed : (m : Bool) → Some (not m) ≡ Some false → m ≡ true
    is_followed true same = refl
    is_followed false same = absurd cc

    none : (c : ℕ) → slice_get (set followed a (not b)) c ≡ Some false → Contains order c × (slice_get counts c ≡ Some 0)
    none c is = elim (cases_eq c a) [
      | inl same ↦ let off : b ≡ true = is_followed b (sym here ∙ ap (slice_get (set followed a (not b))) (sym same) ∙ is) in
          (subst (Contains order) (sym same) (member_at order i a at), subst (λ d. slice_get counts d ≡ Some 0) (sym same) (tells.0 off))
      | inr other ↦ skips.none c (sym (set_there followed a c (not b) other) ∙ is)
    ]

    all : (k c : ℕ) → k < i + 1 → slice_get order k ≡ Some c → slice_get counts c ≡ Some 0 → slice_get (set followed a (not b)) c ≡ Some false
    all k c early at_k is = elim (cases_eq c a) [
      | inl same ↦ ap (slice_get (set followed a (not b))) same ∙ here ∙ ap (λ m. Some (not m)) (tells.1 (subst (λ d. slice_get counts d ≡ Some 0) same is))
      | inr other ↦ set_there followed a c (not b) other ∙ elim (cases_lt k i) [
        | inl before ↦ skips.all k c before at_k is
        | inr last ↦ absurd (other (same_Some c a (sym at_k ∙ ap (slice_get order) (let e : k ≡ i = omega (arith, early, last) in e) ∙ at)))
      ]
    ]

-- once the order is passed, the flags are right
pub all_skipped : OrdersHaveTheReached → (g : List (List ℕ)) (top : ℕ) (count : ℕ → ℕ) (order counts : List ℕ) (followed : List Bool) (i : ℕ) → IsOrder g top order → length order ≤ i → AreCounts count order counts → AreSkipped order counts followed i → AreFollowed g top count followed
all_skipped have g top count order counts followed i is_order passed are skips = record {
  none = λ a is. let found = skips.none a is in
      let index = index_of order a found.0 in
      stopped_zero (count a) (same_Some (saturated (count a)) 0 (sym (count_of count order counts index.0 a are index.1) ∙ found.1));
  all = λ a reached nothing. let index = reached_index have g top a order is_order reached in
      skips.all index.0 a (omega (arith, slice_get_within order index.0 a index.1, passed)) index.1
      (count_of count order counts index.0 a are index.1 ∙ ap (λ n. Some (saturated n)) nothing);
}
