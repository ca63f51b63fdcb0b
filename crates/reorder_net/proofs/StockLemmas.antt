-- The lists of new mailboxes, as they are dealt to the roles.
use Rattle.std.proofs.Common.{◌≡◌, ◌≢◌, ℕ, ◌+◌, ◌-◌, ◌<◌, ◌≤◌, true, not, List, [], ◌∷◌, ◌++◌, length, set, replicate, drop, Some, slice_get, sym, ap, ◌∙◌, subst, inl, inr, arith, length-set, length-append}
use Rattle.std.specs.Prelude.{nat_lt}
use Rattle.std.proofs.lemmas.Bool.{cases_eq}
use Rattle.std.proofs.lemmas.Bool.Decides.{nat_tests}
use Rattle.std.proofs.lemmas.List.{drop-replicate, take-replicate}
use Rattle.std.proofs.lemmas.Option.{same_Some, slice_get_within}
use Rattle.bspl_types.specs.declared.envelope.Envelope.{Envelope}
use Rattle.reorder_net.specs.declared.hold.Hold.{Hold}
use Rattle.reorder_net.specs.declared.passes.RolePasses.{RolePasses}
use Rattle.reorder_net.specs.Hold.{sender}
use Rattle.reorder_net.specs.Pass.{BoxId, PassState}
use Rattle.reorder_net.specs.Passes.{AreFresh}
use Rattle.reorder_net.specs.inner.Moves.{deal, dealt, first_hold, named}
use Rattle.reorder_net.specs.inner.Stock.{low_at, stock, AreFreshPuts, AreStocks}
use Rattle.reorder_net.proofs.ItemLemmas.{append_here, append_last, last_cases, set_else, set_here}

-- a pass by its two parts
pub parts : (p : PassState) (box : BoxId) (hold : Hold) → p.box ≡ box → p.hold ≡ hold → p ≡ record { box = box; hold = hold }
parts p box hold own is = λ i. record { box = own i; hold = is i }

-- who takes, while the first roles have theirs
still_takes : (q roles : ℕ) → roles ≤ q → not (nat_lt q roles) ≡ true
still_takes q roles past = grind (arith, nat_tests)

-- a first pass has all of a mailbox's stock
first_stock : (home : ℕ) → named home first_hold ≡ stock 0 home 0
first_stock home = ap (λ b. record (named home first_hold) { takes = b }) (sym (still_takes home 0 (omega arith)))

dealt_stock : (roles q low : ℕ) → dealt (stock roles q low) ≡ stock roles q (low + 1)
dealt_stock roles q low =
    let left : drop 1 (replicate (8 - low) []) ≡ replicate (8 - (low + 1)) [] = drop-replicate 1 (8 - low) [] ∙ ap (λ n. replicate n []) (omega arith) in
    ap (λ (l : List (List Envelope)). record (stock roles q (low + 1)) { puts = l }) left

-- and the list that it deals
deal_stock : (roles q low : ℕ) → low < 8 → deal (stock roles q low) ≡ sender q low []
deal_stock roles q low few = ap (λ (l : List (List Envelope)). record (sender q low []) { puts = l }) (take-replicate 1 (8 - low) [] (omega arith))

-- the stocks of one mailbox more
pub stocks_more : (boxes boxes' : List BoxId) (wholes wholes' : List PassState) (box : BoxId) (whole : PassState) (home : ℕ) → boxes' ≡ boxes ++ box ∷ [] → wholes' ≡ wholes ++ whole ∷ [] → length boxes ≡ home → whole.box ≡ box → whole.hold ≡ named home first_hold → AreStocks boxes 0 (λ _. 0) wholes
    → AreStocks boxes' 0 (λ _. 0) wholes'
stocks_more boxes boxes' wholes wholes' box whole home more more' count own is are =
    subst (λ (y : List BoxId × List PassState). AreStocks y.0 0 (λ _. 0) y.1) (λ i. (sym more i, sym more' i)) (record {
      count = omega (arith, count, are.count, length-append boxes (box ∷ []), length-append wholes (whole ∷ []));
      each = λ q b at. elim (last_cases boxes box q b at) [
        | inl here ↦ append_here wholes (whole ∷ []) q (record { box = b; hold = stock 0 q 0 }) (are.each q b here)
        | inr (last, same) ↦
            let hold : whole.hold ≡ stock 0 q 0 = is ∙ first_stock home ∙ ap (λ n. stock 0 n 0) (sym count ∙ sym last) in
            let place : length wholes ≡ q = are.count ∙ sym last in
            subst (λ k. slice_get (wholes ++ whole ∷ []) k ≡ Some whole) place (append_last wholes whole) ∙ ap Some (parts whole b (stock 0 q 0) (own ∙ same) hold)
      ];
    })

-- the stocks by other words for what they have dealt
pub stocks_same : (boxes : List BoxId) (roles : ℕ) (low low' : ℕ → ℕ) (wholes : List PassState) → ((q : ℕ) → q < length boxes → low q ≡ low' q) → AreStocks boxes roles low wholes → AreStocks boxes roles low' wholes
stocks_same boxes roles low low' wholes same are = record {
  count = are.count;
  each = λ q box at. are.each q box at ∙ ap (λ n. Some (record { box = box; hold = stock roles q n })) (same q (slice_get_within boxes q box at));
}

pub all_dealt : (role boxes q : ℕ) → q < boxes → low_at role boxes q ≡ role + 1
all_dealt role boxes q within = grind (arith, nat_tests)

pub next_deals : (role q : ℕ) → low_at role q q ≡ role
next_deals role q = grind (arith, nat_tests)

same_deals : (role q k : ℕ) → k ≢ q → low_at role q k ≡ low_at role (q + 1) k
same_deals role q k apart = grind (arith, nat_tests)

-- what the pass to a mailbox is, of which an index is known
pub stock_at : (boxes : List BoxId) (roles : ℕ) (low : ℕ → ℕ) (wholes : List PassState) (q : ℕ) (box : BoxId) (whole : PassState) → AreStocks boxes roles low wholes → slice_get boxes q ≡ Some box → slice_get wholes q ≡ Some whole → whole ≡ record { box = box; hold = stock roles q (low q) }
stock_at boxes roles low wholes q box whole are at found = same_Some whole (record { box = box; hold = stock roles q (low q) }) (sym found ∙ are.each q box at)

-- the pass to one mailbox more deals a list
pub stocks_dealt : (boxes : List BoxId) (role q : ℕ) (wholes : List PassState) (box : BoxId) (old new : PassState) → AreStocks boxes (role + 1) (low_at role q) wholes → slice_get boxes q ≡ Some box → slice_get wholes q ≡ Some old → new.box ≡ box → new.hold ≡ dealt old.hold → AreStocks boxes (role + 1) (low_at role (q + 1)) (set wholes q new)
stocks_dealt boxes role q wholes box old new are at found own is = record {
  count = length-set wholes q new ∙ are.count;
  each = λ k b there. elim (cases_eq k q) [
    | inl same ↦
        let one : box ≡ b = same_Some box b (sym at ∙ subst (λ n. slice_get boxes n ≡ Some b) same there) in
        let was : old.hold ≡ stock (role + 1) q role = ap (λ p. p.hold) (stock_at boxes (role + 1) (low_at role q) wholes q box old are at found) ∙ ap (stock (role + 1) q) (next_deals role q) in
        let low : role + 1 ≡ low_at role (q + 1) k = sym (all_dealt role (q + 1) k (omega (arith, same))) in
        let hold : new.hold ≡ stock (role + 1) k (low_at role (q + 1) k) = is ∙ ap dealt was ∙ dealt_stock (role + 1) q role ∙ λ i. stock (role + 1) (sym same i) (low i) in
        subst (λ n. slice_get (set wholes q new) n ≡ Some new) (sym same) (set_here wholes q new old found) ∙ ap Some (parts new b (stock (role + 1) k (low_at role (q + 1) k)) (own ∙ one) hold)
    | inr apart ↦ set_else wholes q k new apart ∙ are.each k b there
        ∙ ap (λ n. Some (record { box = b; hold = stock (role + 1) k n })) (same_deals role q k apart)
  ];
}

-- the pass that is dealt is an unused one of the role
pub fresh_dealt : (boxes : List BoxId) (role q : ℕ) (wholes : List PassState) (box : BoxId) (old new : PassState) → role < 8 → AreStocks boxes (role + 1) (low_at role q) wholes → slice_get boxes q ≡ Some box → slice_get wholes q ≡ Some old → new.box ≡ box → new.hold ≡ deal old.hold → new ≡ record { box = box; hold = sender q role [] }
fresh_dealt boxes role q wholes box old new few are at found own is =
    let was : old.hold ≡ stock (role + 1) q role = ap (λ p. p.hold) (stock_at boxes (role + 1) (low_at role q) wholes q box old are at found) ∙ ap (stock (role + 1) q) (next_deals role q) in
    parts new box (sender q role []) own (is ∙ ap deal was ∙ deal_stock (role + 1) q role few)

-- the passes to the first mailboxes are unused ones of the role
pub record AreFirstFresh (boxes : List BoxId) (role q : ℕ) (puts : List PassState) : Type 0 where
  pub count : length puts ≡ q
  pub each : (k : ℕ) (box : BoxId) → k < q → slice_get boxes k ≡ Some box → slice_get puts k ≡ Some (record { box = box; hold = sender k role [] })

pub fresh_more : (boxes : List BoxId) (role q : ℕ) (puts longer : List PassState) (box : BoxId) (new : PassState) → longer ≡ puts ++ new ∷ [] → AreFirstFresh boxes role q puts → slice_get boxes q ≡ Some box → new ≡ record { box = box; hold = sender q role [] } → AreFirstFresh boxes role (q + 1) longer
fresh_more boxes role q puts longer box new more are at is = subst (AreFirstFresh boxes role (q + 1)) (sym more) (record {
  count = omega (arith, are.count, length-append puts (new ∷ []));
  each = λ k b within there. elim (cases_eq k q) [
    | inl same ↦
        let one : box ≡ b = same_Some box b (sym at ∙ subst (λ n. slice_get boxes n ≡ Some b) same there) in
        let place : length puts ≡ k = are.count ∙ sym same in
        subst (λ n. slice_get (puts ++ new ∷ []) n ≡ Some new) place (append_last puts new) ∙ ap Some (is ∙ λ i. record { box = one i; hold = sender (sym same i) role [] })
    | inr apart ↦ append_here puts (new ∷ []) k (record { box = b; hold = sender k role [] }) (are.each k b (omega (arith, within, apart)) there)
  ];
})

-- all of them are
pub all_fresh : (boxes : List BoxId) (role q : ℕ) (puts : List PassState) → q ≡ length boxes → AreFirstFresh boxes role q puts → AreFreshPuts boxes role puts
all_fresh boxes role q puts all are = record {
  count = are.count ∙ all;
  each = λ k box at. are.each k box (omega (arith, slice_get_within boxes k box at, all)) at;
}

-- the passes of one role more
pub all_roles_fresh : (boxes : List BoxId) (list longer : List RolePasses) (role : ℕ) (passes : RolePasses) → longer ≡ list ++ passes ∷ [] → length list ≡ role → AreFresh boxes role passes → ((k : ℕ) (p : RolePasses) → slice_get list k ≡ Some p → AreFresh boxes k p) → (k : ℕ) (p : RolePasses) → slice_get longer k ≡ Some p → AreFresh boxes k p
all_roles_fresh boxes list longer role passes more count fresh old k p at = elim (last_cases list passes k p (ap (λ l. slice_get l k) (sym more) ∙ at)) [
  | inl here ↦ old k p here
  | inr (last, same) ↦ subst (λ (y : ℕ × RolePasses). AreFresh boxes y.0 y.1) (λ i. ((sym count ∙ sym last) i, same i)) fresh
]
