-- What rows keep of their parts as literals come and go, and what is found in them.
use Rattle.std.proofs.Common.{◌≡◌, ◌≢◌, ℕ, ◌-◌, Option, Some, None, IfSome, IfNone, option_map, List, [], ◌∷◌, ◌++◌, length, map, take, slice_get, Contains, AllPairs, sym, ap, ◌∙◌, subst, arith, length-append}
use Rattle.std.proofs.lemmas.List.{map-append, take_at}
use Rattle.std.proofs.lemmas.List.Elements.{All-contains, All-nil, All-push, Contains-get_or, Contains-push}
use Rattle.std.proofs.lemmas.List.Quantifiers.{all_pairs_push}
use Rattle.std.proofs.lemmas.Option.{slice_get-map}
use Rattle.list_base.proofs.Membership.{all_prefix, distinct_prefix, member_at, not_before}
use Rattle.clause_core.specs.declared.literal.Lit.{Lit}
use Rattle.order_axioms.specs.declared.kind_pair.KindPair.{KindPair}
use Rattle.order_axioms.specs.declared.order.Order.{Order}
use Rattle.order_axioms.specs.Cycles.{IsNoPair, IsPair}
use Rattle.order_propagator.specs.declared.bit_rows.BitRows.{BitRows}
use Rattle.order_propagator.specs.declared.order_lit.OrderLit.{OrderLit}
use Rattle.order_propagator.specs.inner.OrderRows.{HasPair, IsLitAt, RowState}
use Rattle.order_propagator.specs.inner.BitRows.{AreBlank, AreRows, HaveRows, AreOrderRows, SetsArc}
use Rattle.order_propagator.proofs.BitRowLemmas.{have-rows, rows-clear, rows-fewer, rows-more, rows-none, rows-put}

-- the literals, and what contracts see
abbrev pub lits_of : List OrderLit → List Lit
lits_of ls = map (λ (l : OrderLit). l.lit) ls

abbrev pub state : Order → List OrderLit → RowState
state order ls = record { order = order; lits = lits_of ls }

lits-push : (ls : List OrderLit) (l : OrderLit) → lits_of (ls ++ l ∷ []) ≡ lits_of ls ++ l.lit ∷ []
lits-push ls l = map-append (λ (k : OrderLit). k.lit) ls (l ∷ [])

pub kept-none : (order : Order) (rows : BitRows) → AreBlank order.kinds rows → AreOrderRows order [] rows
kept-none order rows blank = record {
  pairs = All-nil (HasPair order);
  once = λ i j d less within. absurd (omega (arith, within));
  told = rows-none order rows blank;
}

-- the rows of the literal's pair are there
pub rows-of : (order : Order) (ls : List OrderLit) (l : OrderLit) (rows : BitRows) → AreRows order (lits_of ls) rows → HasPair order l → IfSome l.pair (HaveRows rows)
rows-of order ls l rows told is = by l.pair is.some
  where
    by : (o : Option KindPair) → IfSome o (IsPair order l.lit) → IfSome o (HaveRows rows)
    by None some = tt
    by (Some p) some = have-rows order (lits_of ls) rows l.lit p told some

-- a literal came
pub kept-push : (order : Order) (ls : List OrderLit) (l : OrderLit) (rows new : BitRows) → AreOrderRows order ls rows → ¬ Contains (lits_of ls) l.lit → HasPair order l → IfSome l.pair (λ p. SetsArc rows new p 1) → IfNone l.pair (new ≡ rows) → AreOrderRows order (ls ++ l ∷ []) new
kept-push order ls l rows new kept absent is set same = record {
  pairs = All-push (HasPair order) ls l kept.pairs is;
  once = subst (AllPairs ◌≢◌) (sym (lits-push ls l)) (all_pairs_push ◌≢◌ (lits_of ls) l.lit kept.once (λ k d within equal. absent (subst (Contains (lits_of ls)) equal (Contains-get_or (lits_of ls) k d within))));
  told = subst (λ ks. AreRows order ks new) (sym (lits-push ls l)) (by l.pair is.some is.none set same);
}
  where
    by : (o : Option KindPair) → IfSome o (IsPair order l.lit) → IfNone o (IsNoPair order l.lit) → IfSome o (λ p. SetsArc rows new p 1) → IfNone o (new ≡ rows) → AreRows order (lits_of ls ++ l.lit ∷ []) new
    by None some none sets equal = subst (AreRows order (lits_of ls ++ l.lit ∷ [])) (sym equal) (rows-more order (lits_of ls) l.lit rows none kept.told)
    by (Some p) some none sets equal = rows-put order (lits_of ls) l.lit p rows new kept.told some sets

-- the last literal went
pub last-pair : (order : Order) (ls : List OrderLit) (l : OrderLit) (rows : BitRows) → AreOrderRows order (ls ++ l ∷ []) rows → HasPair order l
last-pair order ls l rows kept = All-contains (HasPair order) (ls ++ l ∷ []) l kept.pairs (Contains-push ls l)

pub pop-rows : (order : Order) (ls : List OrderLit) (l : OrderLit) (rows : BitRows) → AreOrderRows order (ls ++ l ∷ []) rows → IfSome l.pair (HaveRows rows)
pop-rows order ls l rows kept = rows-of order (ls ++ l ∷ []) l rows kept.told (last-pair order ls l rows kept)

pub kept-pop : (order : Order) (ls : List OrderLit) (l : OrderLit) (rows new : BitRows) → AreOrderRows order (ls ++ l ∷ []) rows → IfSome l.pair (λ p. SetsArc rows new p 0) → IfNone l.pair (new ≡ rows) → AreOrderRows order ls new
kept-pop order ls l rows new kept clears same =
    let is = last-pair order ls l rows kept in
    record {
      pairs = all_prefix (HasPair order) ls (l ∷ []) kept.pairs;
      once = distinct_prefix (lits_of ls) (l.lit ∷ []) once;
      told = by l.pair is.some is.none clears same;
    }
  where
    once : AllPairs ◌≢◌ (lits_of ls ++ l.lit ∷ [])
    once = subst (AllPairs ◌≢◌) (lits-push ls l) kept.once

    told : AreRows order (lits_of ls ++ l.lit ∷ []) rows
    told = subst (λ ks. AreRows order ks rows) (lits-push ls l) kept.told

    by : (o : Option KindPair) → IfSome o (IsPair order l.lit) → IfNone o (IsNoPair order l.lit) → IfSome o (λ p. SetsArc rows new p 0) → IfNone o (new ≡ rows) → AreRows order (lits_of ls) new
    by None some none clear equal = subst (AreRows order (lits_of ls)) (sym equal) (rows-fewer order (lits_of ls) l.lit rows none told)
    by (Some p) some none clear equal = rows-clear order (lits_of ls) l.lit p rows new told some (not_before (lits_of ls) l.lit [] once) clear

-- what contracts see of a literal that came or went
pub state-push : (order : Order) (ls : List OrderLit) (l : OrderLit) → state order (ls ++ l ∷ []) ≡ record (state order ls) { lits = lits_of ls ++ l.lit ∷ [] }
state-push order ls l = ap (λ (ks : List Lit). let s : RowState = record { order = order; lits = ks } in s) (lits-push ls l)

pub lits-pop : (ls : List OrderLit) (l : OrderLit) → lits_of ls ≡ take (length (lits_of (ls ++ l ∷ [])) - 1) (lits_of (ls ++ l ∷ []))
lits-pop ls l = sym (ap (take (length (lits_of (ls ++ l ∷ [])) - 1)) (lits-push ls l) ∙ take_at (lits_of ls) (l.lit ∷ []) (length (lits_of (ls ++ l ∷ [])) - 1) (omega (arith, ap length (lits-push ls l), length-append (lits_of ls) (l.lit ∷ []))))

pub state-pop : (order : Order) (ls : List OrderLit) (l : OrderLit) → state order ls ≡ record (state order (ls ++ l ∷ [])) { lits = take (length (lits_of (ls ++ l ∷ [])) - 1) (lits_of (ls ++ l ∷ [])) }
state-pop order ls l = ap (λ (ks : List Lit). let s : RowState = record { order = order; lits = ks } in s) (lits-pop ls l)

-- the literal at an index has its pair
pub lit-at : (order : Order) (ls : List OrderLit) (rows : BitRows) (index : ℕ) (l : OrderLit) → AreOrderRows order ls rows → slice_get ls index ≡ Some l → IsLitAt (state order ls) index l
lit-at order ls rows index l kept got = record {
  there = slice_get-map (λ (k : OrderLit). k.lit) ls index ∙ ap (option_map (λ (k : OrderLit). k.lit)) got;
  pair = All-contains (HasPair order) ls l kept.pairs (member_at ls index l got);
}
