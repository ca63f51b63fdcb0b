-- Two lists item beside item: each item of the first has a partner in the second.
use Rattle.std.proofs.Common.{◌≡◌, ◌≢◌, zero, suc, Bool, List, [], ◌∷◌, length, inl, inr, sym, ap, ◌∙◌, subst, arith, Contains}
use Rattle.std.specs.List.{AllPairs, filter, zip}
use Rattle.std.proofs.lemmas.Bool.{cond_both}
use Rattle.list_base.proofs.Filtered.{filtered_member}
use Rattle.list_base.proofs.Members.{cons_cases, here_same, nowhere, there}

-- the first part of a pair is a member of the first list
pub zipped_member : {K V : Type 0} (ks : List K) (vs : List V) (k : K) (v : V) → Contains (zip ks vs) (k, v) → Contains ks k
zipped_member [] vs k v among = absurd (nowhere (k, v) among)
zipped_member (l ∷ ks) [] k v among = absurd (nowhere (k, v) among)
zipped_member (l ∷ ks) (w ∷ vs) k v among = elim (cons_cases (l, w) (zip ks vs) (k, v) among) [
  | inl is ↦ here_same l ks k (ap (λ p. p.0) is)
  | inr later ↦ there l ks k (zipped_member ks vs k v later)
]

-- each member of the first list has a partner, if the second is as long
pub partner_of : {K V : Type 0} (ks : List K) (vs : List V) (k : K) → length vs ≡ length ks → Contains ks k → (v : V) × Contains (zip ks vs) (k, v)
partner_of [] vs k as_long among = absurd (nowhere k among)
partner_of (l ∷ ks) [] k as_long among = absurd (omega arith)
partner_of (l ∷ ks) (w ∷ vs) k as_long among = elim (cons_cases l ks k among) [
  | inl is ↦ (w, here_same (l, w) (zip ks vs) (k, w) (ap (λ m. (m, w)) is))
  | inr later ↦ let p = partner_of ks vs k (omega arith) later in (p.0, there (l, w) (zip ks vs) (k, p.0) p.1)
]

-- no item comes twice
abbrev pub NoRepeat : {X : Type 0} → List X → Type 0
NoRepeat [] = Unit {0}
NoRepeat (x ∷ xs) = (¬ Contains xs x) × NoRepeat xs

-- items that differ pair by pair
pub no_repeat_from_pairs : {X : Type 0} (xs : List X) → AllPairs (λ x y. x ≢ y) xs → NoRepeat xs
no_repeat_from_pairs [] distinct = tt
no_repeat_from_pairs (x ∷ xs) distinct = (
  (λ again. distinct zero (suc again.0) x (omega arith) (omega (arith, again.1)) (sym again.2)),
  no_repeat_from_pairs xs (λ i j d before within. distinct (suc i) (suc j) d (omega arith) (omega arith)),
)

-- a filter repeats nothing
pub no_repeat_filter : {X : Type 0} (test : X → Bool) (xs : List X) → NoRepeat xs → NoRepeat (filter test xs)
no_repeat_filter test [] once = tt
no_repeat_filter test (x ∷ xs) once =
    let rest = no_repeat_filter test xs once.1 in
    cond_both (test x) _ _ NoRepeat (λ kept. ((λ again. once.0 (filtered_member test xs x again).0), rest)) (λ dropped. rest)

-- if no first part comes twice, each has one partner
pub one_partner : {K V : Type 0} (ks : List K) (vs : List V) (k : K) (v w : V) → NoRepeat ks → Contains (zip ks vs) (k, v) → Contains (zip ks vs) (k, w) → v ≡ w
one_partner [] vs k v w once one other = absurd (nowhere (k, v) one)
one_partner (l ∷ ks) [] k v w once one other = absurd (nowhere (k, v) one)
one_partner (l ∷ ks) (u ∷ vs) k v w once one other =
    elim (cons_cases (l, u) (zip ks vs) (k, v) one) [
      | inl is ↦ elim (cons_cases (l, u) (zip ks vs) (k, w) other) [
        | inl also ↦ sym (ap (λ p. p.1) is) ∙ ap (λ p. p.1) also
        | inr later ↦ absurd (once.0 (subst (Contains ks) (sym (ap (λ p. p.0) is)) (zipped_member ks vs k w later)))
      ]
      | inr later ↦ elim (cons_cases (l, u) (zip ks vs) (k, w) other) [
        | inl is ↦ absurd (once.0 (subst (Contains ks) (sym (ap (λ p. p.0) is)) (zipped_member ks vs k v later)))
        | inr also ↦ one_partner ks vs k v w once.1 later also
      ]
    ]
