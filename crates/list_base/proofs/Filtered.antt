-- What a filter keeps: its members, their order, and their indices.
use Rattle.std.proofs.Common.{◌≡◌, ℕ, zero, suc, ◌<◌, Bool, true, false, cond, List, [], ◌∷◌, length, take, Some, ⊎_elim, inl, inr, slice_get, refl, sym, ap, ◌∙◌, subst, arith, Contains}
use Rattle.std.specs.List.{filter}
use Rattle.std.proofs.lemmas.Bool.{both_ways, cases_order, cond-true, cond-false, cond_both}
use Rattle.std.proofs.lemmas.Option.{none-some, same_Some}
use Rattle.list_base.proofs.Members.{cons_cases, here_same, nowhere, there}

-- a member that passes the test stays
pub kept_member : {X : Type 0} (test : X → Bool) (xs : List X) (x : X) → test x ≡ true → Contains xs x → Contains (filter test xs) x
kept_member test [] x passes among = among
kept_member test (y ∷ ys) x passes among =
    let later : Contains ys x → Contains (filter test ys) x = kept_member test ys x passes in
    cond_both (test y) _ _ (λ zs. Contains zs x)
    (λ kept. elim (cons_cases y ys x among) [ inl is ↦ here_same y (filter test ys) x is | inr rest ↦ there y (filter test ys) x (later rest) ])
    (λ dropped. elim (cons_cases y ys x among) [ inl is ↦ absurd (both_ways (test y) dropped (ap test is ∙ passes)) | inr rest ↦ later rest ])

-- what stays was a member, and passes the test
pub filtered_member : {X : Type 0} (test : X → Bool) (xs : List X) (x : X) → Contains (filter test xs) x → Contains xs x × (test x ≡ true)
filtered_member test [] x = λ among. absurd (nowhere x among)
filtered_member test (y ∷ ys) x =
    let later : Contains (filter test ys) x → Contains (y ∷ ys) x × (test x ≡ true) = λ rest. (there y ys x (filtered_member test ys x rest).0, (filtered_member test ys x rest).1) in
    cond_both (test y) _ _ (λ zs. Contains zs x → Contains (y ∷ ys) x × (test x ≡ true))
    (λ kept among. elim (cons_cases y (filter test ys) x among) [ inl is ↦ (here_same y ys x is, ap test (sym is) ∙ kept) | inr rest ↦ later rest ])
    (λ dropped. later)

-- an item that passes comes in the filter after those that pass before it
pub filtered_index : {X : Type 0} (test : X → Bool) (xs : List X) (index : ℕ) (x : X) → slice_get xs index ≡ Some x → test x ≡ true → slice_get (filter test xs) (length (filter test (take index xs))) ≡ Some x
filtered_index test [] index x at passes = absurd (none-some x at)
filtered_index test (first ∷ xs) zero x at passes =
    subst (λ ys. slice_get ys 0 ≡ Some x) (sym (cond-true (test first) (first ∷ filter test xs) (filter test xs) (ap test (same_Some first x at) ∙ passes))) at
filtered_index test (first ∷ xs) (suc index) x at passes =
    let rest = filtered_index test xs index x at passes in
    elim (test first) as (λ b. slice_get (cond b (first ∷ filter test xs) (filter test xs)) (length (cond b (first ∷ filter test (take index xs)) (filter test (take index xs)))) ≡ Some x) [ true ↦ rest | false ↦ rest ]

-- later items that pass come later in the filter
pub filtered_order : {X : Type 0} (test : X → Bool) (xs : List X) (index later : ℕ) (x : X) → slice_get xs index ≡ Some x → test x ≡ true → index < later → length (filter test (take index xs)) < length (filter test (take later xs))
filtered_order test [] index later x at passes in_order = absurd (none-some x at)
filtered_order test (first ∷ xs) index zero x at passes in_order = absurd (omega arith)
filtered_order test (first ∷ xs) zero (suc later) x at passes in_order =
    subst (λ ys. 0 < length ys) (sym (cond-true (test first) (first ∷ filter test (take later xs)) (filter test (take later xs)) (ap test (same_Some first x at) ∙ passes))) (omega arith)
filtered_order test (first ∷ xs) (suc index) (suc later) x at passes in_order =
    let rest : length (filter test (take index xs)) < length (filter test (take later xs)) = filtered_order test xs index later x at passes (omega arith) in
    elim (test first) as (λ b. length (cond b (first ∷ filter test (take index xs)) (filter test (take index xs))) < length (cond b (first ∷ filter test (take later xs)) (filter test (take later xs)))) [ true ↦ omega arith | false ↦ rest ]

-- the index in the list of an item of the filter
pub record FoundAt {X : Type 0} (test : X → Bool) (xs : List X) (found : ℕ) (x : X) : Type 0 where
  pub index : ℕ
  pub at : slice_get xs index ≡ Some x
  pub passes : test x ≡ true
  pub count : length (filter test (take index xs)) ≡ found

-- one more item before, which passes
after_kept : {X : Type 0} (test : X → Bool) (first : X) (xs : List X) (found : ℕ) (x : X) → test first ≡ true → FoundAt test xs found x → FoundAt test (first ∷ xs) (suc found) x
after_kept test first xs found x kept rest =
    record {
      index = suc rest.index;
      at = rest.at;
      passes = rest.passes;
      count = ap length (cond-true (test first) (first ∷ filter test (take rest.index xs)) (filter test (take rest.index xs)) kept) ∙ ap suc rest.count;
    }

-- one more item before, which does not pass
after_dropped : {X : Type 0} (test : X → Bool) (first : X) (xs : List X) (found : ℕ) (x : X) → test first ≡ false → FoundAt test xs found x → FoundAt test (first ∷ xs) found x
after_dropped test first xs found x dropped rest =
    record {
      index = suc rest.index;
      at = rest.at;
      passes = rest.passes;
      count = ap length (cond-false (test first) (first ∷ filter test (take rest.index xs)) (filter test (take rest.index xs)) dropped) ∙ rest.count;
    }

-- the first item passes
at_kept : {X : Type 0} (test : X → Bool) (first : X) (xs : List X) (found : ℕ) (x : X) → test first ≡ true → ((k : ℕ) → slice_get (filter test xs) k ≡ Some x → FoundAt test xs k x) → slice_get (first ∷ filter test xs) found ≡ Some x → FoundAt test (first ∷ xs) found x
at_kept test first xs zero x kept rest at = record { index = 0; at = at; passes = sym (ap test (same_Some first x at)) ∙ kept; count = refl }
at_kept test first xs (suc found) x kept rest at = after_kept test first xs found x kept (rest found at)

-- each item of the filter has an index in the list
pub unfiltered_index : {X : Type 0} (test : X → Bool) (xs : List X) (found : ℕ) (x : X) → slice_get (filter test xs) found ≡ Some x → FoundAt test xs found x
unfiltered_index test [] found x = λ at. absurd (none-some x at)
unfiltered_index test (first ∷ xs) found x =
    cond_both (test first) (first ∷ filter test xs) (filter test xs) (λ ys. slice_get ys found ≡ Some x → FoundAt test (first ∷ xs) found x)
    (λ kept. at_kept test first xs found x kept (λ k. unfiltered_index test xs k x))
    (λ dropped at. after_dropped test first xs found x dropped (unfiltered_index test xs found x at))

-- a later index in the filter is a later one in the list
pub unfiltered_order : {X : Type 0} (test : X → Bool) (xs : List X) (first second : ℕ) (x y : X) (at : FoundAt test xs first x) (later : FoundAt test xs second y) → first < second → at.index < later.index
unfiltered_order test xs first second x y at later in_order =
    ⊎_elim
    (λ (same : at.index ≡ later.index). let equal : length (filter test (take at.index xs)) ≡ length (filter test (take later.index xs)) = ap (λ k. length (filter test (take k xs))) same in let one = at.count in let other = later.count in absurd (omega arith))
    (⊎_elim
    (λ (before : at.index < later.index). before)
    (λ (after : later.index < at.index). let less = filtered_order test xs later.index at.index y later.at later.passes after in let one = at.count in let other = later.count in absurd (omega arith)))
    (cases_order at.index later.index)
