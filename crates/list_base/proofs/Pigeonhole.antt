-- Distinct members of a list are at most as many as its items.
use Rattle.std.proofs.Common.{◌≡◌, ◌≢◌, ℕ, zero, suc, ◌<◌, ◌≤◌, List, [], ◌∷◌, ◌++◌, length, get_or, sym, ap, arith, subst, ⊎_elim}
use Rattle.std.specs.List.{All, AllPairs, Contains}
use Rattle.std.proofs.lemmas.List.{length-append}
use Rattle.std.proofs.lemmas.List.Elements.{All-head, All-tail, Contains-append_cases, Contains-append_left, Contains-append_right}

-- an item at an index parts the list
pub parted : {X : Type 0} (ys : List X) (k : ℕ) (x : X) → k < length ys → get_or ys k x ≡ x → (before : List X) × (after : List X) × (ys ≡ before ++ x ∷ after)
parted [] k x within is = absurd (omega (arith, within))
parted {X} (y ∷ ys) zero x within is = ([], ys, ap (λ (z : X). z ∷ ys) is)
parted {X} (y ∷ ys) (suc k) x within is =
    let rest = parted ys k x (omega (arith, within)) is in
    (y ∷ rest.0, rest.1, ap (λ (list : List X). y ∷ list) rest.2)

-- a member of a list is its first item or a member of the rest
head_or_rest : {X : Type 0} (y : X) (ys : List X) (x : X) → Contains (y ∷ ys) x → (x ≢ y) → Contains ys x
head_or_rest y ys x (zero, within, is) other = absurd (other (sym is))
head_or_rest y ys x (suc k, within, is) other = (k, omega (arith, within), is)

-- a member that is another item is still there without that item
without : {X : Type 0} (before after : List X) (y x : X) → Contains (before ++ y ∷ after) x → (x ≢ y) → Contains (before ++ after) x
without before after y x member other =
    ⊎_elim (λ early. Contains-append_left before after x early)
    (λ late. Contains-append_right before after x (head_or_rest y after x late other))
    (Contains-append_cases before (y ∷ after) x member)

-- the distinct items are at most as many
pub few_distinct : {X : Type 0} (xs ys : List X) → AllPairs ◌≢◌ xs → All (Contains ys) xs → length xs ≤ length ys
few_distinct [] ys distinct members = omega arith
few_distinct {X} (x ∷ xs) ys distinct members =
    let member = All-head (Contains ys) x xs members in
    let parts = parted ys member.0 x member.1 member.2 in
    let rest : All (Contains (parts.0 ++ parts.1)) xs =
    λ k d within.
    without parts.0 parts.1 x (get_or xs k d) (subst_list ys (parts.0 ++ x ∷ parts.1) (get_or xs k d) parts.2 (All-tail (Contains ys) x xs members k d within))
    (λ same. distinct 0 (suc k) d (omega arith) (omega (arith, within)) (sym same)) in
    let fewer : length xs ≤ length (parts.0 ++ parts.1) = few_distinct xs (parts.0 ++ parts.1) (λ i j d less within. distinct (suc i) (suc j) d (omega (arith, less)) (omega (arith, within))) rest in
    omega (arith, fewer, ap length parts.2, length-append parts.0 (x ∷ parts.1), length-append parts.0 parts.1)
  where
    subst_list : {Y : Type 0} (as' bs : List Y) (y : Y) → as' ≡ bs → Contains as' y → Contains bs y
    subst_list {Y} as' bs y same member = subst (λ (list : List Y). Contains list y) same member
