-- Numbers that are linked one after the other, and the walk along them.
use Rattle.std.proofs.Common.{◌≡◌, ◌≢◌, ℕ, ◌<◌, List, [], ◌∷◌, ◌⊎◌, inl, inr, length, sym, ap, refl, subst, arith, Contains}
use Rattle.list_base.proofs.Members.{here, here_same, there, nowhere, cons_cases}
use Rattle.clause_core.specs.declared.literal.Lit.{Lit}
use Rattle.sat_trail.specs.declared.watch.Cell.{Cell}
use Rattle.sat_trail.specs.inner.Watches.{cell_of, HasLink, Watches, head_of, IsChain, IsBefore, IsDistinct, joined, IsListed}
use Rattle.sat_trail.specs.inner.Walk.{IsWalk}
use Rattle.sat_trail.proofs.CellLemmas.{HasLink-watches, link-only}

-- what comes is among all
pub joined-right : (passed rest : List ℕ) (n : ℕ) → Contains rest n → Contains (joined passed rest) n
joined-right [] rest n among = among
joined-right (p ∷ passed) rest n among = joined-right passed (p ∷ rest) n (there p rest n among)

-- what was passed is among all
pub joined-left : (passed rest : List ℕ) (n : ℕ) → Contains passed n → Contains (joined passed rest) n
joined-left [] rest n among = absurd (nowhere n among)
joined-left (p ∷ passed) rest n among = elim (cons_cases p passed n among) [
  | inl same ↦ joined-right passed (p ∷ rest) n (here_same p rest n same)
  | inr later ↦ joined-left passed (p ∷ rest) n later
]

-- each was passed or comes
pub joined-cases : (passed rest : List ℕ) (n : ℕ) → Contains (joined passed rest) n → Contains passed n ⊎ Contains rest n
joined-cases [] rest n among = inr among
joined-cases (p ∷ passed) rest n among = elim (joined-cases passed (p ∷ rest) n among) [
  | inl left ↦ inl (there p passed n left)
  | inr right ↦ elim (cons_cases p rest n right) [
    | inl same ↦ inl (here_same p passed n same)
    | inr later ↦ inr later
  ]
]

-- what comes is distinct
pub distinct-right : (passed rest : List ℕ) → IsDistinct (joined passed rest) → IsDistinct rest
distinct-right [] rest distinct = distinct
distinct-right (p ∷ passed) rest distinct = (distinct-right passed (p ∷ rest) distinct).1

-- what was passed does not come
pub distinct-apart : (passed rest : List ℕ) (n : ℕ) → IsDistinct (joined passed rest) → Contains passed n → Contains rest n → ⊥
distinct-apart [] rest n distinct among later = nowhere n among
distinct-apart (p ∷ passed) rest n distinct among later = elim (cons_cases p passed n among) [
  | inl same ↦ (distinct-right passed (p ∷ rest) distinct).0 (subst (Contains rest) (sym same) later)
  | inr left ↦ distinct-apart passed (p ∷ rest) n distinct left (there p rest n later)
]

-- the last that was passed was not passed before
pub distinct-last : (p : ℕ) (passed rest : List ℕ) (n : ℕ) → IsDistinct (joined (p ∷ passed) rest) → Contains passed n → n ≢ p
distinct-last p passed rest n distinct among same =
    distinct-apart passed (p ∷ rest) n distinct among (here_same p rest n (sym same))

-- fewer that come are distinct too
pub distinct-weaker : (passed big small : List ℕ) → ((m : ℕ) → Contains small m → Contains big m) → IsDistinct small → IsDistinct (joined passed big) → IsDistinct (joined passed small)
distinct-weaker [] big small within alone distinct = alone
distinct-weaker (p ∷ passed) big small within alone distinct =
    distinct-weaker passed (p ∷ big) (p ∷ small)
    (λ m among. elim (cons_cases p small m among) [
      | inl same ↦ here_same p big m same
      | inr later ↦ there p big m (within m later)
    ])
    ((λ among. (distinct-right passed (p ∷ big) distinct).0 (within p among)), alone) distinct

-- a chain over cells that keep its links
pub chain-frame : (cells new : List Cell) (l : Lit) (first : ℕ) (list : List ℕ) → length new ≡ length cells → ((n : ℕ) → Contains list n → (next : ℕ) → HasLink (cell_of cells n) l next → HasLink (cell_of new n) l next) → IsChain cells l first list → IsChain new l first list
chain-frame cells new l first [] many keeps chain = chain
chain-frame cells new l first (n ∷ rest) many keeps chain = (
  chain.0,
  chain.1,
  subst (λ k. n < k) (sym many) chain.2,
  (chain.3.0, keeps n (here n rest) chain.3.0 chain.3.1, chain-frame cells new l chain.3.0 rest many (λ m among. keeps m (there n rest m among)) chain.3.2),
)

-- what was passed, over cells that keep its links
pub before-frame : (cells new : List Cell) (l : Lit) (first : ℕ) (passed : List ℕ) (number : ℕ) → length new ≡ length cells → ((n : ℕ) → Contains passed n → (next : ℕ) → HasLink (cell_of cells n) l next → HasLink (cell_of new n) l next) → IsBefore cells l first passed number → IsBefore new l first passed number
before-frame cells new l first [] number many keeps before = before
before-frame cells new l first (n ∷ earlier) number many keeps before = (
  before.0,
  subst (λ k. n < k) (sym many) before.1,
  keeps n (here n earlier) number before.2,
  before-frame cells new l first earlier n many (λ m among. keeps m (there n earlier m among)) before.3,
)

-- the numbers of a chain are from 1 on, and their clauses watch the literal
pub chain-member : (cells : List Cell) (l : Lit) (first : ℕ) (list : List ℕ) (n : ℕ) → IsChain cells l first list → Contains list n → (0 < n) × (n < length cells) × Watches (cell_of cells n) l
chain-member cells l first [] n chain among = absurd (nowhere n among)
chain-member cells l first (m ∷ rest) n chain among = elim (cons_cases m rest n among) [
  | inl same ↦ subst (λ k. (0 < k) × (k < length cells) × Watches (cell_of cells k) l) same (chain.1, chain.2, HasLink-watches (cell_of cells m) l chain.3.0 chain.3.1)
  | inr later ↦ chain-member cells l chain.3.0 rest n chain.3.2 later
]

-- so are those that were passed
pub before-member : (cells : List Cell) (l : Lit) (first : ℕ) (passed : List ℕ) (number n : ℕ) → IsBefore cells l first passed number → Contains passed n → (0 < n) × (n < length cells) × Watches (cell_of cells n) l
before-member cells l first [] number n before among = absurd (nowhere n among)
before-member cells l first (m ∷ earlier) number n before among = elim (cons_cases m earlier n among) [
  | inl same ↦ subst (λ k. (0 < k) × (k < length cells) × Watches (cell_of cells k) l) same (before.0, before.1, HasLink-watches (cell_of cells m) l number before.2)
  | inr later ↦ before-member cells l first earlier m n before.3 later
]

-- what was passed and what comes are one chain
pub rejoin : (cells : List Cell) (l : Lit) (first : ℕ) (passed rest : List ℕ) (number : ℕ) → IsBefore cells l first passed number → IsChain cells l number rest → IsChain cells l first (joined passed rest)
rejoin cells l first [] rest number before chain = subst (λ k. IsChain cells l k rest) (sym before) chain
rejoin cells l first (p ∷ earlier) rest number before chain =
    rejoin cells l first earlier (p ∷ rest) p before.3 (refl, before.0, before.1, (number, before.2, chain))

-- a walk begins with the list
pub walk-start : (cells : List Cell) (heads : List ℕ) (l : Lit) (listed : IsListed cells heads l) → IsWalk cells heads l [] listed.list 0 (head_of heads l)
walk-start cells heads l listed = record {
  last = refl;
  linked = refl;
  chain = listed.chain;
  distinct = listed.distinct;
  covers = listed.covers;
  apart = listed.apart;
}

-- where a walk stops, the list is whole
pub walk-end : (cells : List Cell) (heads : List ℕ) (l : Lit) (passed rest : List ℕ) (before number : ℕ) → IsWalk cells heads l passed rest before number → IsListed cells heads l
walk-end cells heads l passed rest before number walk = record {
  list = joined passed rest;
  chain = rejoin cells l (head_of heads l) passed rest number walk.linked walk.chain;
  distinct = walk.distinct;
  covers = walk.covers;
  apart = walk.apart;
}

-- the clause that comes watches the literal
pub walk-member : (cells : List Cell) (heads : List ℕ) (l : Lit) (passed rest : List ℕ) (before number : ℕ) → IsWalk cells heads l passed (number ∷ rest) before number → (0 < number) × (number < length cells) × Watches (cell_of cells number) l
walk-member cells heads l passed rest before number walk =
    (walk.chain.1, walk.chain.2, HasLink-watches (cell_of cells number) l walk.chain.3.0 walk.chain.3.1)

-- what comes after the next clause
pub walk-rest : (cells : List Cell) (heads : List ℕ) (l : Lit) (passed rest : List ℕ) (before number next : ℕ) → IsWalk cells heads l passed (number ∷ rest) before number → HasLink (cell_of cells number) l next → IsChain cells l next rest
walk-rest cells heads l passed rest before number next walk link =
    subst (λ k. IsChain cells l k rest)
    (link-only (cell_of cells number) l walk.chain.3.0 next (walk.apart number (walk-member cells heads l passed rest before number walk).2) walk.chain.3.1 link)
    walk.chain.3.2

-- one more clause was passed
pub walk-stays : (cells : List Cell) (heads : List ℕ) (l : Lit) (passed rest : List ℕ) (before number next : ℕ) → IsWalk cells heads l passed (number ∷ rest) before number → HasLink (cell_of cells number) l next → IsWalk cells heads l (number ∷ passed) rest number next
walk-stays cells heads l passed rest before number next walk link = record {
  last = refl;
  linked = (walk.chain.1, walk.chain.2, link, walk.linked);
  chain = walk-rest cells heads l passed rest before number next walk link;
  distinct = walk.distinct;
  covers = walk.covers;
  apart = walk.apart;
}

-- if there is a next clause, it comes
pub walk-next : (cells : List Cell) (heads : List ℕ) (l : Lit) (passed rest : List ℕ) (before number : ℕ) → IsWalk cells heads l passed rest before number → number ≢ 0 → (later : List ℕ) × (rest ≡ number ∷ later)
walk-next cells heads l passed [] before number walk some = absurd (some walk.chain)
walk-next cells heads l passed (n ∷ later) before number walk some = (later, ap (λ k. k ∷ later) (sym walk.chain.0))

-- if there is none, all were passed
pub walk-none : (cells : List Cell) (heads : List ℕ) (l : Lit) (passed rest : List ℕ) (before number : ℕ) → IsWalk cells heads l passed rest before number → number ≡ 0 → rest ≡ []
walk-none cells heads l passed [] before number walk none = refl
walk-none cells heads l passed (n ∷ later) before number walk none = absurd (omega (arith, walk.chain.0, walk.chain.1, none))
