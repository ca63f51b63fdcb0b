-- Literals that are one or differ, and lists that hold one.
use Rattle.std.proofs.Common.{◌≡◌, ◌≢◌, ℕ, Bool, true, false, not, Option, Some, None, List, [], ◌∷◌, ◌⊎◌, inl, inr, take, drop, sym, ap, refl, ◌∙◌, subst, Contains}
use Rattle.std.proofs.lemmas.Bool.{cases_eq}
use Rattle.std.proofs.lemmas.List.{take-append-drop}
use Rattle.std.proofs.lemmas.List.Elements.{Contains-append_left}
use Rattle.list_base.proofs.Members.{here_same, there, nowhere, cons_cases}
use Rattle.clause_core.specs.declared.literal.Lit.{Lit}

-- two truth values are one or differ
pub cases_bool : (a b : Bool) → (a ≡ b) ⊎ (a ≡ not b)
cases_bool true true = inl refl
cases_bool true false = inr refl
cases_bool false true = inr refl
cases_bool false false = inl refl

-- no truth value is its negation
pub not-differs : (b : Bool) → b ≢ not b
not-differs true same = cc
not-differs false same = cc

-- negation undoes itself
pub not-not : (b : Bool) → not (not b) ≡ b
not-not true = refl
not-not false = refl

-- literals with one variable and one sign are one
pub same_literal : (l m : Lit) → l.var ≡ m.var → l.positive ≡ m.positive → l ≡ m
same_literal l m variables signs =
    ap (λ (v : ℕ). let k : Lit = record { var = v; positive = l.positive } in k) variables ∙ ap (λ (b : Bool). let k : Lit = record { var = m.var; positive = b } in k) signs

-- two literals are one or differ
pub cases_literal : (l m : Lit) → (l ≡ m) ⊎ (l ≢ m)
cases_literal l m = elim (cases_eq l.var m.var) [
  | inl variables ↦ elim (cases_bool l.positive m.positive) [
    | inl signs ↦ inl (same_literal l m variables signs)
    | inr opposite ↦ inr (λ same. not-differs m.positive (sym (ap (λ (k : Lit). k.positive) same) ∙ opposite))
  ]
  | inr differs ↦ inr (λ same. differs (ap (λ (k : Lit). k.var) same))
]

-- a list holds a literal or not
pub cases_member : (lits : List Lit) (l : Lit) → Contains lits l ⊎ (¬ Contains lits l)
cases_member [] l = inr (nowhere l)
cases_member (m ∷ rest) l = elim (cases_literal m l) [
  | inl same ↦ inl (here_same m rest l same)
  | inr other ↦ elim (cases_member rest l) [
    | inl among ↦ inl (there m rest l among)
    | inr missing ↦ inr (λ among. elim (cons_cases m rest l among) [ inl same ↦ other same | inr later ↦ missing later ])
  ]
]

-- what a prefix holds, the list holds
pub Contains-take : (i : ℕ) (lits : List Lit) (l : Lit) → Contains (take i lits) l → Contains lits l
Contains-take i lits l among =
    subst (λ ls. Contains ls l) (take-append-drop i lits) (Contains-append_left (take i lits) (drop i lits) l among)

-- a value that is given is not missing
pub some-none : (o : Option Bool) (b : Bool) → o ≡ Some b → o ≡ None → ⊥
some-none o b given missing = cc
