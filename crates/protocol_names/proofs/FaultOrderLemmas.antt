-- What is found of two sorts of faults, and of a list.
use Rattle.std.proofs.Common.{◌≡◌, ℕ, ◌+◌, ◌<◌, ◌≤◌, ◌⊎◌, Bool, true, false, cond, List, [], ◌∷◌, ◌++◌, length, get_or, take, Option, Some, None, refl, sym, ◌∙◌, ap, subst, arith, inl, inr, ⊎_elim}
use Rattle.std.proofs.lemmas.Bool.{cases_lt}
use Rattle.std.proofs.lemmas.Bool.Decides.{nat_tests}
use Rattle.std.proofs.lemmas.List.{take_all, take_more}
use Rattle.std.proofs.lemmas.List.Elements.{Contains-push, Contains-push_cases, Contains-append_left}
use Rattle.protocol_names.specs.declared.fault.DocumentFault.{DocumentFault}
use Rattle.protocol_names.specs.declared.fault.FaultKind.{FaultKind}
use Rattle.protocol_names.specs.FaultOrder.{IsNotAfter, IsFirst, HasNone, FindsFirst, FaultIf, holds, EitherFault, OfSome, fault_before, earlier}

-- the order goes on
not_after_trans : (f g : DocumentFault) (kind : FaultKind) (offset : ℕ) → IsNotAfter f g.kind g.offset → IsNotAfter g kind offset → IsNotAfter f kind offset
not_after_trans f g kind offset (inl p) (inl q) = inl (omega (arith, p, q))
not_after_trans f g kind offset (inl p) (inr q) = inl (omega (arith, p, q.0))
not_after_trans f g kind offset (inr p) (inl q) = inl (omega (arith, p.0, q))
not_after_trans f g kind offset (inr p) (inr q) = inr (p.0 ∙ q.0, omega (arith, p.1, q.1))

-- if the test says that a fault comes before the other, it does
before_is : (f g : DocumentFault) → fault_before g f ≡ true → IsNotAfter g f.kind f.offset
before_is f g is = elim (cases_lt g.offset f.offset) [
  | inl below ↦ inl below
  | inr above ↦ inr (grind (arith, nat_tests))
]

-- and if it does not, the other is not after it
not_before_is : (f g : DocumentFault) → fault_before g f ≡ false → IsNotAfter f g.kind g.offset
not_before_is f g is = elim (cases_lt f.offset g.offset) [
  | inl below ↦ inl below
  | inr above ↦ inr (grind (arith, nat_tests))
]

-- the same faults have the same first one
pub finds_same : (P Q : FaultKind → ℕ → Type 0) (found : Option DocumentFault) → ((kind : FaultKind) (offset : ℕ) → P kind offset → Q kind offset) → ((kind : FaultKind) (offset : ℕ) → Q kind offset → P kind offset) → FindsFirst P found → FindsFirst Q found
finds_same P Q None to from none = λ kind offset q. none kind offset (from kind offset q)
finds_same P Q (Some f) to from first = record { fault = to f.kind f.offset first.fault; least = λ kind offset q. first.least kind offset (from kind offset q) }

-- of two faults the earlier one is the first of both sorts
one_of_two : (P Q : FaultKind → ℕ → Type 0) (f g : DocumentFault) (b : Bool) → fault_before g f ≡ b → IsFirst P f → IsFirst Q g → FindsFirst (EitherFault P Q) (cond b (Some g) (Some f))
one_of_two P Q f g true is one other = record {
  fault = inr other.fault;
  least = λ kind offset either. ⊎_elim (λ p. not_after_trans g f kind offset (before_is f g is) (one.least kind offset p)) (λ q. other.least kind offset q) either;
}
one_of_two P Q f g false is one other = record {
  fault = inl one.fault;
  least = λ kind offset either. ⊎_elim (λ p. one.least kind offset p) (λ q. not_after_trans f g kind offset (not_before_is f g is) (other.least kind offset q)) either;
}

-- the first of both sorts, if there is one
pub finds_either : (P Q : FaultKind → ℕ → Type 0) (a b : Option DocumentFault) → FindsFirst P a → FindsFirst Q b → FindsFirst (EitherFault P Q) (earlier a b)
finds_either P Q None None one other = λ kind offset either. ⊎_elim (one kind offset) (other kind offset) either
finds_either P Q None (Some g) one other = record { fault = inr other.fault; least = λ kind offset either. ⊎_elim (λ p. absurd (one kind offset p)) (other.least kind offset) either }
finds_either P Q (Some f) None one other = record { fault = inl one.fault; least = λ kind offset either. ⊎_elim (one.least kind offset) (λ q. absurd (other kind offset q)) either }
finds_either P Q (Some f) (Some g) one other = one_of_two P Q f g (fault_before g f) refl one other

-- if the fact holds, its fault is the first of the sort
pub holds_first : (Fact : Type 0) (kind : FaultKind) (offset : ℕ) → Fact → IsFirst (FaultIf Fact kind offset) (record { kind = kind; offset = offset })
holds_first Fact kind offset fact = record { fault = holds fact; least = λ k o other. same Fact kind offset k o other }
  where
    same : (Fact : Type 0) (kind : FaultKind) (offset : ℕ) (k : FaultKind) (o : ℕ) → FaultIf Fact kind offset k o → IsNotAfter (record { kind = kind; offset = offset }) k o
    same Fact kind offset k o (holds fact) = inr (refl, omega arith)

-- and where it does not, there is none
pub holds_not : (Fact : Type 0) (kind : FaultKind) (offset : ℕ) → ¬ Fact → HasNone (FaultIf Fact kind offset)
holds_not Fact kind offset never k o (holds fact) = never fact

-- one fact in place of another
pub holds_same : (Fact Other : Type 0) (kind : FaultKind) (offset : ℕ) (found : Option DocumentFault) → (Fact → Other) → (Other → Fact) → FindsFirst (FaultIf Fact kind offset) found → FindsFirst (FaultIf Other kind offset) found
holds_same Fact Other kind offset found to from = finds_same (FaultIf Fact kind offset) (FaultIf Other kind offset) found (instead Fact Other kind offset to) (instead Other Fact kind offset from)
  where
    instead : (A B : Type 0) (kind : FaultKind) (offset : ℕ) → (A → B) → (k : FaultKind) (o : ℕ) → FaultIf A kind offset k o → FaultIf B kind offset k o
    instead A B kind offset to k o (holds fact) = holds (to fact)

-- no item, no fault
pub finds_none : {X : Type 0} (P : X → FaultKind → ℕ → Type 0) → FindsFirst (OfSome P []) None
finds_none P = λ kind offset some. omega (arith, some.among.1)

-- one item more at the end
more : {X : Type 0} (P : X → FaultKind → ℕ → Type 0) (xs : List X) (x : X) (kind : FaultKind) (offset : ℕ) → OfSome P xs kind offset ⊎ P x kind offset → OfSome P (xs ++ x ∷ []) kind offset
more P xs x kind offset (inl some) = record { item = some.item; among = Contains-append_left xs (x ∷ []) some.item some.among; has = some.has }
more P xs x kind offset (inr has) = record { item = x; among = Contains-push xs x; has = has }

-- and the other way
fewer : {X : Type 0} (P : X → FaultKind → ℕ → Type 0) (xs : List X) (x : X) (kind : FaultKind) (offset : ℕ) → OfSome P (xs ++ x ∷ []) kind offset → OfSome P xs kind offset ⊎ P x kind offset
fewer {X} P xs x kind offset some = ⊎_elim (λ among. inl (record { item = some.item; among = among; has = some.has })) (λ same. inr (subst (λ (y : X). P y kind offset) (sym same) some.has)) (Contains-push_cases xs x some.item some.among)

-- so what is found of the longer list
pub finds_push : {X : Type 0} (P : X → FaultKind → ℕ → Type 0) (xs : List X) (x : X) (a b : Option DocumentFault) → FindsFirst (OfSome P xs) a → FindsFirst (P x) b → FindsFirst (OfSome P (xs ++ x ∷ [])) (earlier a b)
finds_push P xs x a b one other = finds_same (EitherFault (OfSome P xs) (P x)) (OfSome P (xs ++ x ∷ [])) (earlier a b) (more P xs x) (fewer P xs x) (finds_either (OfSome P xs) (P x) a b one other)

-- the same in a loop over the items
pub finds_more : {X : Type 0} (P : X → FaultKind → ℕ → Type 0) (xs : List X) (i : ℕ) (x : X) (a b r : Option DocumentFault) → i < length xs → x ≡ get_or xs i x → FindsFirst (OfSome P (take i xs)) a → FindsFirst (P x) b → r ≡ earlier a b → FindsFirst (OfSome P (take (i + 1) xs)) r
finds_more {X} P xs i x a b r within is_item one other is =
    subst (λ (o : Option DocumentFault). FindsFirst (OfSome P (take (i + 1) xs)) o) (sym is)
    (subst (λ (front : List X). FindsFirst (OfSome P front) (earlier a b)) (sym (take_more xs i x within ∙ ap (λ (y : X). take i xs ++ y ∷ []) (sym is_item)))
    (finds_push P (take i xs) x a b one other))

-- and at its end
pub finds_all : {X : Type 0} (P : X → FaultKind → ℕ → Type 0) (xs : List X) (i : ℕ) (r : Option DocumentFault) → length xs ≤ i → FindsFirst (OfSome P (take i xs)) r → FindsFirst (OfSome P xs) r
finds_all {X} P xs i r past finds = subst (λ (ys : List X). FindsFirst (OfSome P ys) r) (take_all i xs past) finds

-- two sorts in turn
pub finds_two : (P Q : FaultKind → ℕ → Type 0) (a b r : Option DocumentFault) → FindsFirst P a → FindsFirst Q b → r ≡ earlier a b → FindsFirst (EitherFault P Q) r
finds_two P Q a b r one other is = subst (λ (o : Option DocumentFault). FindsFirst (EitherFault P Q) o) (sym is) (finds_either P Q a b one other)

-- a list of two
pub finds_pair : {X : Type 0} (P : X → FaultKind → ℕ → Type 0) (x y : X) (a b r : Option DocumentFault) → FindsFirst (P x) a → FindsFirst (P y) b → r ≡ earlier a b → FindsFirst (OfSome P (x ∷ y ∷ [])) r
finds_pair {X} P x y a b r one other is =
    subst (λ (o : Option DocumentFault). FindsFirst (OfSome P (x ∷ y ∷ [])) o) (sym is)
    (finds_push P (x ∷ []) y a b (finds_push P [] x None a (finds_none P) one) other)
