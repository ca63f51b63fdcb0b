-- The choice of the two literals that a new clause is to watch.
use Rattle.std.proofs.Common.{◌≡◌, ◌≢◌, ℕ, ◌+◌, ◌<◌, ◌≤◌, Option, Some, None, IfSome, List, inl, inr, length, take, get_or, sym, ap, refl, ◌∙◌, subst, arith, Contains}
use Rattle.std.proofs.lemmas.Bool.{cases_lt}
use Rattle.std.proofs.lemmas.List.{take_more, take_all}
use Rattle.std.proofs.lemmas.List.Elements.{All-contains, Contains-push_cases, Contains-get_or}
use Rattle.clause_core.specs.declared.literal.Lit.{Lit}
use Rattle.clause_core.specs.Clause.{VariablesExist}
use Rattle.clause_core.specs.Propagation.{MakesFalse}
use Rattle.sat_trail.specs.declared.entry.Entry.{Entry}
use Rattle.sat_trail.specs.Entry.{values_of}
use Rattle.sat_trail.specs.Trail.{IsOpen, HasTwoOpen}
use Rattle.sat_trail.specs.inner.Attach.{IsFreeBeside, IsNotFreeBeside, AreNotFree, IsLeft, MayWatch, AreClosed, AreChosen}
use Rattle.sat_trail.proofs.LiteralLemmas.{cases_literal}
use Rattle.sat_trail.proofs.ForceLemmas.{PassedFalse, PassedFalse-more, PassedFalse-all}

-- what the literals that were passed say
pub record IsSought (es : List Entry) (level : ℕ) (clause : List Lit) (kept : Lit) (found : Option Lit) (i : ℕ) : Type 0 where
  pub fails : PassedFalse es (take i clause) kept
  pub open_one : IfSome found (λ l. Contains clause l × (l ≢ kept) × IsOpen es level l)
  pub closed : found ≡ None → (m : Lit) → Contains (take i clause) m → m ≢ kept → ¬ IsOpen es level m

-- one more literal, which is open
pub sought-open : (es : List Entry) (level : ℕ) (clause : List Lit) (kept : Lit) (found : Option Lit) (i : ℕ) (d : Lit) → i < length clause → IsSought es level clause kept found i → (get_or clause i d ≢ kept → MakesFalse (values_of es) (get_or clause i d)) → (get_or clause i d ≢ kept) × IsOpen es level (get_or clause i d) → IsSought es level clause kept (Some (get_or clause i d)) (i + 1)
sought-open es level clause kept found i d within sought fails is_open = record {
  fails = PassedFalse-more es clause kept i d within sought.fails fails;
  open_one = (Contains-get_or clause i d within, is_open.0, is_open.1);
  closed = λ none. cc;
}

-- one more literal, which is not
pub sought-closed : (es : List Entry) (level : ℕ) (clause : List Lit) (kept : Lit) (found : Option Lit) (i : ℕ) (d : Lit) → i < length clause → IsSought es level clause kept found i → (get_or clause i d ≢ kept → MakesFalse (values_of es) (get_or clause i d)) → (get_or clause i d ≢ kept → ¬ IsOpen es level (get_or clause i d)) → IsSought es level clause kept found (i + 1)
sought-closed es level clause kept found i d within sought fails is_closed = record {
  fails = PassedFalse-more es clause kept i d within sought.fails fails;
  open_one = sought.open_one;
  closed = λ none m among other. elim (Contains-push_cases (take i clause) (get_or clause i d) m (subst (λ lits. Contains lits m) (take_more clause i d within) among)) [
    | inl before ↦ sought.closed none m before other
    | inr last ↦ subst (λ (k : Lit). ¬ IsOpen es level k) last (is_closed (λ same. other (sym last ∙ same)))
  ];
}

-- one more literal, which is not free
pub AreNotFree-more : (es : List Entry) (level : ℕ) (clause : List Lit) (kept : Lit) (i : ℕ) (d : Lit) → i < length clause → AreNotFree es level (take i clause) kept → IsNotFreeBeside es level (get_or clause i d) kept → AreNotFree es level (take (i + 1) clause) kept
AreNotFree-more es level clause kept i d within passed here m among = elim (Contains-push_cases (take i clause) (get_or clause i d) m (subst (λ lits. Contains lits m) (take_more clause i d within) among)) [
  | inl before ↦ passed m before
  | inr last ↦ subst (λ (k : Lit). IsNotFreeBeside es level k kept) last here
]

-- all literals were passed
pub AreNotFree-all : (es : List Entry) (level : ℕ) (clause : List Lit) (kept : Lit) (i : ℕ) → length clause ≤ i → AreNotFree es level (take i clause) kept → AreNotFree es level clause kept
AreNotFree-all es level clause kept i past passed = subst (λ lits. AreNotFree es level lits kept) (take_all i clause past) passed

-- a literal that is not false is left
pub IsLeft-unfalse : (es : List Entry) (level : ℕ) (clause : List Lit) (kept l : Lit) → Contains clause l → l ≢ kept → ¬ MakesFalse (values_of es) l → IsLeft es level clause l kept
IsLeft-unfalse es level clause kept l among differs unfalse = record { among = among; differs = differs; last = λ fails. absurd (unfalse fails) }

-- a free literal may be watched
pub MayWatch-free : (es : List Entry) (level : ℕ) (clause : List Lit) (kept l : Lit) → Contains clause l → IsFreeBeside es level l kept → MayWatch es level clause l kept
MayWatch-free es level clause kept l among free = record {
  left = IsLeft-unfalse es level clause kept l among free.differs free.unfalse;
  is_open = inl free.is_open;
}

-- if no literal is free, one that is left may be watched
pub MayWatch-left : (es : List Entry) (level : ℕ) (clause : List Lit) (kept : Lit) (found : Option Lit) → AreNotFree es level clause kept → IfSome found (λ l. IsLeft es level clause l kept) → IfSome found (λ l. MayWatch es level clause l kept)
MayWatch-left es level clause kept None none left = tt
MayWatch-left es level clause kept (Some l) none left =
    record { left = left; is_open = inr none }

-- what was found at the end
pub sought-found : (es : List Entry) (level : ℕ) (clause : List Lit) (kept : Lit) (found : Option Lit) (i : ℕ) → length clause ≤ i → IsSought es level clause kept found i → IfSome found (λ l. IsLeft es level clause l kept)
sought-found es level clause kept None i past sought = tt
sought-found es level clause kept (Some l) i past sought =
    record { among = sought.open_one.0; differs = sought.open_one.1; last = λ fails. (sought.open_one.2, PassedFalse-all es clause kept i past sought.fails) }

-- if nothing was found
pub sought-none : (es : List Entry) (level : ℕ) (clause : List Lit) (kept : Lit) (i : ℕ) → length clause ≤ i → IsSought es level clause kept None i → AreClosed es level clause kept
sought-none es level clause kept i past sought m among other = (
  PassedFalse-all es clause kept i past sought.fails m among other,
  sought.closed refl m (subst (λ lits. Contains lits m) (sym (take_all i clause past)) among) other,
)

-- a clause with two open literals is not closed
pub closed-short : (es : List Entry) (level : ℕ) (clause : List Lit) (kept : Lit) → (2 ≤ length clause → HasTwoOpen es level clause) → AreClosed es level clause kept → length clause < 2
closed-short es level clause kept opens closed = elim (cases_lt (length clause) 2) [
  | inl few ↦ few
  | inr two ↦ absurd (clash (opens two))
]
  where
    clash : HasTwoOpen es level clause → ⊥
    clash two = elim (cases_literal two.one kept) [
      | inl same ↦ (closed two.other two.other_among (λ also. two.differ (same ∙ sym also))).1 two.other_open
      | inr other ↦ (closed two.one two.one_among other).1 two.one_open
    ]

-- a variable of a clause is not 0
not-zero : (vars : ℕ) (clause : List Lit) (none m : Lit) → VariablesExist vars clause → none.var ≡ 0 → Contains clause m → m ≢ none
not-zero vars clause none m exist is_none among same =
    omega (arith, (All-contains (λ l. (0 < l.var) × (l.var ≤ vars)) clause m exist among).0, is_none, ap (λ (k : Lit). k.var) same)

-- both literals
pub AreChosen-both : (es : List Entry) (level vars : ℕ) (clause : List Lit) (none one other : Lit) → VariablesExist vars clause → none.var ≡ 0 → MayWatch es level clause one none → MayWatch es level clause other one → AreChosen es level clause one other
AreChosen-both es level vars clause none one other exist is_none first second = record {
  first = record {
    left = record {
      among = first.left.among;
      differs = λ same. second.left.differs (sym same);
      last = λ fails. let l = first.left.last fails in (l.0, λ m among differs. l.1 m among (not-zero vars clause none m exist is_none among));
    };
    is_open = elim first.is_open [
      | inl here ↦ inl here
      | inr all ↦ inr (λ m among differs. all m among (not-zero vars clause none m exist is_none among))
    ];
  };
  second = second;
}
