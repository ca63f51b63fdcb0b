-- When a clause is settled, and how that lasts.
use Rattle.std.proofs.Common.{◌≡◌, ◌≢◌, ℕ, ◌+◌, ◌<◌, ◌≤◌, Bool, true, false, not, Option, Some, None, List, [], ◌∷◌, inl, inr, length, take, drop, get_or, is_some, sym, ap, refl, ◌∙◌, subst, arith, Contains}
use Rattle.std.proofs.lemmas.List.{take_more, take_all, take-append-drop, get_or-take, get_or_default, length-take-le}
use Rattle.std.proofs.lemmas.List.Elements.{All-contains, All-more, Contains-append_left, Contains-push, Contains-push_cases, Contains-get_or}
use mathlib.Core.Bool.{beq}
use Rattle.clause_core.specs.declared.literal.Lit.{Lit}
use Rattle.clause_core.specs.Literal.{rank}
use Rattle.clause_core.specs.Clause.{IsAscending}
use Rattle.clause_core.specs.Propagation.{MakesFalse, Falsifies, OthersFalse, LeavesOnly}
use Rattle.sat_trail.specs.inner.Examination.{IsSettled}
use Rattle.sat_trail.proofs.LiteralLemmas.{cases_bool, cases_literal, not-differs}

-- a value that is given is not missing
pub some-none : (o : Option Bool) (b : Bool) → o ≡ Some b → o ≡ None → ⊥
some-none o b given missing = cc

-- a literal is not true and false
pub true-false : (o : Option Bool) (b : Bool) → o ≡ Some b → o ≡ Some (not b) → ⊥
true-false o b holds fails = not-differs b (let same : b ≡ not b = cc in same)

-- a true literal settles its clause
pub IsSettled-true : (values : ℕ → Option Bool) (clause : List Lit) (l : Lit) → Contains clause l → values l.var ≡ Some l.positive → IsSettled values values clause
IsSettled-true values clause l among holds = record {
  member = l;
  among = among;
  last_true = λ m m_among others. elim (cases_literal m l) [
    | inl same ↦ subst (λ k. values k.var ≡ Some k.positive) (sym same) holds
    | inr other ↦ absurd (true-false (values l.var) l.positive holds (others l among (λ same. other (sym same))))
  ];
}

-- two literals without values settle their clause
pub IsSettled-two : (values : ℕ → Option Bool) (clause : List Lit) (a b : Lit) → a ≢ b → Contains clause a → Contains clause b → values a.var ≡ None → values b.var ≡ None → IsSettled values values clause
IsSettled-two values clause a b differ a_among b_among a_open b_open = record {
  member = a;
  among = a_among;
  last_true = λ m m_among others. elim (cases_literal a m) [
    | inl same ↦ absurd (some-none (values b.var) (not b.positive) (others b b_among (λ b_same. differ (same ∙ sym b_same))) b_open)
    | inr other ↦ absurd (some-none (values a.var) (not a.positive) (others a a_among other) a_open)
  ];
}

-- more values are known later
pub IsSettled-later : (known now later : ℕ → Option Bool) (clause : List Lit) → ((v : ℕ) (b : Bool) → now v ≡ Some b → later v ≡ Some b) → IsSettled known now clause → IsSettled known later clause
IsSettled-later known now later clause lasts settled = record {
  member = settled.member;
  among = settled.among;
  last_true = λ l among others. lasts l.var l.positive (settled.last_true l among others);
}

-- fewer values were known before
pub IsSettled-earlier : (before known now : ℕ → Option Bool) (clause : List Lit) → ((v : ℕ) (b : Bool) → before v ≡ Some b → known v ≡ Some b) → IsSettled known now clause → IsSettled before now clause
IsSettled-earlier before known now clause lasts settled = record {
  member = settled.member;
  among = settled.among;
  last_true = λ l among others. settled.last_true l among (λ m m_among other. lasts m.var (not m.positive) (others m m_among other));
}

-- a settled clause is not false
pub IsSettled-no_false : (values : ℕ → Option Bool) (clause : List Lit) → IsSettled values values clause → ¬ Falsifies values clause
IsSettled-no_false values clause settled falsified =
    true-false (values settled.member.var) settled.member.positive
    (settled.last_true settled.member settled.among (λ m m_among other. All-contains (MakesFalse values) clause m falsified m_among))
    (All-contains (MakesFalse values) clause settled.member falsified settled.among)

-- a settled clause has not only one literal left
pub IsSettled-no_unit : (values : ℕ → Option Bool) (clause : List Lit) (l : Lit) → IsSettled values values clause → ¬ LeavesOnly values clause l
IsSettled-no_unit values clause l settled leaves =
    some-none (values l.var) l.positive (settled.last_true l leaves.among leaves.others) leaves.no_value

-- the literal is false, and so are the others
all_false_by : (values : ℕ → Option Bool) (clause : List Lit) (l m : Lit) → MakesFalse values l → OthersFalse values clause l → Contains clause m → MakesFalse values m
all_false_by values clause l m fails others among = elim (cases_literal m l) [
  | inl same ↦ subst (MakesFalse values) (sym same) fails
  | inr other ↦ others m among other
]

-- a literal with the others false is true where its clause is neither false nor left with one literal
last_true_by : (values : ℕ → Option Bool) (clause : List Lit) (l : Lit) (o : Option Bool) → values l.var ≡ o → ¬ Falsifies values clause → ¬ LeavesOnly values clause l → Contains clause l → OthersFalse values clause l → values l.var ≡ Some l.positive
last_true_by values clause l None is no_false no_unit among others =
    absurd (no_unit (record { among = among; no_value = is; others = others }))
last_true_by values clause l (Some b) is no_false no_unit among others =
    elim (cases_bool b l.positive) [
      | inl same ↦ is ∙ ap Some same
      | inr opposite ↦ absurd (no_false (λ k d within. all_false_by values clause l (get_or clause k d) (is ∙ ap Some opposite) others (Contains-get_or clause k d within)))
    ]

-- a clause that is neither false nor left with one literal is settled
pub IsSettled-propagated : (values : ℕ → Option Bool) (clause : List Lit) → ¬ Falsifies values clause → ((l : Lit) → ¬ LeavesOnly values clause l) → IsSettled values values clause
IsSettled-propagated values [] no_false no_unit = absurd (no_false (λ k d within. absurd (omega arith)))
IsSettled-propagated values (h ∷ rest) no_false no_unit = record {
  member = h;
  among = (0, omega arith, refl);
  last_true = λ l among others. last_true_by values (h ∷ rest) l (values l.var) refl no_false (no_unit l) among others;
}

-- what the literals that were passed say
abbrev pub SoFar : (ℕ → Option Bool) → List Lit → Option Lit → Type 0
SoFar values lits None = Falsifies values lits
SoFar values lits (Some l) = LeavesOnly values lits l

-- one more literal is false
pub SoFar-false : (values : ℕ → Option Bool) (clause : List Lit) (i : ℕ) (d : Lit) (left : Option Lit) → i < length clause → SoFar values (take i clause) left → MakesFalse values (get_or clause i d) → SoFar values (take (i + 1) clause) left
SoFar-false values clause i d None within so_far fails = All-more (MakesFalse values) clause i d within so_far fails
SoFar-false values clause i d (Some l) within so_far fails =
    subst (λ lits. LeavesOnly values lits l) (sym (take_more clause i d within)) (record {
      among = Contains-append_left (take i clause) (get_or clause i d ∷ []) l so_far.among;
      no_value = so_far.no_value;
      others = λ m among other. elim (Contains-push_cases (take i clause) (get_or clause i d) m among) [
        | inl before ↦ so_far.others m before other
        | inr last ↦ subst (MakesFalse values) last fails
      ];
    })

-- the first literal that has no value is the one that is left
pub SoFar-left : (values : ℕ → Option Bool) (clause : List Lit) (i : ℕ) (d : Lit) → i < length clause → Falsifies values (take i clause) → values (get_or clause i d).var ≡ None → LeavesOnly values (take (i + 1) clause) (get_or clause i d)
SoFar-left values clause i d within falsified no_value =
    subst (λ lits. LeavesOnly values lits (get_or clause i d)) (sym (take_more clause i d within)) (record {
      among = Contains-push (take i clause) (get_or clause i d);
      no_value = no_value;
      others = λ m among other. elim (Contains-push_cases (take i clause) (get_or clause i d) m among) [
        | inl before ↦ All-contains (MakesFalse values) (take i clause) m falsified before
        | inr last ↦ absurd (other (sym last))
      ];
    })

-- in a clause that ascends, a literal differs from those before it
pub before-differs : (clause : List Lit) (i : ℕ) (d l : Lit) → IsAscending clause → i < length clause → Contains (take i clause) l → l ≢ get_or clause i d
before-differs clause i d l ascending within before same =
    let short : before.0 < i = omega (arith, before.1, length-take-le i clause (omega arith)) in
    let here : get_or clause before.0 l ≡ l = sym (get_or-take i clause before.0 l short) ∙ before.2 in
    let there : get_or clause i l ≡ l = get_or_default clause i l d within ∙ sym same in
    omega (arith, ascending.ordered before.0 i l short within, ap rank here, ap rank there)

-- what a prefix holds, the list holds
pub Contains-take : (i : ℕ) (clause : List Lit) (l : Lit) → Contains (take i clause) l → Contains clause l
Contains-take i clause l among =
    subst (λ lits. Contains lits l) (take-append-drop i clause) (Contains-append_left (take i clause) (drop i clause) l among)

-- the second literal that has no value settles the clause
pub SoFar-two : (values : ℕ → Option Bool) (clause : List Lit) (i : ℕ) (d : Lit) (left : Option Lit) → IsAscending clause → i < length clause → is_some left ≡ true → SoFar values (take i clause) left → values (get_or clause i d).var ≡ None → IsSettled values values clause
SoFar-two values clause i d None ascending within some so_far no_value = cc
SoFar-two values clause i d (Some l) ascending within some so_far no_value =
    IsSettled-two values clause l (get_or clause i d) (before-differs clause i d l ascending within so_far.among)
    (Contains-take i clause l so_far.among) (Contains-get_or clause i d within) so_far.no_value no_value

-- all literals were passed
pub SoFar-all : (values : ℕ → Option Bool) (clause : List Lit) (i : ℕ) (left : Option Lit) → length clause ≤ i → SoFar values (take i clause) left → SoFar values clause left
SoFar-all values clause i left past so_far = subst (λ lits. SoFar values lits left) (take_all i clause past) so_far

-- truth values that a test finds different are opposite
beq-false : (a b : Bool) → beq a b ≡ false → a ≡ not b
beq-false true true differs = cc
beq-false true false differs = refl
beq-false false true differs = refl
beq-false false false differs = cc

-- a value that is not the literal's is the opposite
pub opposite_value : (o : Option Bool) (value sign : Bool) → Some value ≡ o → beq value sign ≡ false → o ≡ Some (not sign)
opposite_value o value sign given differs = sym given ∙ ap Some (beq-false value sign differs)

-- nothing is left yet, so all that were passed are false
pub SoFar-none : (values : ℕ → Option Bool) (lits : List Lit) (left : Option Lit) → is_some left ≡ false → SoFar values lits left → Falsifies values lits
SoFar-none values lits None none so_far = so_far
SoFar-none values lits (Some l) none so_far = cc
