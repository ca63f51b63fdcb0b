-- How many literals of a list are of the current level.
use Rattle.std.proofs.Common.{◌≡◌, ◌≢◌, ℕ, zero, suc, ◌+◌, ◌<◌, ◌≤◌, Bool, true, false, Option, Some, None, option_map, List, [], ◌∷◌, ◌++◌, ◌⊎◌, inl, inr, length, take, get_or, sym, ap, refl, ◌∙◌, subst, arith, cond, eqb, All, AllPairs, Contains}
use Rattle.std.specs.Prelude.{unwrap_or}
use Rattle.std.specs.List.{count_by}
use Rattle.std.proofs.lemmas.Bool.{cases_eq, cases_Bool, eqb-true, eq-eqb}
use Rattle.std.proofs.lemmas.List.Sums.{sum_by-cons}
use Rattle.list_base.proofs.Members.{here, there, nowhere, cons_cases}
use Rattle.sat_solver.specs.inner.Gathered.{is_current}
use Rattle.std.proofs.lemmas.List.{take_more, take_all}
use Rattle.std.proofs.lemmas.List.Elements.{All-contains, All-push, Contains-append_left, Contains-push, Contains-push_cases, Contains-get_or}
use Rattle.clause_core.specs.declared.literal.Lit.{Lit}
use Rattle.sat_trail.specs.Entry.{level_of}
use Rattle.sat_trail.specs.State.{State}
use Rattle.sat_solver.proofs.LiteralLemmas.{cases_literal}
use Rattle.sat_solver.proofs.LiteralLemmas.{Contains-take}
use Rattle.sat_solver.specs.inner.Analysis.{IsCurrent, HasTwoCurrent}

-- at most one of the literals is of the current level, and whether one is
abbrev pub Single : State → List Lit → Bool → Type 0
Single t lits false = All (λ l. ¬ IsCurrent t l) lits
Single t lits true = (u : Lit) × Contains lits u × IsCurrent t u × ((l : Lit) → Contains lits l → l ≢ u → ¬ IsCurrent t l)

-- one more literal that is not of the current level
pub Single-other : (t : State) (lits : List Lit) (l : Lit) (found : Bool) → Single t lits found → ¬ IsCurrent t l → Single t (lits ++ l ∷ []) found
Single-other t lits l false none other = All-push (λ m. ¬ IsCurrent t m) lits l none other
Single-other t lits l true single other = (
  single.0,
  Contains-append_left lits (l ∷ []) single.0 single.1,
  single.2,
  λ m among differs. elim (Contains-push_cases lits l m among) [
    | inl before ↦ single.3 m before differs
    | inr last ↦ subst (λ (k : Lit). ¬ IsCurrent t k) last other
  ],
)

-- the first literal of the current level
pub Single-first : (t : State) (lits : List Lit) (l : Lit) → Single t lits false → IsCurrent t l → Single t (lits ++ l ∷ []) true
Single-first t lits l none current = (
  l,
  Contains-push lits l,
  current,
  λ m among differs. elim (Contains-push_cases lits l m among) [
    | inl before ↦ All-contains (λ k. ¬ IsCurrent t k) lits m none before
    | inr last ↦ absurd (differs (sym last))
  ],
)

-- a literal is of the current level or not
pub cases_current : (t : State) (l : Lit) → IsCurrent t l ⊎ (¬ IsCurrent t l)
cases_current t l = cases-by (level_of t.entries l.var) refl
  where
    cases-by : (o : Option ℕ) → level_of t.entries l.var ≡ o → IsCurrent t l ⊎ (¬ IsCurrent t l)
    cases-by None is = inr (λ current. (let clash : None ≡ Some t.level = sym is ∙ current in cc))
    cases-by (Some n) is = elim (cases_eq n t.level) [
      | inl same ↦ inl (is ∙ ap Some same)
      | inr other ↦ inr (λ current. other (let one : Some n ≡ Some t.level = sym is ∙ current in cc))
    ]

-- the literal of the current level once more
Single-again : (t : State) (lits : List Lit) (l : Lit) (single : Single t lits true) → l ≡ single.0 → Single t (lits ++ l ∷ []) true
Single-again t lits l single same = (
  single.0,
  Contains-append_left lits (l ∷ []) single.0 single.1,
  single.2,
  λ m among differs. elim (Contains-push_cases lits l m among) [
    | inl before ↦ single.3 m before differs
    | inr last ↦ absurd (differs (sym last ∙ same))
  ],
)

-- one position more
counted-more : (t : State) (clause : List Lit) (i : ℕ) → i < length clause → (found : Bool) → Single t (take i clause) found → ((found : Bool) × Single t (take (i + 1) clause) found) ⊎ HasTwoCurrent t clause
counted-more t clause i within found single = elim (cases_current t (get_or clause i blank)) [
  | inr other ↦ inl (found, subst (λ ls. Single t ls found) (sym (take_more clause i blank within)) (Single-other t (take i clause) (get_or clause i blank) found single other))
  | inl current ↦ by-found found single current
]
  where
    blank : Lit
    blank = record { var = 0; positive = false }

    by-found : (b : Bool) → Single t (take i clause) b → IsCurrent t (get_or clause i blank) → ((found : Bool) × Single t (take (i + 1) clause) found) ⊎ HasTwoCurrent t clause
    by-found false none current = inl (true, subst (λ ls. Single t ls true) (sym (take_more clause i blank within)) (Single-first t (take i clause) (get_or clause i blank) none current))
    by-found true one current = elim (cases_literal (get_or clause i blank) one.0) [
      | inl same ↦ inl (true, subst (λ ls. Single t ls true) (sym (take_more clause i blank within)) (Single-again t (take i clause) (get_or clause i blank) one same))
      | inr other ↦ inr (record {
        one = one.0;
        other = get_or clause i blank;
        differ = λ same. other (sym same);
        one_among = Contains-take i clause one.0 one.1;
        other_among = Contains-get_or clause i blank within;
        one_current = one.2;
        other_current = current;
      })
    ]

-- the literals at the first positions have at most one of the current level, or two
counted : (t : State) (clause : List Lit) (i : ℕ) → i ≤ length clause → ((found : Bool) × Single t (take i clause) found) ⊎ HasTwoCurrent t clause
counted t clause zero within = inl (false, λ k d near. absurd (omega arith))
counted t clause (suc i) within = elim (counted t clause i (omega arith)) [
  | inr two ↦ inr two
  | inl single ↦ subst (λ n. ((found : Bool) × Single t (take n clause) found) ⊎ HasTwoCurrent t clause) (let next : i + 1 ≡ suc i = omega arith in next) (counted-more t clause i (omega arith) single.0 single.1)
]

-- whether two literals of a clause are of the current level
pub cases_two : (t : State) (clause : List Lit) → ((found : Bool) × Single t clause found) ⊎ HasTwoCurrent t clause
cases_two t clause = elim (counted t clause (length clause) (omega arith)) [
  | inr two ↦ inr two
  | inl single ↦ inl (single.0, subst (λ ls. Single t ls single.0) (take_all (length clause) clause (omega arith)) single.1)
]

-- a level that passes the test
level-true : (o : Option ℕ) (n : ℕ) → unwrap_or (option_map (λ m. eqb m n) o) false ≡ true → o ≡ Some n
level-true None n passes = (let clash : false ≡ true = passes in cc)
level-true (Some m) n passes = ap Some (eqb-true m n passes)

-- the test for the current level decides
pub current-true : (t : State) (l : Lit) → is_current t l ≡ true → IsCurrent t l
current-true t l passes = level-true (level_of t.entries l.var) t.level passes

-- a literal of the current level passes
pub true-current : (t : State) (l : Lit) → IsCurrent t l → is_current t l ≡ true
true-current t l current = rw current (eq-eqb t.level t.level refl)

-- 1 for a literal of the current level
abbrev weight : State → Lit → ℕ
weight t l = cond (is_current t l) 1 0

-- the count of a longer list
count-cons : (t : State) (l : Lit) (lits : List Lit) (b : Bool) → is_current t l ≡ b → count_by (is_current t) (l ∷ lits) ≡ cond b 1 0 + count_by (is_current t) lits
count-cons t l lits b is = sum_by-cons (weight t) l lits ∙ ap (λ c. cond c 1 0 + count_by (is_current t) lits) is

-- if one is counted, there is one
some-counted : (t : State) (lits : List Lit) → 1 ≤ count_by (is_current t) lits → (l : Lit) × Contains lits l × IsCurrent t l
some-counted t [] many = absurd (omega (arith, many))
some-counted t (l ∷ lits) many = elim (cases_Bool (is_current t l)) [
  | inl is ↦ (l, here l lits, current-true t l is)
  | inr is ↦ let rest = some-counted t lits (omega (arith, many, count-cons t l lits false is)) in (rest.0, there l lits rest.0 rest.1, rest.2)
]

-- the first literal has another variable than the later ones
head-differs : (l : Lit) (lits : List Lit) (m : Lit) → AllPairs (λ j k. j.var ≢ k.var) (l ∷ lits) → Contains lits m → l ≢ m
head-differs l lits m differs (k, within, is) same = differs 0 (suc k) m (omega arith) (omega (arith, within)) (ap (λ (n : Lit). n.var) (same ∙ sym is))

-- two of a list are two of a longer one
pub two-along : (t : State) (c d : List Lit) → ((l : Lit) → Contains c l → Contains d l) → HasTwoCurrent t c → HasTwoCurrent t d
two-along t c d all two = record {
  one = two.one;
  other = two.other;
  differ = two.differ;
  one_among = all two.one two.one_among;
  other_among = all two.other two.other_among;
  one_current = two.one_current;
  other_current = two.other_current;
}

-- if two are counted, there are two
pub two-counted : (t : State) (lits : List Lit) → AllPairs (λ j k. j.var ≢ k.var) lits → 2 ≤ count_by (is_current t) lits → HasTwoCurrent t lits
two-counted t [] differs many = absurd (omega (arith, many))
two-counted t (l ∷ lits) differs many = elim (cases_Bool (is_current t l)) [
  | inl is ↦
      let rest = some-counted t lits (omega (arith, many, count-cons t l lits true is)) in
      record { one = l; other = rest.0; differ = head-differs l lits rest.0 differs rest.1; one_among = here l lits; other_among = there l lits rest.0 rest.1; one_current = current-true t l is; other_current = rest.2 }
  | inr is ↦
      two-along t lits (l ∷ lits) (λ m among. there l lits m among)
      (two-counted t lits (λ i j d before within. differs (suc i) (suc j) d (omega (arith, before)) (omega (arith, within))) (omega (arith, many, count-cons t l lits false is)))
]

-- one of the current level is counted
counted-some : (t : State) (lits : List Lit) (l : Lit) → Contains lits l → IsCurrent t l → 1 ≤ count_by (is_current t) lits
counted-some t [] l among current = absurd (nowhere l among)
counted-some t (m ∷ lits) l among current = elim (cons_cases m lits l among) [
  | inl same ↦ omega (arith, count-cons t m lits true (true-current t m (subst (IsCurrent t) (sym same) current)))
  | inr later ↦ omega (arith, counted-some t lits l later current, sum_by-cons (weight t) m lits)
]

-- two different ones are counted
counted-both : (t : State) (lits : List Lit) (l m : Lit) → l ≢ m → Contains lits l → Contains lits m → IsCurrent t l → IsCurrent t m → 2 ≤ count_by (is_current t) lits
counted-both t [] l m differ l_among m_among l_current m_current = absurd (nowhere l l_among)
counted-both t (n ∷ lits) l m differ l_among m_among l_current m_current = elim (cons_cases n lits l l_among) [
  | inl is_l ↦ elim (cons_cases n lits m m_among) [
    | inl is_m ↦ absurd (differ (sym is_l ∙ is_m))
    | inr m_later ↦ omega (arith, counted-some t lits m m_later m_current, count-cons t n lits true (true-current t n (subst (IsCurrent t) (sym is_l) l_current)))
  ]
  | inr l_later ↦ elim (cons_cases n lits m m_among) [
    | inl is_m ↦ omega (arith, counted-some t lits l l_later l_current, count-cons t n lits true (true-current t n (subst (IsCurrent t) (sym is_m) m_current)))
    | inr m_later ↦ omega (arith, counted-both t lits l m differ l_later m_later l_current m_current, sum_by-cons (weight t) n lits)
  ]
]

-- two of the current level are counted
pub counted-two : (t : State) (lits : List Lit) → HasTwoCurrent t lits → 2 ≤ count_by (is_current t) lits
counted-two t lits two = counted-both t lits two.one two.other two.differ two.one_among two.other_among two.one_current two.other_current
