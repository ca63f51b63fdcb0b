-- How an order is closed under one entry more.
use Rattle.std.proofs.Common.{◌≡◌, ◌⊎◌, inl, inr, ℕ, ◌+◌, ◌<◌, Bool, Option, Some, None, option_map, List, [], ◌∷◌, ◌++◌, length, take, get_or, Contains, sym, ap, refl, ◌∙◌, subst}
use Rattle.std.proofs.lemmas.Bool.{cases_Bool, eqb-true}
use Rattle.std.proofs.lemmas.List.{take_more}
use Rattle.std.proofs.lemmas.List.Folds.{find-append}
use Rattle.std.specs.Prelude.{◌==◌}
use Rattle.clause_core.specs.declared.literal.Lit.{Lit}
use Rattle.order_axioms.specs.declared.order.Order.{Order}
use Rattle.order_axioms.specs.Order.{ForbidsCycle, comes_before}
use Rattle.sat_trail.specs.declared.entry.Entry.{Entry}
use Rattle.sat_trail.specs.Entry.{entry_of, values_of}
use Rattle.order_propagator.specs.inner.Closed.{Follows, IsClosed, IsSetTrue, NeedsNone}
use Rattle.order_propagator.specs.inner.Closing.{ClosesCycle, ClosesLit}
use Rattle.order_propagator.proofs.LiteralLemmas.{AreKinds-turned, ForbidsCycle-turned, same_literal}

-- a value is that of the last entry or was given before
value_by : (o : Option Entry) (e : Entry) (v : ℕ) (b : Bool) (es : List Entry) → entry_of es v ≡ o → values_of (es ++ e ∷ []) v ≡ Some b → (values_of es v ≡ Some b) ⊎ ((v ≡ e.lit.var) × (b ≡ e.lit.positive))
value_by (Some d) e v b es is given =
    let kept : entry_of (es ++ e ∷ []) v ≡ Some d = rw (find-append (λ (f : Entry). f.lit.var == v) es (e ∷ []), is) refl in
    inl (ap (option_map (λ (f : Entry). f.lit.positive)) (is ∙ sym kept) ∙ given)
value_by None e v b es is given =
    let last : entry_of (es ++ e ∷ []) v ≡ entry_of (e ∷ []) v = rw (find-append (λ (f : Entry). f.lit.var == v) es (e ∷ []), is) refl in
    let value : values_of (e ∷ []) v ≡ Some b = sym (ap (option_map (λ (f : Entry). f.lit.positive)) last) ∙ given in
    elim (cases_Bool (e.lit.var == v)) [
      | inl here ↦
          let of_it : Some e.lit.positive ≡ Some b = rw here at value in
          inr (sym (eqb-true e.lit.var v here), (let same : b ≡ e.lit.positive = cc in same))
      | inr elsewhere ↦ let none : None ≡ Some b = rw elsewhere at value in cc
    ]

pub value_next : (es : List Entry) (head : ℕ) (e : Entry) (v : ℕ) (b : Bool) → head < length es → get_or es head e ≡ e → values_of (take (head + 1) es) v ≡ Some b → (values_of (take head es) v ≡ Some b) ⊎ ((v ≡ e.lit.var) × (b ≡ e.lit.positive))
value_next es head e v b within is given =
    value_by (entry_of (take head es) v) e v b (take head es) refl
    (subst (λ (xs : List Entry). values_of xs v ≡ Some b) (take_more es head e within ∙ ap (λ (d : Entry). take head es ++ d ∷ []) is) given)

-- what follows still follows when more is set and made
follows_more : (order : Order) (names more : List ℕ) (now later : ℕ → Option Bool) (x y z : ℕ) → ((name : ℕ) → Contains names name → Contains more name) → ((v : ℕ) (b : Bool) → now v ≡ Some b → later v ≡ Some b) → Follows order names now x y z → Follows order more later x y z
follows_more order names more now later x y z kept lasts follows = elim follows [
  | inl set ↦ inl (lasts (comes_before order x z).var (comes_before order x z).positive set)
  | inr made ↦ inr (record { number = made.number; forbids = made.forbids; among = kept made.number made.among })
]

-- the order is closed under one literal more, if it is under what this one says
pub closed_more : (order : Order) (names more : List ℕ) (known next middle now later : ℕ → Option Bool) (l : Lit) → IsClosed order names known now → ((v : ℕ) (b : Bool) → next v ≡ Some b → (known v ≡ Some b) ⊎ ((v ≡ l.var) × (b ≡ l.positive))) → ((v : ℕ) (b : Bool) → next v ≡ Some b → middle v ≡ Some b) → ((name : ℕ) → Contains names name → Contains more name) → ((v : ℕ) (b : Bool) → now v ≡ Some b → later v ≡ Some b) → ClosesLit order middle more later l → IsClosed order more next later
closed_more order names more known next middle now later l closed last within kept lasts closes = record {
  follows = λ x y z kinds first second.
      let cases = λ (p : Lit) (holds : IsSetTrue next p). last p.var p.positive holds in
      elim (cases (comes_before order x y) first) [
        | inr first_last ↦
            (closes x y z kinds (same_literal (comes_before order x y) l first_last.0 first_last.1)).after
            (within (comes_before order y z).var (comes_before order y z).positive second)
        | inl first_known ↦ elim (cases (comes_before order y z) second) [
          | inr second_last ↦
              (closes y z x (AreKinds-turned order x y z kinds) (same_literal (comes_before order y z) l second_last.0 second_last.1)).before
              (within (comes_before order x y).var (comes_before order x y).positive first)
          | inl second_known ↦ follows_more order names more now later x y z kept lasts (closed.follows x y z kinds first_known second_known)
        ]
      ];
}

-- the clause that forbids it closes a cycle once it is made
pub made_closes : (order : Order) (names : List ℕ) (known now : ℕ → Option Bool) (x y z number : ℕ) → Contains names number → ForbidsCycle order number x y z → ClosesCycle order known names now x y z
made_closes order names known now x y z number among forbids = record {
  after = λ _. inr (record { number = number; forbids = forbids; among = among });
  before = λ _. inr (record { number = number; forbids = ForbidsCycle-turned order number x y z forbids; among = among });
}

-- and a cycle is closed where nothing is missing
pub none_closes : (order : Order) (names : List ℕ) (known now : ℕ → Option Bool) (x y z : ℕ) → ((v : ℕ) (b : Bool) → known v ≡ Some b → now v ≡ Some b) → NeedsNone order known x y z → ClosesCycle order known names now x y z
none_closes order names known now x y z lasts none = record {
  after = λ holds. inl (lasts (comes_before order x z).var (comes_before order x z).positive (none.after holds));
  before = λ holds. inl (lasts (comes_before order z y).var (comes_before order z y).positive (none.before holds));
}
