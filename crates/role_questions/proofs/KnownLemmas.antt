-- Lists of known values that grow by one parameter.
use Rattle.std.proofs.Common.{◌≡◌, ◌<◌, ◌+◌, ◌⊎◌, ℕ, List, [], ◌∷◌, ◌++◌, inl, inr, length, get_or, take, sym, ap, subst, arith}
use Rattle.std.specs.Prelude.{◌↔◌}
use Rattle.std.specs.List.{AllPairs, Contains}
use Rattle.std.proofs.lemmas.Bool.{cases_eq}
use Rattle.std.proofs.lemmas.List.{take_more}
use Rattle.std.proofs.lemmas.List.Elements.{Contains-append_left, Contains-get_or, Contains-push, Contains-push_cases}
use Rattle.std.proofs.lemmas.List.Quantifiers.{all_pairs_push}
use Rattle.list_base.proofs.Members.{nowhere}
use Rattle.bspl_types.specs.declared.event.Event.{Event}
use Rattle.bspl_types.specs.declared.expanded.Expanded.{Expanded}
use Rattle.bspl_types.specs.declared.protocol.Adornment.TheVariants.{In}
use Rattle.bspl_types.specs.declared.protocol.Carried.{Carried}
use Rattle.bspl_types.specs.declared.value.Value.{Value}
use Rattle.bspl_types.specs.Knowledge.{IsKnown, Knows}
use Rattle.stamped_history.specs.Local.{KnowsOneValue}
use Rattle.role_questions.specs.declared.form.KnownValue.{KnownValue}
use Rattle.role_questions.specs.Known.{ListsValue}
use Rattle.role_questions.specs.inner.Added.{AddsKnown}

-- a parameter with its value
abbrev pub known_value : ℕ → Value → KnownValue
known_value p v = record { param = p; value = v }

-- the list shows exactly the known values of these parameters
abbrev pub ShowsThese : Expanded → List Event → List Value → (ℕ → Type 0) → List KnownValue → Type 0
ShowsThese x history key These list = (p : ℕ) (v : Value) → ListsValue list p v ↔ (These p × Knows x history key p v)

-- before the first parameter nothing is shown
pub shows_none : (x : Expanded) (history : List Event) (key : List Value) (These : ℕ → Type 0) → ((p : ℕ) → These p → ⊥) → ShowsThese x history key These []
shows_none x history key These none p v = (λ shown. absurd (nowhere (known_value p v) shown), λ both. absurd (none p both.0))

-- the last value is shown
shown_last : (old : List KnownValue) (p q : ℕ) (w v : Value) → q ≡ p → w ≡ v → ListsValue (old ++ known_value p w ∷ []) q v
shown_last old p q w v is same = subst (λ r. ListsValue (old ++ known_value p w ∷ []) r v) (sym is) (subst (λ u. ListsValue (old ++ known_value p w ∷ []) p u) same (Contains-push old (known_value p w)))

module _ (x : Expanded) (history : List Event) (key : List Value) (one : KnowsOneValue x history) (These More : ℕ → Type 0) (p : ℕ) (old new : List KnownValue) (shows : ShowsThese x history key These old) (kept : (q : ℕ) → These q → More q) (added : More p) (split : (q : ℕ) → More q → These q ⊎ (q ≡ p)) where
  -- the parameter is not known
  more_unknown : ¬ IsKnown x history key p → new ≡ old → ShowsThese x history key More new
  more_unknown unknown same q v = (
    λ shown. let both = (shows q v).0 (subst (λ list. ListsValue list q v) same shown) in (kept q both.0, both.1),
    λ both. subst (λ list. ListsValue list q v) (sym same) (elim (split q both.0) as (λ _. ListsValue old q v) [
      | inl before ↦ (shows q v).1 (before, both.1)
      | inr is ↦ absurd (unknown (v, subst (λ r. Knows x history key r v) is both.1))
    ]),
  )

  -- it comes with its value
  more_known : (w : Value) → Knows x history key p w → new ≡ old ++ known_value p w ∷ [] → ShowsThese x history key More new
  more_known w knows same q v = (
    λ shown. (elim (Contains-push_cases old (known_value p w) (known_value q v) (subst (λ list. ListsValue list q v) same shown)) as (λ _. More q × Knows x history key q v) [
      | inl before ↦ (let both = (shows q v).0 before in (kept q both.0, both.1))
      | inr is ↦ (subst More (ap (λ k. k.param) is) added, subst (λ u. Knows x history key q u) (ap (λ k. k.value) is) (subst (λ r. Knows x history key r w) (ap (λ k. k.param) is) knows))
    ]),
    λ both. subst (λ list. ListsValue list q v) (sym same) (elim (split q both.0) as (λ _. ListsValue (old ++ known_value p w ∷ []) q v) [
      | inl before ↦ Contains-append_left old (known_value p w ∷ []) (known_value q v) ((shows q v).1 (before, both.1))
      | inr is ↦ shown_last old p q w v is (one key p w v knows (subst (λ r. Knows x history key r v) is both.1))
    ]),
  )

  -- so one parameter more is shown
  pub shows_more : AddsKnown x history key p old new → ShowsThese x history key More new
  shows_more adds = elim adds as (λ _. ShowsThese x history key More new) [
    | inl none ↦ more_unknown none.0 none.1
    | inr some ↦ more_known some.0 some.1 some.2
  ]

-- what is below the next number
next_cases : (count q : ℕ) → q < count + 1 → (q < count) ⊎ (q ≡ count)
next_cases count q less = elim (cases_eq q count) as (λ _. (q < count) ⊎ (q ≡ count)) [
  | inl is ↦ inr is
  | inr other ↦ inl (omega (arith, less, other))
]

-- the values of the parameters below a number, in order
pub record KnownBelow (x : Expanded) (history : List Event) (key : List Value) (count : ℕ) (list : List KnownValue) : Type 0 where
  pub shows : ShowsThese x history key (λ p. p < count) list
  pub in_order : AllPairs (λ a b. a.param < b.param) list

-- at first there is none
pub known_none : (x : Expanded) (history : List Event) (key : List Value) → KnownBelow x history key 0 []
known_none x history key = record {
  shows = shows_none x history key (λ p. p < 0) (λ p below. omega (arith, below));
  in_order = λ i j d before within. omega (arith, within);
}

module _ (x : Expanded) (history : List Event) (key : List Value) (one : KnowsOneValue x history) (count : ℕ) (old new : List KnownValue) (below : KnownBelow x history key count old) where
  -- a shown parameter is below the number
  shown_below : (k : ℕ) (d : KnownValue) → k < length old → (get_or old k d).param < count
  shown_below k d within = ((below.shows (get_or old k d).param (get_or old k d).value).0 (Contains-get_or old k d within)).0

  -- the next one comes after them
  still_in_order : AddsKnown x history key count old new → AllPairs (λ a b. a.param < b.param) new
  still_in_order adds = elim adds as (λ _. AllPairs (λ a b. a.param < b.param) new) [
    | inl none ↦ subst (λ list. AllPairs (λ a b. a.param < b.param) list) (sym none.1) below.in_order
    | inr some ↦ subst (λ list. AllPairs (λ a b. a.param < b.param) list) (sym some.2) (all_pairs_push (λ a b. a.param < b.param) old (known_value count some.0) below.in_order shown_below)
  ]

  -- so the list goes one parameter further
  pub known_more : AddsKnown x history key count old new → KnownBelow x history key (count + 1) new
  known_more adds = record {
    shows = shows_more x history key one (λ p. p < count) (λ p. p < count + 1) count old new below.shows (λ q less. omega (arith, less)) (omega arith) (λ q less. next_cases count q less) adds;
    in_order = still_in_order adds;
  }

-- the `in` parameter of that number
abbrev pub in_param : ℕ → Carried
in_param p = record { param = p; adornment = In }

-- it is among the first of these
abbrev pub HasIn : List Carried → ℕ → ℕ → Type 0
HasIn carried i p = Contains (take i carried) (in_param p)

module _ (carried : List Carried) (i : ℕ) (d : Carried) (within : i < length carried) where
  -- one of the first is one of one more
  has_more : (p : ℕ) → HasIn carried i p → HasIn carried (i + 1) p
  has_more p has = subst (λ list. Contains list (in_param p)) (sym (take_more carried i d within)) (Contains-append_left (take i carried) (get_or carried i d ∷ []) (in_param p) has)

  -- one of one more is one of the first, or the last one
  has_cases : (p : ℕ) → HasIn carried (i + 1) p → HasIn carried i p ⊎ (get_or carried i d ≡ in_param p)
  has_cases p has = Contains-push_cases (take i carried) (get_or carried i d) (in_param p) (subst (λ list. Contains list (in_param p)) (take_more carried i d within) has)

  -- the next one, if it is adorned `in`
  has_next : (get_or carried i d).adornment ≡ In → HasIn carried (i + 1) (get_or carried i d).param
  has_next is = subst (λ list. Contains list (in_param (get_or carried i d).param)) (sym (take_more carried i d within)) (subst (λ a. Contains (take i carried ++ get_or carried i d ∷ []) (record { param = (get_or carried i d).param; adornment = a })) is (Contains-push (take i carried) (get_or carried i d)))

  module _ (x : Expanded) (history : List Event) (key : List Value) (one : KnowsOneValue x history) (old new : List KnownValue) (shows : ShowsThese x history key (HasIn carried i) old) where
    -- the next one is adorned `in`, and is looked up
    pub ins_more : (get_or carried i d).adornment ≡ In → AddsKnown x history key (get_or carried i d).param old new → ShowsThese x history key (HasIn carried (i + 1)) new
    ins_more is adds = shows_more x history key one (HasIn carried i) (HasIn carried (i + 1)) (get_or carried i d).param old new shows has_more (has_next is) (λ q has. (elim (has_cases q has) as (λ _. HasIn carried i q ⊎ (q ≡ (get_or carried i d).param)) [
      | inl before ↦ inl before
      | inr same ↦ inr (sym (ap (λ c. c.param) same))
    ])) adds

    -- the next one is adorned otherwise, and is passed over
    pub ins_same : ¬ ((get_or carried i d).adornment ≡ In) → ShowsThese x history key (HasIn carried (i + 1)) old
    ins_same other p v = (
      λ shown. (let both = (shows p v).0 shown in (has_more p both.0, both.1)),
      λ both. (elim (has_cases p both.0) as (λ _. ListsValue old p v) [
        | inl before ↦ (shows p v).1 (before, both.1)
        | inr same ↦ absurd (other (ap (λ c. c.adornment) same))
      ]),
    )
