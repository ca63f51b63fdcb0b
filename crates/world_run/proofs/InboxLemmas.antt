-- What an inbox holds after one copy was spent, or one envelope was put.
use Rattle.std.proofs.Common.{◌≡◌, ℕ, zero, suc, ◌+◌, ◌-◌, ◌<◌, ◌⊎◌, inl, inr, Some, List, [], ◌∷◌, map, sym, ap, ◌∙◌, subst, arith, ⊎_elim, All, Contains}
use Rattle.std.specs.Prelude.{◌==◌, slice_get, slice_set, remove}
use Rattle.std.specs.List.{sum_by}
use Rattle.std.proofs.lemmas.Bool.{cases_Bool}
use Rattle.std.proofs.lemmas.Bool.Decides.{Decides-eqb, nat_tests}
use Rattle.std.proofs.lemmas.List.{map-append}
use Rattle.std.proofs.lemmas.List.Elements.{All-contains, All-push, All-set, Contains-append_left, Contains-push}
use Rattle.std.proofs.lemmas.List.Sums.{sum_by-cons, sum_by_push, sum_by-set}
use Rattle.std.proofs.lemmas.Option.{get_or_from_slice_get, slice_get_within}
use Rattle.list_base.proofs.Members.{cons_cases, here_same, nowhere, there}
use Rattle.list_base.proofs.Membership.{member_at}
use Rattle.bspl_types.specs.declared.envelope.Envelope.{Envelope}
use Rattle.bspl_types.specs.declared.envelope.Stamped.{Stamped}
use Rattle.bspl_types.specs.declared.event.Instance.{Instance}
use Rattle.reorder_net.specs.Inbox.{after_spending, put_last}
use Rattle.world_run.specs.inner.Work.{copies_in}
use Rattle.world_run.proofs.MergeLemmas.{all_of}

-- what is left was there
removed_member : {X : Type 0} (xs : List X) (i : ℕ) (y : X) → Contains (remove xs i) y → Contains xs y
removed_member [] zero y among = among
removed_member [] (suc i) y among = among
removed_member (x ∷ []) zero y among = there x [] y among
removed_member (x ∷ (z ∷ xs)) zero y among = there x (z ∷ xs) y among
removed_member (x ∷ xs) (suc i) y among = elim (cons_cases x (remove xs i) y among) [
  | inl is ↦ here_same x xs y is
  | inr rest ↦ there x xs y (removed_member xs i y rest)
]

-- what was there is left, or is the item that was removed
removed_other : {X A : Type 0} (f : X → A) (xs : List X) (i : ℕ) (e : X) (y : A) → slice_get xs i ≡ Some e → Contains (map f xs) y → (f e ≡ y) ⊎ Contains (map f (remove xs i)) y
removed_other f [] i e y at among = absurd (cc)
removed_other f (x ∷ []) zero e y at among = let same : x ≡ e = cc in inl (ap f (sym same) ∙ elim (cons_cases (f x) [] y among) [
  | inl is ↦ is
  | inr none ↦ absurd (nowhere y none)
])
removed_other f (x ∷ (z ∷ xs)) zero e y at among = let same : x ≡ e = cc in elim (cons_cases (f x) (map f (z ∷ xs)) y among) [
  | inl is ↦ inl (ap f (sym same) ∙ is)
  | inr rest ↦ inr rest
]
removed_other f (x ∷ xs) (suc i) e y at among = elim (cons_cases (f x) (map f xs) y among) [
  | inl is ↦ inr (here_same (f x) (map f (remove xs i)) y is)
  | inr rest ↦ elim (removed_other f xs i e y at rest) [
    | inl is ↦ inl is
    | inr left ↦ inr (there (f x) (map f (remove xs i)) y left)
  ]
]

-- so is it in a list in which the item was replaced
replaced_other : {X A : Type 0} (f : X → A) (xs : List X) (i : ℕ) (e z : X) (y : A) → slice_get xs i ≡ Some e → Contains (map f xs) y → (f e ≡ y) ⊎ Contains (map f (slice_set xs i z)) y
replaced_other f [] i e z y at among = absurd (cc)
replaced_other f (x ∷ xs) zero e z y at among = let same : x ≡ e = cc in elim (cons_cases (f x) (map f xs) y among) [
  | inl is ↦ inl (ap f (sym same) ∙ is)
  | inr rest ↦ inr (there (f z) (map f xs) y rest)
]
replaced_other f (x ∷ xs) (suc i) e z y at among = elim (cons_cases (f x) (map f xs) y among) [
  | inl is ↦ inr (here_same (f x) (map f (slice_set xs i z)) y is)
  | inr rest ↦ elim (replaced_other f xs i e z y at rest) [
    | inl is ↦ inl is
    | inr left ↦ inr (there (f x) (map f (slice_set xs i z)) y left)
  ]
]

-- a sum loses the removed item's part
removed_sum : {X : Type 0} (g : X → ℕ) (xs : List X) (i : ℕ) (e : X) → slice_get xs i ≡ Some e → sum_by g (remove xs i) + g e ≡ sum_by g xs
removed_sum g [] i e at = absurd (cc)
removed_sum g (x ∷ []) zero e at = let same : x ≡ e = cc in omega (arith, ap g same, sum_by-cons g x [])
removed_sum g (x ∷ (z ∷ xs)) zero e at = let same : x ≡ e = cc in omega (arith, ap g same, sum_by-cons g x (z ∷ xs))
removed_sum g (x ∷ xs) (suc i) e at = omega (arith, removed_sum g xs i e at, sum_by-cons g x xs, sum_by-cons g x (remove xs i))

-- what holds of the messages still does
pub spent_all : (Q : Stamped → Type 0) (held : List Envelope) (i : ℕ) (e : Envelope) → slice_get held i ≡ Some e → All (λ f. Q f.message) held → All (λ f. Q f.message) (after_spending held i e)
spent_all Q held i e at all = ⊎_elim
    (λ last. rw last (all_of (λ f. Q f.message) (remove held i) (λ f among. All-contains (λ g. Q g.message) held f all (removed_member held i f among))))
    (λ more. rw more (All-set (λ f. Q f.message) held i (record e { copies = e.copies - 1 }) (All-contains (λ f. Q f.message) held e all (member_at held i e at)) all))
    (cases_Bool (e.copies == 1))

-- a message that was held is the envelope's, or is still held
pub spent_other : (held : List Envelope) (i : ℕ) (e : Envelope) (j : Instance) → slice_get held i ≡ Some e → Contains (map (λ f. f.message.instance) held) j → (e.message.instance ≡ j) ⊎ Contains (map (λ f. f.message.instance) (after_spending held i e)) j
spent_other held i e j at among = ⊎_elim
    (λ last. rw last (removed_other (λ (f : Envelope). f.message.instance) held i e j at among))
    (λ more. rw more (replaced_other (λ (f : Envelope). f.message.instance) held i e (record e { copies = e.copies - 1 }) j at among))
    (cases_Bool (e.copies == 1))

-- there is one copy less
pub spent_less : (held : List Envelope) (i : ℕ) (e : Envelope) → slice_get held i ≡ Some e → 0 < e.copies → copies_in (after_spending held i e) + 1 ≡ copies_in held
spent_less held i e at some = ⊎_elim
    (λ last. rw last (let one : e.copies ≡ 1 = (Decides-eqb e.copies 1).0 last in omega (arith, one, removed_sum (λ (f : Envelope). f.copies) held i e at)))
    (λ more. rw more (omega (arith, some, ap (λ (f : Envelope). f.copies) (get_or_from_slice_get held i e e at), sum_by-set (λ (f : Envelope). f.copies) held i (record e { copies = e.copies - 1 }) e (slice_get_within held i e at))))
    (cases_Bool (e.copies == 1))

-- what was held is held after a put
pub put_keeps : (held : List Envelope) (e : Envelope) (j : Instance) → Contains (map (λ f. f.message.instance) held) j → Contains (map (λ f. f.message.instance) (put_last held e)) j
put_keeps held e j among = ⊎_elim
    (λ none. rw none among)
    (λ some. rw some (subst (λ is. Contains is j) (sym (map-append (λ (f : Envelope). f.message.instance) held (e ∷ []))) (Contains-append_left (map (λ (f : Envelope). f.message.instance) held) (e.message.instance ∷ []) j among)))
    (cases_Bool (e.copies == 0))

-- an envelope with copies is held after it was put
pub put_holds : (held : List Envelope) (e : Envelope) → 0 < e.copies → Contains (map (λ f. f.message.instance) (put_last held e)) e.message.instance
put_holds held e some = ⊎_elim
    (λ none. absurd (omega (arith, some, (Decides-eqb e.copies 0).0 none)))
    (λ more. rw more (subst (λ is. Contains is e.message.instance) (sym (map-append (λ (f : Envelope). f.message.instance) held (e ∷ []))) (Contains-push (map (λ (f : Envelope). f.message.instance) held) e.message.instance)))
    (cases_Bool (e.copies == 0))

-- what holds of what was held and of the envelope holds afterwards
pub put_all : (P : Envelope → Type 0) (held : List Envelope) (e : Envelope) → All P held → (0 < e.copies → P e) → All P (put_last held e)
put_all P held e all own = ⊎_elim
    (λ none. rw none all)
    (λ some. rw some (All-push P held e all (own (grind (arith, nat_tests)))))
    (cases_Bool (e.copies == 0))

-- its copies are held afterwards
pub put_copies : (held : List Envelope) (e : Envelope) → copies_in (put_last held e) ≡ copies_in held + e.copies
put_copies held e = ⊎_elim
    (λ none. rw none (omega (arith, (Decides-eqb e.copies 0).0 none)))
    (λ some. rw some (sum_by_push (λ (f : Envelope). f.copies) held e))
    (cases_Bool (e.copies == 0))
