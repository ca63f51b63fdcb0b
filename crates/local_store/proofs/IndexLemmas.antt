-- The rows are an index of the history with one more event.
use Rattle.std.proofs.Common.{◌≡◌, ◌≢◌, ℕ, ◌<◌, ◌≤◌, ◌⊎◌, true, List, [], ◌∷◌, ◌++◌, length, Option, Some, None, inl, inr, refl, sym, ap, ◌∙◌, subst, arith}
use Rattle.std.specs.Prelude.{slice_get}
use Rattle.std.specs.List.{AllPairs, Contains}
use Rattle.std.proofs.lemmas.Bool.{cases_Bool, true≢false}
use Rattle.std.proofs.lemmas.List.Elements.{Contains-append_left, Contains-push, Contains-push_cases}
use Rattle.std.proofs.lemmas.Option.{none-some, same_Some, slice_get_within}
use Rattle.list_base.proofs.Membership.{one_index}
use Rattle.bspl_types.specs.declared.event.Event.{Event}
use Rattle.bspl_types.specs.declared.event.Instance.{Instance}
use Rattle.bspl_types.specs.declared.expanded.Expanded.{Expanded}
use Rattle.bspl_types.specs.declared.protocol.Carried.{Carried}
use Rattle.bspl_types.specs.declared.value.Value.{Value}
use Rattle.bspl_types.specs.History.{instance_of}
use Rattle.bspl_types.specs.Instance.{pairs}
use Rattle.bspl_types.specs.Knowledge.{Knows}
use Rattle.local_store.specs.inner.Acts.{Rows}
use Rattle.local_store.specs.inner.Kept.{HasEvent, IsIndex}
use Rattle.local_store.proofs.InstanceLemmas.{knows_cases, knows_more, knows_own}

-- the rows take the instance's values and its mark in, at the row of its key
pub record TakesIn (x : Expanded) (old new : Rows) (row : ℕ) (i : Instance) : Type 0 where
  pub keys : new.keys ≡ old.keys
  pub from : (s p : ℕ) (v : Value) → p < length x.params → new.cell s p ≡ Some v →
      (old.cell s p ≡ Some v) ⊎ ((s ≡ row) × ((c : Carried) × Contains (pairs x i) (c, v) × (c.param ≡ p)))
  pub stay : (s p : ℕ) (v : Value) → p < length x.params → old.cell s p ≡ Some v → new.cell s p ≡ Some v
  pub has : (c : Carried) (v : Value) → Contains (pairs x i) (c, v) → new.cell row c.param ≡ Some v
  pub marked : new.mark row i.message ≡ true
  pub mark_stays : (s m : ℕ) → m < length x.messages → old.mark s m ≡ true → new.mark s m ≡ true
  pub mark_from : (s m : ℕ) → m < length x.messages → new.mark s m ≡ true →
      (old.mark s m ≡ true) ⊎ ((s ≡ row) × (m ≡ i.message))

-- a blank cell stays so in another row
still_blank : (o : Option Value) → ((v : Value) → o ≡ Some v → ⊥) → o ≡ None
still_blank None not = refl
still_blank (Some v) not = absurd (not v refl)

-- some event of the message under the key, or this one
event_cases : (history : List Event) (e : Event) (key : List Value) (m : ℕ) → HasEvent (history ++ e ∷ []) key m → HasEvent history key m ⊎ (((instance_of e).key ≡ key) × ((instance_of e).message ≡ m))
event_cases history e key m has = elim (Contains-push_cases history e has.event has.among) [
  | inl among ↦ inl (record { event = has.event; among = among; under = has.under; message_is = has.message_is })
  | inr is ↦ inr (ap (λ f. (instance_of f).key) is ∙ has.under, ap (λ f. (instance_of f).message) is ∙ has.message_is)
]

pub index_more : (x : Expanded) (old new : Rows) (history : List Event) (e : Event) (row : ℕ) → AllPairs ◌≢◌ old.keys → slice_get old.keys row ≡ Some (instance_of e).key → TakesIn x old new row (instance_of e) → IsIndex x old history → IsIndex x new (history ++ e ∷ [])
index_more x old new history e row distinct at takes index =
    let in_old = λ (s : ℕ) (key : List Value) (there : slice_get new.keys s ≡ Some key). subst (λ keys. slice_get keys s ≡ Some key) takes.keys there in
    let row_is = λ (s : ℕ) (key : List Value) (there : slice_get old.keys s ≡ Some key) (under : (instance_of e).key ≡ key). one_index old.keys row s key distinct (at ∙ ap Some under) there in
    let key_is = λ (s : ℕ) (key : List Value) (there : slice_get old.keys s ≡ Some key) (is : s ≡ row). same_key old.keys s row key (instance_of e).key there at is in
    record {
      knows = λ s key p v there within. (
        λ cell. elim (takes.from s p v within cell) [
          | inl before ↦ knows_more x history e key p v ((index.knows s key p v (in_old s key there) within).0 before)
          | inr (is, (c, among, param)) ↦ subst (λ q. Knows x (history ++ e ∷ []) key q v) param (knows_own x (history ++ e ∷ []) e key c v (Contains-push history e) (key_is s key (in_old s key there) is) among)
        ],
        λ known. elim (knows_cases x history e key p v known) [
          | inl before ↦ takes.stay s p v within ((index.knows s key p v (in_old s key there) within).1 before)
          | inr (under, (c, among, param)) ↦ subst (λ q. new.cell s q ≡ Some v) param (subst (λ r. new.cell r c.param ≡ Some v) (row_is s key (in_old s key there) under) (takes.has c v among))
        ],
      );
      happened = λ s key m there within. (
        λ mark. elim (takes.mark_from s m within mark) [
          | inl before ↦
              let has = (index.happened s key m (in_old s key there) within).0 before in
              record { event = has.event; among = Contains-append_left history (e ∷ []) has.event has.among; under = has.under; message_is = has.message_is }
          | inr (is, message) ↦ record { event = e; among = Contains-push history e; under = key_is s key (in_old s key there) is; message_is = sym message }
        ],
        λ has. elim (event_cases history e key m has) [
          | inl before ↦ takes.mark_stays s m within ((index.happened s key m (in_old s key there) within).1 before)
          | inr (under, message) ↦ subst (λ n. new.mark s n ≡ true) message (subst (λ r. new.mark r (instance_of e).message ≡ true) (row_is s key (in_old s key there) under) takes.marked)
        ],
      );
      blank_cells = λ s p past within. still_blank (new.cell s p) (λ v is. elim (takes.from s p v within is) [
        | inl before ↦ none-some v (sym (index.blank_cells s p (subst (λ keys. length keys ≤ s) takes.keys past) within) ∙ before)
        | inr (here, _) ↦ absurd (beyond old.keys s row (instance_of e).key at (subst (λ keys. length keys ≤ s) takes.keys past) here)
      ]);
      blank_marks = λ s m past within. elim (cases_Bool (new.mark s m)) [
        | inl marked ↦ elim (takes.mark_from s m within marked) [
          | inl before ↦ absurd (true≢false (sym before ∙ index.blank_marks s m (subst (λ keys. length keys ≤ s) takes.keys past) within))
          | inr (here, _) ↦ absurd (beyond old.keys s row (instance_of e).key at (subst (λ keys. length keys ≤ s) takes.keys past) here)
        ]
        | inr blank ↦ blank
      ];
    }
  where
    same_key : (keys : List (List Value)) (s r : ℕ) (key other : List Value) → slice_get keys s ≡ Some key → slice_get keys r ≡ Some other → s ≡ r → other ≡ key
    same_key keys s r key other there is same = same_Some other key (sym is ∙ ap (slice_get keys) (sym same) ∙ there)

    beyond : (keys : List (List Value)) (s r : ℕ) (key : List Value) → slice_get keys r ≡ Some key → length keys ≤ s → s ≡ r → ⊥
    beyond keys s r key there past same = omega (arith, slice_get_within keys r key there, past, same)
