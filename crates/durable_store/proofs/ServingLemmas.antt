-- What holds under the keys that a store holds, holds under the keys that it was given.
use Rattle.std.proofs.Common.{◌≡◌, ℕ, inl, inr, List, get_or, sym, ap, ◌∙◌, subst}
use Rattle.bspl_types.specs.declared.expanded.Expanded.{Expanded}
use Rattle.bspl_types.specs.declared.value.Value.{Value}
use Rattle.bspl_types.specs.History.{instance_of}
use Rattle.stamped_history.specs.declared.entry.Entry.{Entry}
use Rattle.local_store.specs.State.{StoreState}
use Rattle.role_journal.specs.Counts.{Counts, after_fault}
use Rattle.durable_store.specs.declared.refusals.StartRefusal.{StartRefusal}
use Rattle.durable_store.specs.declared.refusals.StartRefusal.TheVariants.{Alien, DiskFault, NoMemory}
use Rattle.durable_store.specs.Alien.{IsAlien, IsFirstAlien}
use Rattle.durable_store.specs.History.{AreUnder, IsHistory}
use Rattle.durable_store.specs.Start.{HoldsKeys, IsStartRefusal}
use Rattle.durable_store.specs.inner.Begun.{IsBlank, IsOfSame}

module _ (x : Expanded) (role : ℕ) (held keys : List (List Value)) (holds : HoldsKeys held keys) where
  under_named : (es : List Entry) → AreUnder held es → AreUnder keys es
  under_named es under k d less = (holds.same (instance_of (get_or es k d).event).key).0 (under k d less)

  under_held : (es : List Entry) → AreUnder keys es → AreUnder held es
  under_held es under k d less = (holds.same (instance_of (get_or es k d).event).key).1 (under k d less)

  pub history_named : (es : List Entry) → IsHistory x role held es → IsHistory x role keys es
  history_named es history = record { sized = history.sized; local = history.local; under = under_named es history.under }

  pub history_held : (es : List Entry) → IsHistory x role keys es → IsHistory x role held es
  history_held es history = record { sized = history.sized; local = history.local; under = under_held es history.under }

  module _ (image : List ℕ) (place : ℕ) where
    alien_named : IsAlien x role held image place → IsAlien x role keys image place
    alien_named alien = record {
      within = alien.within;
      opened = alien.opened;
      why = elim alien.why [
        | inl none ↦ inl none
        | inr (inl other) ↦ inr (inl other)
        | inr (inr (inl (es, to, isnt))) ↦ inr (inr (inl (es, to, λ under. isnt (under_held es under))))
        | inr (inr (inr late)) ↦ inr (inr (inr late))
      ];
    }

    alien_held : IsAlien x role keys image place → IsAlien x role held image place
    alien_held alien = record {
      within = alien.within;
      opened = alien.opened;
      why = elim alien.why [
        | inl none ↦ inl none
        | inr (inl other) ↦ inr (inl other)
        | inr (inr (inl (es, to, isnt))) ↦ inr (inr (inl (es, to, λ under. isnt (under_named es under))))
        | inr (inr (inr late)) ↦ inr (inr (inr late))
      ];
    }

  pub first_named : (image : List ℕ) (place : ℕ) → IsFirstAlien x role held image place → IsFirstAlien x role keys image place
  first_named image place first = record {
    alien = alien_named image place first.alien;
    first = λ earlier before alien. first.first earlier before (alien_held image earlier alien);
  }

-- the store is the role's, and holds these keys
pub record Serves (x : Expanded) (role : ℕ) (keys : List (List Value)) (s : StoreState) : Type 0 where
  pub protocol_is : s.protocol ≡ x
  pub role_is : s.role ≡ role
  pub keys_are : HoldsKeys s.keys keys

pub serves : (x : Expanded) (role room : ℕ) (keys : List (List Value)) (blank s : StoreState) → IsBlank x role keys room blank → IsOfSame blank s → Serves x role keys s
serves x role room keys blank s is same = record {
  protocol_is = same.protocol_is ∙ is.protocol_is;
  role_is = same.role_is ∙ is.role_is;
  keys_are = subst (λ (held : List (List Value)). HoldsKeys held keys) (sym same.keys_are) is.keys_are;
}

module _ (x : Expanded) (role : ℕ) (keys : List (List Value)) (s : StoreState) (serving : Serves x role keys s) where
  pub history_for : (es : List Entry) → IsHistory s.protocol s.role s.keys es → IsHistory x role keys es
  history_for es history =
      subst (λ (y : Expanded). IsHistory y role keys es) serving.protocol_is
      (subst (λ (r : ℕ). IsHistory s.protocol r keys es) serving.role_is (history_named s.protocol s.role s.keys keys serving.keys_are es history))

  pub history_of_store : (es : List Entry) → IsHistory x role keys es → IsHistory s.protocol s.role s.keys es
  history_of_store es history =
      history_held s.protocol s.role s.keys keys serving.keys_are es
      (subst (λ (r : ℕ). IsHistory s.protocol r keys es) (sym serving.role_is) (subst (λ (y : Expanded). IsHistory y role keys es) (sym serving.protocol_is) history))

  pub first_for : (image : List ℕ) (place : ℕ) → IsFirstAlien s.protocol s.role s.keys image place → IsFirstAlien x role keys image place
  first_for image place first =
      subst (λ (y : Expanded). IsFirstAlien y role keys image place) serving.protocol_is
      (subst (λ (r : ℕ). IsFirstAlien s.protocol r keys image place) serving.role_is (first_named s.protocol s.role s.keys keys serving.keys_are image place first))

  -- the refusal of a restored store
  pub refusal_for : (image image' : List ℕ) (old mid new : Counts) (e : StartRefusal) → image' ≡ image → mid ≡ old → IsStartRefusal s.protocol s.role s.keys image' mid new e → IsStartRefusal x role keys image old new e
  refusal_for image image' old mid new (Alien place) same still (first, counts) = (subst (λ (i : List ℕ). IsFirstAlien x role keys i place) same (first_for image' place first), counts ∙ still)
  refusal_for image image' old mid new DiskFault same still counts = counts ∙ ap after_fault still
  refusal_for image image' old mid new NoMemory same still counts = counts ∙ still
