-- Which messages may be sent, and the forms of the first ones.
use Rattle.std.proofs.Common.{◌≡◌, ◌<◌, ◌+◌, ℕ, List, [], ◌∷◌, ◌++◌, inl, inr, length, get_or, map, sym, ap, subst, ◌∙◌, arith}
use Rattle.std.specs.Prelude.{◌↔◌}
use Rattle.std.specs.List.{All, AllPairs, Contains}
use Rattle.std.proofs.lemmas.Bool.{cases_eq}
use Rattle.std.proofs.lemmas.List.{get_or_default, map-append}
use Rattle.std.proofs.lemmas.List.Elements.{All-contains, All-nil, All-push, Contains-append_left, Contains-push}
use Rattle.std.proofs.lemmas.List.Quantifiers.{all_pairs_push}
use Rattle.bspl_types.specs.declared.event.Event.{Event}
use Rattle.bspl_types.specs.declared.expanded.Expanded.{Expanded}
use Rattle.bspl_types.specs.declared.protocol.Adornment.TheVariants.{In, Out, Nil}
use Rattle.bspl_types.specs.declared.protocol.Carried.{Carried}
use Rattle.bspl_types.specs.declared.value.Value.{Value}
use Rattle.bspl_types.specs.Expansion.{message_of}
use Rattle.bspl_types.specs.Knowledge.{CanEmit, IsKnown}
use Rattle.role_knowledge.specs.Blocked.{IsPermitted, Permits}
use Rattle.local_store.specs.State.{StoreState}
use Rattle.role_questions.specs.declared.form.Form.{Form}
use Rattle.role_questions.specs.Forms.{AreForms, IsForm, MaySend}
use Rattle.role_questions.specs.inner.FormOf.{IsFormOf}

module _ (x : Expanded) (history : List Event) (m : ℕ) (key : List Value) where
  -- a message of permitted parameters can be emitted
  can_if_permitted : m < length x.messages → All (IsPermitted x history key) (message_of x m).carried → CanEmit x history m key
  can_if_permitted known all =
      let each = All-contains (IsPermitted x history key) (message_of x m).carried in
      record {
        known = known;
        ins = λ p. each (record { param = p; adornment = In }) all;
        outs = λ p. each (record { param = p; adornment = Out }) all;
        nils = λ p. each (record { param = p; adornment = Nil }) all;
      }

  -- the parameters of a message that can be emitted are permitted
  permitted_if_can : CanEmit x history m key → (c : Carried) → Contains (message_of x m).carried c → IsPermitted x history key c
  permitted_if_can can c = elim c.adornment as (λ a. Contains (message_of x m).carried (record { param = c.param; adornment = a }) → Permits a (IsKnown x history key c.param)) [
    | In ↦ can.ins c.param
    | Out ↦ can.outs c.param
    | Nil ↦ can.nils c.param
  ]

  -- so one is the other
  pub can_exactly : m < length x.messages → All (IsPermitted x history key) (message_of x m).carried ↔ CanEmit x history m key
  can_exactly known = (can_if_permitted known, λ can k d within. permitted_if_can can (get_or (message_of x m).carried k d) (k, within, get_or_default (message_of x m).carried k (get_or (message_of x m).carried k d) d within))

-- of the messages before one, exactly those that may be sent, in order
pub record EnabledBefore (s : StoreState) (key : List Value) (count : ℕ) (messages : List ℕ) : Type 0 where
  pub each : All (MaySend s key) messages
  pub below : All (λ m. m < count) messages
  pub all : (m : ℕ) → m < count → MaySend s key m → Contains messages m
  pub in_order : AllPairs ◌<◌ messages

-- their forms
pub record FormsBefore (s : StoreState) (key : List Value) (count : ℕ) (forms : List Form) : Type 0 where
  pub messages : EnabledBefore s key count (map (λ f. f.message) forms)
  pub each : All (IsForm s key) forms

module _ (s : StoreState) (key : List Value) (count : ℕ) (messages : List ℕ) (are : EnabledBefore s key count messages) where
  -- the next message may be sent
  enabled_more : MaySend s key count → EnabledBefore s key (count + 1) (messages ++ count ∷ [])
  enabled_more may = record {
    each = All-push (MaySend s key) messages count are.each may;
    below = All-push (λ (m : ℕ). m < count + 1) messages count (λ k d within. omega (arith, are.below k d within)) (omega arith);
    all = λ m within sends. (elim (cases_eq m count) as (λ _. Contains (messages ++ count ∷ []) m) [
      | inl same ↦ subst (λ (n : ℕ). Contains (messages ++ count ∷ []) n) (sym same) (Contains-push messages count)
      | inr other ↦ Contains-append_left messages (count ∷ []) m (are.all m (omega (arith, within, other)) sends)
    ]);
    in_order = all_pairs_push (λ (m n : ℕ). m < n) messages count are.in_order (λ k d within. are.below k d within);
  }

  -- it may not
  enabled_same : (MaySend s key count → ⊥) → EnabledBefore s key (count + 1) messages
  enabled_same not = record {
    each = are.each;
    below = λ k d within. omega (arith, are.below k d within);
    all = λ m within sends. (elim (cases_eq m count) as (λ _. Contains messages m) [
      | inl same ↦ absurd (not (subst (λ (n : ℕ). MaySend s key n) same sends))
      | inr other ↦ are.all m (omega (arith, within, other)) sends
    ]);
    in_order = are.in_order;
  }

module _ (s : StoreState) (key : List Value) (count : ℕ) (forms : List Form) (are : FormsBefore s key count forms) where
  -- the form of the next message is added
  pub forms_more : (f : Form) → IsFormOf s key count f → MaySend s key count → FormsBefore s key (count + 1) (forms ++ f ∷ [])
  forms_more f form may = record {
    messages = subst (λ list. EnabledBefore s key (count + 1) list) (sym (map-append (λ (g : Form). g.message) forms (f ∷ []) ∙ ap (λ (m : ℕ). map (λ (g : Form). g.message) forms ++ m ∷ []) form.message_is)) (enabled_more s key count (map (λ (g : Form). g.message) forms) are.messages may);
    each = All-push (IsForm s key) forms f are.each form.is;
  }

  -- the next message has none
  pub forms_same : (MaySend s key count → ⊥) → FormsBefore s key (count + 1) forms
  forms_same not = record {
    messages = enabled_same s key count (map (λ (g : Form). g.message) forms) are.messages not;
    each = are.each;
  }

-- at first there is none
pub forms_none : (s : StoreState) (key : List Value) → FormsBefore s key 0 []
forms_none s key = record {
  messages = record {
    each = All-nil (MaySend s key);
    below = All-nil (λ (m : ℕ). m < 0);
    all = λ m less may. absurd (let none : ⊥ = omega (arith, less) in none);
    in_order = λ i j d before within. omega (arith, within);
  };
  each = All-nil (IsForm s key);
}

-- at the end these are the forms
pub forms_whole : (s : StoreState) (key : List Value) (count : ℕ) (forms : List Form) → FormsBefore s key count forms → count ≡ length s.protocol.messages → AreForms s key forms
forms_whole s key count forms are whole = record {
  messages = record {
    each = are.messages.each;
    all = λ m may. are.messages.all m (subst (λ (n : ℕ). m < n) (sym whole) may.can.known) may;
    in_order = are.messages.in_order;
  };
  each = are.each;
}
