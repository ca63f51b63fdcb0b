-- A store gives one answer to a message that comes.
use Rattle.std.proofs.Common.{◌≡◌, ℕ, List, [], ◌∷◌, ◌++◌, drop, get_or, refl, sym, ap, subst, ◌∙◌}
use Rattle.std.specs.List.{All, Contains}
use Rattle.std.proofs.lemmas.List.Elements.{All-contains, All-head, All-tail, Contains-append_right}
use Rattle.list_base.proofs.Members.{here}
use Rattle.bspl_types.specs.declared.envelope.Stamped.{Stamped}
use Rattle.bspl_types.specs.declared.event.Event.{Event}
use Rattle.bspl_types.specs.declared.event.Instance.{Instance}
use Rattle.bspl_types.specs.declared.expanded.Expanded.{Expanded}
use Rattle.bspl_types.specs.declared.protocol.Carried.{Carried}
use Rattle.bspl_types.specs.declared.value.Value.{Value}
use Rattle.bspl_types.specs.Instance.{pairs}
use Rattle.bspl_types.specs.Knowledge.{Knows}
use Rattle.local_store.specs.declared.receipt.Receipt.{Receipt}
use Rattle.local_store.specs.declared.receipt.Receipt.TheVariants.{Fresh, Repeat, Differs}
use Rattle.local_store.specs.Reception.{Agrees, AllAgree, IsFirstDifference, IsReceipt}
use Rattle.local_store.specs.State.{StoreState, acts_of}
use Rattle.stamped_history.specs.Local.{KnowsOneValue}

-- the first item of a list that fails a condition is one
one_split : {X : Type 0} (P : X → Type 0) (before other : List X) (x y : X) (after rest : List X) → before ++ x ∷ after ≡ other ++ y ∷ rest → All P before → All P other → ¬ P x → ¬ P y → x ≡ y
one_split P [] [] x y after rest same all all_other not_x not_y = ap (λ zs. get_or zs 0 x) same
one_split P [] (z ∷ other) x y after rest same all all_other not_x not_y =
    absurd (not_x (subst P (sym (ap (λ zs. get_or zs 0 x) same)) (All-head P z other all_other)))
one_split P (z ∷ before) [] x y after rest same all all_other not_x not_y =
    absurd (not_y (subst P (ap (λ zs. get_or zs 0 z) same) (All-head P z before all)))
one_split P (z ∷ before) (w ∷ other) x y after rest same all all_other not_x not_y =
    one_split P before other x y after rest (ap (drop 1) same) (All-tail P z before all) (All-tail P w other all_other) not_x not_y

module _ (x : Expanded) (history : List Event) (i : Instance) (one_value : KnowsOneValue x history) where
  -- what differs does not agree
  not_agreed : (p : ℕ) (kept arrived : Value) (d : IsFirstDifference x history i p kept arrived) → ¬ Agrees x history i.key d.differing
  not_agreed p kept arrived d agrees =
      d.differs (agrees kept (subst (λ (q : ℕ). Knows x history i.key q kept) d.param_is d.knows) ∙ sym d.arrived_is)

  -- so not all agree
  not_all_agree : (p : ℕ) (kept arrived : Value) → IsFirstDifference x history i p kept arrived → ¬ AllAgree x history i
  not_all_agree p kept arrived d all =
      let among : Contains (pairs x i) d.differing = subst (λ (ps : List (Carried × Value)). Contains ps d.differing) (sym d.split) (Contains-append_right d.before (d.differing ∷ d.after) d.differing (here d.differing d.after)) in
      not_agreed p kept arrived d (All-contains (Agrees x history i.key) (pairs x i) d.differing all among)

  -- two first differences are one
  one_difference : (p q : ℕ) (kept kept' arrived arrived' : Value) → IsFirstDifference x history i p kept arrived → IsFirstDifference x history i q kept' arrived' → Differs p kept arrived ≡ Differs q kept' arrived'
  one_difference p q kept kept' arrived arrived' one two =
      let same = one_split (Agrees x history i.key) one.before two.before one.differing two.differing one.after two.after (sym one.split ∙ two.split) one.agreed two.agreed (not_agreed p kept arrived one) (not_agreed q kept' arrived' two) in
      let param : p ≡ q = one.param_is ∙ ap (λ (d : Carried × Value). d.0.param) same ∙ sym two.param_is in
      let came : arrived ≡ arrived' = one.arrived_is ∙ ap (λ (d : Carried × Value). d.1) same ∙ sym two.arrived_is in
      let known : kept ≡ kept' = one_value i.key q kept kept' (subst (λ (r : ℕ). Knows x history i.key r kept) param one.knows) two.knows in
      λ k. Differs (param k) (known k) (came k)

-- the receipt and the store after it are one
pub one_receipt : (s : StoreState) (m : Stamped) → KnowsOneValue s.protocol (acts_of s) → (r r' : Receipt) (new new' : StoreState) → IsReceipt s m r new → IsReceipt s m r' new' → (r ≡ r') × (new ≡ new')
one_receipt s m one_value Repeat Repeat new new' one two = (refl, one.1 ∙ sym two.1)
one_receipt s m one_value Repeat (Differs p kept arrived) new new' one two = absurd (two.0 one.0)
one_receipt s m one_value Repeat Fresh new new' one two = absurd (two.0 one.0)
one_receipt s m one_value (Differs p kept arrived) Repeat new new' one two = absurd (one.0 two.0)
one_receipt s m one_value (Differs p kept arrived) (Differs q kept' arrived') new new' one two =
    (one_difference s.protocol (acts_of s) m.instance one_value p q kept kept' arrived arrived' one.1 two.1, one.2 ∙ sym two.2)
one_receipt s m one_value (Differs p kept arrived) Fresh new new' one two = absurd (not_all_agree s.protocol (acts_of s) m.instance one_value p kept arrived one.1 two.1)
one_receipt s m one_value Fresh Repeat new new' one two = absurd (one.0 two.0)
one_receipt s m one_value Fresh (Differs p kept arrived) new new' one two = absurd (not_all_agree s.protocol (acts_of s) m.instance one_value p kept arrived two.1 one.1)
one_receipt s m one_value Fresh Fresh new new' one two = (refl, one.2 ∙ sym two.2)
