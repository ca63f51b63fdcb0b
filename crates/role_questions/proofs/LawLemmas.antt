-- The instances that may be emitted are those that fill in a form.
use Rattle.std.proofs.Common.{◌≡◌, ◌<◌, ℕ, false, List, [], length, get_or, map, sym, subst, ◌∙◌, arith}
use Rattle.std.specs.List.{Contains}
use Rattle.std.proofs.lemmas.List.{get_or-map, length-map}
use Rattle.std.proofs.lemmas.List.Elements.{All-contains, Contains-get_or}
use Rattle.list_base.proofs.Filtered.{filtered_member}
use Rattle.list_base.proofs.Partners.{zipped_member}
use Rattle.bspl_types.specs.declared.event.Instance.{Instance}
use Rattle.bspl_types.specs.declared.expanded.Expanded.{Expanded}
use Rattle.bspl_types.specs.declared.protocol.Adornment.{Adornment}
use Rattle.bspl_types.specs.declared.protocol.Adornment.TheVariants.{In}
use Rattle.bspl_types.specs.declared.value.Value.{Value}
use Rattle.bspl_types.specs.Adornment.{has_value, valued}
use Rattle.bspl_types.specs.Expansion.{Adorns, message_of}
use Rattle.bspl_types.specs.Instance.{Carries}
use Rattle.bspl_types.specs.Knowledge.{CanEmit, IsEnabled, Knows}
use Rattle.local_store.specs.State.{StoreState, acts_of}
use Rattle.role_questions.specs.declared.form.Form.{Form}
use Rattle.role_questions.specs.Forms.{AreForms, IsForm, MaySend}
use Rattle.role_questions.specs.Laws.{FillsIn, FormsAreEnabled}

-- a form of the message is among the forms that have it
form_of_message : (forms : List Form) (m : ℕ) → Contains (map (λ (f : Form). f.message) forms) m → (f : Form) × Contains forms f × (f.message ≡ m)
form_of_message forms m among =
    let blank : Form = record { message = m; sent = false; ins = []; outs = [] } in
    let within : among.0 < length forms = omega (arith, length-map forms (λ (f : Form). f.message), among.1) in
    (get_or forms among.0 blank, Contains-get_or forms among.0 blank within, sym (get_or-map (λ (f : Form). f.message) forms among.0 blank m within) ∙ among.2)

-- the message of an instance gives the parameter the adornment with which the instance carries it
adorned_as_carried : (x : Expanded) (i : Instance) (adornment : Adornment) (p : ℕ) (v : Value) → Carries x i adornment p v → Adorns x i.message adornment p
adorned_as_carried x i adornment p v carries =
    let carried = (message_of x i.message).carried in
    (filtered_member (λ c. has_value c.adornment) carried (record { param = p; adornment = adornment }) (zipped_member (valued carried) i.values (record { param = p; adornment = adornment }) v carries)).0

module _ (s : StoreState) (key : List Value) (forms : List Form) (are : AreForms s key forms) (i : Instance) (under : i.key ≡ key) (own : (message_of s.protocol i.message).sender ≡ s.role) where
  -- an enabled instance fills in the form of its message
  fills_one : IsEnabled s.protocol (acts_of s) i → (f : Form) × Contains forms f × FillsIn s.protocol f i
  fills_one enabled =
      let may : MaySend s key i.message = record { own = own; can = subst (λ (k : List Value). CanEmit s.protocol (acts_of s) i.message k) under enabled.can } in
      let found = form_of_message forms i.message (are.messages.all i.message may) in
      let form : IsForm s key found.0 = All-contains (IsForm s key) forms found.0 are.each found.1 in (
        found.0,
        found.1,
        record {
          message_is = sym found.2;
          ins_are = λ p v carries. (form.ins_are p v).1 (subst (λ (m : ℕ). Adorns s.protocol m In p) (sym found.2) (adorned_as_carried s.protocol i In p v carries), subst (λ (k : List Value). Knows s.protocol (acts_of s) k p v) under (enabled.same p v carries));
        },
      )

  -- an instance that fills in a form is enabled
  enabled_if_fills : (f : Form) → Contains forms f → FillsIn s.protocol f i → IsEnabled s.protocol (acts_of s) i
  enabled_if_fills f among fills =
      let form : IsForm s key f = All-contains (IsForm s key) forms f are.each among in
      record {
        can = subst (λ (k : List Value). CanEmit s.protocol (acts_of s) i.message k) (sym under) (subst (λ (m : ℕ). CanEmit s.protocol (acts_of s) m key) (sym fills.message_is) form.may.can);
        same = λ p v carries. subst (λ (k : List Value). Knows s.protocol (acts_of s) k p v) (sym under) ((form.ins_are p v).0 (fills.ins_are p v carries)).1;
      }

-- so one is the other
pub filled_forms : FormsAreEnabled
filled_forms s key forms are i under own = (
  fills_one s key forms are i under own,
  λ found. enabled_if_fills s key forms are i under own found.0 found.1 found.2,
)
