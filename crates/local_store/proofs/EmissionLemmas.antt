-- What is emitted agrees with what is known, and may follow.
use Rattle.std.proofs.Common.{◌≡◌, ℕ, List, get_or, sym, subst}
use Rattle.std.specs.List.{Contains}
use Rattle.std.proofs.lemmas.List.Elements.{Contains-get_or}
use Rattle.list_base.proofs.Filtered.{filtered_member}
use Rattle.list_base.proofs.Partners.{zipped_member}
use Rattle.bspl_types.specs.declared.envelope.Stamped.{Stamped}
use Rattle.bspl_types.specs.declared.protocol.Adornment.TheVariants.{In, Out, Nil}
use Rattle.bspl_types.specs.declared.protocol.Carried.{Carried}
use Rattle.bspl_types.specs.declared.value.Value.{Value}
use Rattle.bspl_types.specs.Adornment.{has_value, valued}
use Rattle.bspl_types.specs.Expansion.{message_of}
use Rattle.bspl_types.specs.Instance.{pairs}
use Rattle.bspl_types.specs.Knowledge.{CanEmit, Knows}
use Rattle.stamped_history.specs.Local.{MayEmit}
use Rattle.local_store.specs.Emission.{IsEmission}
use Rattle.local_store.specs.Reception.{AllAgree}
use Rattle.local_store.specs.State.{StoreState, acts_of}
use Rattle.local_store.specs.inner.Kept.{IsSound}

-- its message can be emitted under its key
can_own : (s : StoreState) (message : ℕ) (key outs : List Value) (m : Stamped) → CanEmit s.protocol (acts_of s) message key → IsEmission s message key outs m → CanEmit s.protocol (acts_of s) m.instance.message m.instance.key
can_own s message key outs m can e = subst (λ k. CanEmit s.protocol (acts_of s) m.instance.message k) (sym e.key_is) (subst (λ n. CanEmit s.protocol (acts_of s) n key) (sym e.message_is) can)

-- a value that is known is the one that is emitted
pair_agrees : (s : StoreState) (message : ℕ) (key outs : List Value) (m : Stamped) → IsSound s → CanEmit s.protocol (acts_of s) message key → IsEmission s message key outs m → (c : Carried) (u v : Value) → Contains (pairs s.protocol m.instance) (c, u) → Knows s.protocol (acts_of s) m.instance.key c.param v → v ≡ u
pair_agrees s message key outs m sound can e c u v pair known =
    let x = s.protocol in
    let own = can_own s message key outs m can e in
    let carried = (message_of x m.instance.message).carried in
    let among = (filtered_member (λ d. has_value d.adornment) carried c (zipped_member (valued carried) m.instance.values c u pair)).0 in
    (elim c.adornment as (λ a. Contains (pairs x m.instance) (record { param = c.param; adornment = a }, u) → Contains carried (record { param = c.param; adornment = a }) → v ≡ u) [
      | In ↦ λ in_pair _. sound.local.one_value key c.param v u (subst (λ k. Knows x (acts_of s) k c.param v) e.key_is known) (e.ins c.param u in_pair)
      | Out ↦ λ _ adorns. absurd (own.outs c.param adorns (v, known))
      | Nil ↦ λ _ adorns. absurd (own.nils c.param adorns (v, known))
    ]) pair among

pub emission_agrees : (s : StoreState) (message : ℕ) (key outs : List Value) (m : Stamped) → IsSound s → CanEmit s.protocol (acts_of s) message key → IsEmission s message key outs m → AllAgree s.protocol (acts_of s) m.instance
emission_agrees s message key outs m sound can e k d within v known =
    let pair = get_or (pairs s.protocol m.instance) k d in
    pair_agrees s message key outs m sound can e pair.0 pair.1 v (Contains-get_or (pairs s.protocol m.instance) k d within) known

pub emission_follows : (s : StoreState) (message : ℕ) (key outs : List Value) (m : Stamped) → CanEmit s.protocol (acts_of s) message key → IsEmission s message key outs m → MayEmit s.protocol s.entries m.instance m.stamp m.number
emission_follows s message key outs m can e = record {
  enabled = record {
    can = can_own s message key outs m can e;
    same = λ p v carries. subst (λ k. Knows s.protocol (acts_of s) k p v) (sym e.key_is) (e.ins p v carries);
  };
  next = e.stamp_is;
  own = e.number_is;
}
