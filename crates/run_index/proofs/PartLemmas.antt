-- What the events under a key make known and permit, they do in the run.
use Rattle.std.proofs.Common.{◌≡◌, ℕ, List}
use Rattle.std.specs.List.{Contains}
use Rattle.std.specs.Prelude.{◌==◌}
use Rattle.list_base.proofs.Filtered.{filtered_member, kept_member}
use Rattle.bspl_types.specs.declared.event.Event.{Event}
use Rattle.bspl_types.specs.declared.expanded.Expanded.{Expanded}
use Rattle.bspl_types.specs.declared.value.Value.{Value}
use Rattle.bspl_types.specs.History.{history_of, instance_of, role_of}
use Rattle.bspl_types.specs.Knowledge.{CanEmit, IsKnown, Knows}
use Rattle.run_index.specs.inner.Enactment.{HasEventsUnder}

-- both lists have the same events under the key
pub record AgreeUnder (key : List Value) (events others : List Event) : Type 0 where
  pub to : (e : Event) → (instance_of e).key ≡ key → Contains events e → Contains others e
  pub back : (e : Event) → (instance_of e).key ≡ key → Contains others e → Contains events e

-- the other way round
pub flipped : (key : List Value) (events others : List Event) → AgreeUnder key events others → AgreeUnder key others events
flipped key events others agree = record { to = agree.back; back = agree.to }

-- the events of an enactment agree with the run
pub part_agrees : (run : List Event) (key : List Value) (events : List Event) → HasEventsUnder run key events → AgreeUnder key events run
part_agrees run key events part =
    record {
      to = λ e own among. ((part.members e).0 among).0;
      back = λ e own among. (part.members e).1 (among, own);
    }

-- what is known from one is known from the other
knows_from : (x : Expanded) (key : List Value) (events others : List Event) → AgreeUnder key events others → (role p : ℕ) (v : Value) → Knows x (history_of x role events) key p v → Knows x (history_of x role others) key p v
knows_from x key events others agree role p v knows =
    let (there, own) = filtered_member (λ e. role_of x e == role) events knows.event knows.among in
    record {
      event = knows.event;
      among = kept_member (λ e. role_of x e == role) others knows.event own (agree.to knows.event knows.under there);
      under = knows.under;
      adornment = knows.adornment;
      carries = knows.carries;
    }

-- whatever the value
pub known_from : (x : Expanded) (key : List Value) (events others : List Event) → AgreeUnder key events others → (role p : ℕ) → IsKnown x (history_of x role events) key p → IsKnown x (history_of x role others) key p
known_from x key events others agree role p (v, knows) = (v, knows_from x key events others agree role p v knows)

-- what can be emitted after one can be emitted after the other
pub can_from : (x : Expanded) (key : List Value) (events others : List Event) → AgreeUnder key events others → (role m : ℕ) → CanEmit x (history_of x role events) m key → CanEmit x (history_of x role others) m key
can_from x key events others agree role m can =
    let back = flipped key events others agree in
    record {
      known = can.known;
      ins = λ p adorned. known_from x key events others agree role p (can.ins p adorned);
      outs = λ p adorned known. can.outs p adorned (known_from x key others events back role p known);
      nils = λ p adorned known. can.nils p adorned (known_from x key others events back role p known);
    }
