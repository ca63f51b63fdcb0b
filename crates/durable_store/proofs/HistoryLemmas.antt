-- The first entries of a role's history are one as well.
use Rattle.std.proofs.Common.{◌≡◌, ℕ, List, ◌∷◌, ◌++◌, Some, sym, ap, ◌∙◌, subst, append_assoc, All, Contains}
use Rattle.std.specs.Prelude.{slice_get}
use Rattle.std.proofs.lemmas.List.{map-append}
use Rattle.std.proofs.lemmas.List.Elements.{All-contains, Contains-append_left}
use Rattle.list_base.proofs.Mapped.{all_of_mapped}
use Rattle.list_base.proofs.Membership.{all_prefix, member_at}
use Rattle.bspl_types.specs.declared.event.Event.{Event}
use Rattle.bspl_types.specs.declared.expanded.Expanded.{Expanded}
use Rattle.bspl_types.specs.declared.value.Value.{Value}
use Rattle.bspl_types.specs.History.{instance_of, IsRun, role_of}
use Rattle.bspl_types.specs.Instance.{Fits}
use Rattle.bspl_types.specs.Knowledge.{Knows}
use Rattle.stamped_history.specs.declared.entry.Entry.{Entry}
use Rattle.stamped_history.specs.Entries.{events_of}
use Rattle.stamped_history.specs.Local.{IsLocal}

-- the events of the first entries come first
events_split : (xs ys : List Entry) → events_of (xs ++ ys) ≡ events_of xs ++ events_of ys
events_split xs ys = map-append (λ e. e.event) xs ys

-- what they make known stays known
known_more : (x : Expanded) (xs ys : List Entry) (key : List Value) (p : ℕ) (v : Value) → Knows x (events_of xs) key p v → Knows x (events_of (xs ++ ys)) key p v
known_more x xs ys key p v known = record {
  event = known.event;
  among = subst (λ (events : List Event). Contains events known.event) (sym (events_split xs ys)) (Contains-append_left (events_of xs) (events_of ys) known.event known.among);
  under = known.under;
  adornment = known.adornment;
  carries = known.carries;
}

-- so they are local
pub local_prefix : (x : Expanded) (role : ℕ) (xs ys : List Entry) → IsLocal x role (xs ++ ys) → IsLocal x role xs
local_prefix x role xs ys local = record {
  fits = all_prefix (λ (e : Event). Fits x (instance_of e)) (events_of xs) (events_of ys) (subst (IsRun x) (events_split xs ys) local.fits);
  own = all_prefix (λ (e : Event). role_of x e ≡ role) (events_of xs) (events_of ys) (subst (All (λ e. role_of x e ≡ role)) (events_split xs ys) local.own);
  follows = λ before after e split. local.follows before (after ++ ys) e (ap (λ (zs : List Entry). zs ++ ys) split ∙ append_assoc before (e ∷ after) ys);
  one_value = λ key p v w first second. local.one_value key p v w (known_more x xs ys key p v first) (known_more x xs ys key p w second);
}

-- each entry of a local history is the role's
pub own_entry : (x : Expanded) (role : ℕ) (entries : List Entry) (k : ℕ) (e : Entry) → IsLocal x role entries → slice_get entries k ≡ Some e → role_of x e.event ≡ role
own_entry x role entries k e local at = All-contains (λ (f : Entry). role_of x f.event ≡ role) entries e (all_of_mapped (λ (f : Event). role_of x f ≡ role) (λ (f : Entry). f.event) entries local.own) (member_at entries k e at)
