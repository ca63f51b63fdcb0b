-- What the outline of an entry says of it.
use Rattle.std.proofs.Common.{◌≡◌, ℕ, ◌<◌, List, Some, length, refl, sym, ap, ◌∙◌, subst, arith, option_map}
use Rattle.std.specs.Prelude.{slice_get}
use Rattle.std.proofs.lemmas.Option.{same_Some, slice_get-map}
use Rattle.bspl_types.specs.declared.event.Event.{Event}
use Rattle.bspl_types.specs.declared.event.Event.TheVariants.{Emit, Receive}
use Rattle.bspl_types.specs.declared.event.Instance.{Instance}
use Rattle.adapter.specs.Desk.{DeskState}
use Rattle.local_store.specs.declared.act.Kind.{Kind}
use Rattle.local_store.specs.declared.act.Kind.TheVariants.{Emitted, Received}
use Rattle.local_store.specs.Outline.{outline_of, outlines}
use Rattle.local_store.specs.State.{StoreState}
use Rattle.stamped_history.specs.declared.entry.Entry.{Entry}
use Rattle.stamped_history.specs.Explained.{history_at}
use Rattle.world_run.specs.World.{histories_of}
use Rattle.world_run.proofs.WorldLemmas.{history_is}

-- an entry of the role's history, with the outline that its store shows
pub record OutlinedAt (desks : List DeskState) (role k : ℕ) (d : DeskState) (entry : Entry) (o : Kind × ℕ) : Type 0 where
  pub at : slice_get d.store.entries k ≡ Some entry
  pub outline_is : outline_of entry.event ≡ o

-- a store shows it like that
pub outlined : (desks : List DeskState) (role k : ℕ) (d : DeskState) (store : StoreState) (entry : Entry) (o : Kind × ℕ) → slice_get desks role ≡ Some d → store ≡ d.store → slice_get {X = Kind × ℕ} (outlines store) k ≡ Some o → slice_get (history_at (histories_of desks) role) k ≡ Some entry → OutlinedAt desks role k d entry o
outlined desks role k d store entry o desk store_is shown at =
    let here : slice_get d.store.entries k ≡ Some entry = subst (λ h. slice_get h k ≡ Some entry) (history_is desks role d desk) at in
    let there : slice_get {X = Kind × ℕ} (outlines d.store) k ≡ Some o = subst (λ (s : StoreState). slice_get {X = Kind × ℕ} (outlines s) k ≡ Some o) store_is shown in
    let outline : Entry → Kind × ℕ = λ e. outline_of e.event in
    record { at = here; outline_is = same_Some (outline_of entry.event) o (sym (slice_get-map outline d.store.entries k ∙ ap (option_map outline) here) ∙ there) }

-- that of an emission is of one
pub emits_as : (event : Event) (kind : Kind) (m : ℕ) → outline_of event ≡ (kind, m) → kind ≡ Emitted → (i : Instance) × (event ≡ Emit i) × (i.message ≡ m)
emits_as (Emit i) kind m is emitted = (i, refl, ap (λ (o : Kind × ℕ). o.1) is)
emits_as (Receive i) kind m is emitted =
    let kinds : Received ≡ Emitted = ap (λ (o : Kind × ℕ). o.0) is ∙ emitted in absurd (cc kinds)

-- and that of a receipt of one
pub receives_as : (event : Event) (kind : Kind) (m : ℕ) → outline_of event ≡ (kind, m) → kind ≡ Received → (i : Instance) × (event ≡ Receive i)
receives_as (Emit i) kind m is received =
    let kinds : Emitted ≡ Received = ap (λ (o : Kind × ℕ). o.0) is ∙ received in absurd (cc kinds)
receives_as (Receive i) kind m is received = (i, refl)
