-- What a legal run emits is reached.
use Rattle.std.proofs.Common.{◌≡◌, ℕ, Bool, List, [], ◌∷◌, ◌++◌, inl, inr, subst}
use Rattle.std.specs.Prelude.{◌==◌}
use Rattle.std.specs.List.{All}
use Rattle.std.proofs.lemmas.Bool.Decides.{Decides-eqb}
use Rattle.std.proofs.lemmas.List.Elements.{All-contains, All-cons, All-head, All-nil, All-push, All-tail}
use Rattle.list_base.proofs.Filtered.{filtered_member}
use Rattle.bspl_types.specs.declared.event.Event.{Event}
use Rattle.bspl_types.specs.declared.event.Event.TheVariants.{Emit, Receive}
use Rattle.bspl_types.specs.declared.expanded.Expanded.{Expanded}
use Rattle.bspl_types.specs.declared.value.Value.{Value}
use Rattle.bspl_types.specs.Adornment.{Binds}
use Rattle.bspl_types.specs.Expansion.{message_of}
use Rattle.bspl_types.specs.History.{IsRun, history_of, instance_of, role_of}
use Rattle.bspl_types.specs.Instance.{Fits}
use Rattle.bspl_types.specs.Knowledge.{IsKnown}
use Rattle.enactment_model.specs.Laws.{HistoryIsRun, KnownExactlyIfSomeEventBinds}
use Rattle.enactment_model.specs.Legal.{LegalAfter, MayFollow}
use Rattle.enactability.specs.Enactable.{Enactable}
use Rattle.message_fates.specs.inner.Reach.{IsClosed, IsReached, IsTold}

-- the event's message is reached
abbrev IsReachedEvent : List Bool → Event → Type 0
IsReachedEvent reach e = IsReached reach (instance_of e).message

-- an event that binds a parameter tells it to its role
told_by : (x : Expanded) (reach : List Bool) (role p : ℕ) (e : Event) → Fits x (instance_of e) → IsReachedEvent reach e → role_of x e ≡ role → Binds (message_of x (instance_of e).message).carried p → IsTold x reach role p
told_by x reach role p (Emit i) fits reached own binds = record { m = i.message; known = fits.known; reached = reached; tells = record { party = inl own; binds = binds } }
told_by x reach role p (Receive i) fits reached own binds = record { m = i.message; known = fits.known; reached = reached; tells = record { party = inr own; binds = binds } }

-- what a role knows after reached events was told
told_before : KnownExactlyIfSomeEventBinds → HistoryIsRun → (x : Expanded) (reach : List Bool) (before : List Event) (role : ℕ) (key : List Value) (p : ℕ) → IsRun x before → All (IsReachedEvent reach) before → IsKnown x (history_of x role before) key p → IsTold x reach role p
told_before exact are_runs x reach before role key p run reached known =
    let binding = (exact x (history_of x role before) key p (are_runs x before role run)).0 known in
    let (among, own) = filtered_member (λ e. role_of x e == role) before binding.event binding.among in
    told_by x reach role p binding.event
    (All-contains (λ e. Fits x (instance_of e)) before binding.event run among)
    (All-contains (IsReachedEvent reach) before binding.event reached among)
    ((Decides-eqb (role_of x binding.event) role).0 own) binding.binds

-- what may follow reached events is reached
reached_next : KnownExactlyIfSomeEventBinds → HistoryIsRun → (x : Expanded) (reach : List Bool) (before : List Event) (e : Event) → IsClosed x reach → IsRun x before → All (IsReachedEvent reach) before → MayFollow x before e → IsReachedEvent reach e
reached_next exact are_runs x reach before (Emit i) closed run reached enabled = elim (closed i.message enabled.can.known) [
  | inl is ↦ is
  | inr lacks ↦ absurd (lacks.untold (told_before exact are_runs x reach before (message_of x i.message).sender i.key lacks.p run reached (enabled.can.ins lacks.p lacks.needed)))
]
reached_next exact are_runs x reach before (Receive i) closed run reached sent = All-contains (IsReachedEvent reach) before (Emit i) reached sent

-- so are the events of a run, one after another
reached_after : KnownExactlyIfSomeEventBinds → HistoryIsRun → (x : Expanded) (reach : List Bool) (before run : List Event) → IsClosed x reach → IsRun x before → IsRun x run → All (IsReachedEvent reach) before → LegalAfter x before run → All (IsReachedEvent reach) run
reached_after exact are_runs x reach before [] closed earlier fits reached legal = All-nil (IsReachedEvent reach)
reached_after exact are_runs x reach before (e ∷ run) closed earlier fits reached legal =
    let Fit = λ (f : Event). Fits x (instance_of f) in
    let is = reached_next exact are_runs x reach before e closed earlier reached legal.0 in
    All-cons (IsReachedEvent reach) e run is
    (reached_after exact are_runs x reach (before ++ e ∷ []) run closed (All-push Fit before e earlier (All-head Fit e run fits)) (All-tail Fit e run fits) (All-push (IsReachedEvent reach) before e reached is) legal.1)

-- what some legal run emits is reached
pub reached_if_enactable : KnownExactlyIfSomeEventBinds → HistoryIsRun → (x : Expanded) (reach : List Bool) (m : ℕ) → IsClosed x reach → Enactable x m → IsReached reach m
reached_if_enactable exact are_runs x reach m closed enactable =
    let reached = reached_after exact are_runs x reach [] enactable.run closed (All-nil (λ e. Fits x (instance_of e))) enactable.legal.fits (All-nil (IsReachedEvent reach)) enactable.legal.legal in
    subst (IsReached reach) enactable.message_is (All-contains (IsReachedEvent reach) enactable.run (Emit enactable.instance) reached enactable.emitted)
