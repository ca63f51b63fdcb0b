-- What is emitted still arrives after a step of one desk.
use Rattle.std.proofs.Common.{◌≡◌, ℕ, ◌⊎◌, inl, inr, Some, List, sym, ap, ◌∙◌, subst, Contains}
use Rattle.std.specs.Prelude.{slice_get, slice_set}
use Rattle.bspl_types.specs.declared.event.Event.TheVariants.{Emit}
use Rattle.bspl_types.specs.declared.event.Instance.{Instance}
use Rattle.bspl_types.specs.Expansion.{message_of}
use Rattle.adapter.specs.Desk.{DeskState}
use Rattle.agent_scripts.specs.Job.{Job}
use Rattle.local_store.specs.State.{acts_of}
use Rattle.world_run.specs.inner.InProgress.{Arrives, AreWhole, Survives}
use Rattle.world_run.proofs.SetLemmas.{item_after}

-- each emission arrives, but for those of which P holds
abbrev pub WholeBut : (Instance → Type 0) → Job → List DeskState → Type 0
WholeBut P job desks = (role : ℕ) (d : DeskState) → slice_get desks role ≡ Some d → (i : Instance) (receiver : DeskState) → Contains (acts_of d.store) (Emit i) → Survives job i → slice_get desks (message_of job.protocol i.message).receiver ≡ Some receiver → P i ⊎ Arrives receiver i

-- for none of them
pub whole_but : (job : Job) (desks : List DeskState) → AreWhole job desks → WholeBut (λ i. ⊥) job desks
whole_but job desks whole role d at i receiver among survives r_at = inr (whole role d at i receiver among survives r_at)

-- so all arrive
pub but_whole : (job : Job) (desks : List DeskState) → WholeBut (λ i. ⊥) job desks → AreWhole job desks
but_whole job desks whole role d at i receiver among survives r_at = elim (whole role d at i receiver among survives r_at) [
  | inl none ↦ absurd none
  | inr arrives ↦ arrives
]

-- the desk of a role before the step, from which what arrives still does
record WasAt (desks : List DeskState) (index : ℕ) (d : DeskState) (i : Instance) : Type 0 where
  before : DeskState
  at : slice_get desks index ≡ Some before
  stays : Arrives before i → Arrives d i

-- each desk had one
was_at : (desks : List DeskState) (role : ℕ) (old new : DeskState) (index : ℕ) (d : DeskState) (i : Instance) → slice_get desks role ≡ Some old → (Arrives old i → Arrives new i) → slice_get (slice_set desks role new) index ≡ Some d → WasAt desks index d i
was_at desks role old new index d i at arrive d_at = elim (item_after desks role new index d d_at) [
  | inl here ↦ record {
    before = old;
    at = subst (λ k. slice_get desks k ≡ Some old) (sym here.0) at;
    stays = λ a. subst (λ (f : DeskState). Arrives f i) here.1 (arrive a);
  }
  | inr there ↦ record {
    before = d;
    at = there.1;
    stays = λ a. a;
  }
]

-- a step after which nothing arrives no more, and whose new emissions are those of which Q holds
pub but_after : (P Q : Instance → Type 0) (job : Job) (desks : List DeskState) (role : ℕ) (old new : DeskState) → slice_get desks role ≡ Some old → ((i : Instance) → Contains (acts_of new.store) (Emit i) → Contains (acts_of old.store) (Emit i) ⊎ Q i) → ((i : Instance) → P i → Q i) → ((i : Instance) → Arrives old i → Arrives new i) → WholeBut P job desks → WholeBut Q job (slice_set desks role new)
but_after P Q job desks role old new at emits weaker arrive whole other d d_at i receiver among survives r_at =
    let was = was_at desks role old new (message_of job.protocol i.message).receiver receiver i at (arrive i) r_at in
    let later : (k : ℕ) (f : DeskState) → slice_get desks k ≡ Some f → Contains (acts_of f.store) (Emit i) → Q i ⊎ Arrives receiver i = λ k f f_at f_among. elim (whole k f f_at i was.before f_among survives was.at) [
      | inl p ↦ inl (weaker i p)
      | inr arrives ↦ inr (was.stays arrives)
    ] in
    elim (item_after desks role new other d d_at) [
      | inl here ↦ elim (emits i (subst (λ (f : DeskState). Contains (acts_of f.store) (Emit i)) (sym here.1) among)) [
        | inl early ↦ later role old at early
        | inr q ↦ inl q
      ]
      | inr there ↦ later other d there.1 among
    ]

-- after the envelope of the one emission that did not arrive was put, all arrive
pub put_whole : (job : Job) (desks : List DeskState) (role : ℕ) (old new : DeskState) (j : Instance) → slice_get desks role ≡ Some old → new.store ≡ old.store → ((i : Instance) → Arrives old i → Arrives new i) → (message_of job.protocol j.message).receiver ≡ role → (Survives job j → Arrives new j) → WholeBut (λ i. j ≡ i) job desks → AreWhole job (slice_set desks role new)
put_whole job desks role old new j at same arrive own holds whole other d d_at i receiver among survives r_at =
    let was = was_at desks role old new (message_of job.protocol i.message).receiver receiver i at (arrive i) r_at in
    let later : (k : ℕ) (f : DeskState) → slice_get desks k ≡ Some f → Contains (acts_of f.store) (Emit i) → Arrives receiver i = λ k f f_at f_among. elim (whole k f f_at i was.before f_among survives was.at) [
      | inl is ↦ elim (item_after desks role new (message_of job.protocol i.message).receiver receiver r_at) [
        | inl here ↦ subst (λ (f : DeskState). Arrives f i) here.1 (subst (λ k. Survives job k → Arrives new k) is holds survives)
        | inr there ↦ absurd (there.0 (ap (λ k. (message_of job.protocol k.message).receiver) (sym is) ∙ own))
      ]
      | inr arrives ↦ was.stays arrives
    ] in
    elim (item_after desks role new other d d_at) [
      | inl here ↦ later role old at (subst (λ s. Contains (acts_of s) (Emit i)) (ap (λ (f : DeskState). f.store) (sym here.1) ∙ same) among)
      | inr there ↦ later other d there.1 among
    ]
