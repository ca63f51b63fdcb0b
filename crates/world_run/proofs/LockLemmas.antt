-- The last of the desks goes behind its lock.
use Rattle.std.proofs.Common.{◌≡◌, ℕ, ◌+◌, ◌<◌, ◌≤◌, Some, List, [], ◌∷◌, ◌++◌, length, refl, sym, ap, ◌∙◌, arith}
use Rattle.std.specs.Prelude.{slice_get}
use Rattle.std.proofs.lemmas.List.{length-append}
use Rattle.adapter.specs.Desk.{DeskState}
use Rattle.adapter.specs.Laws.{IsNewState}
use Rattle.agent_scripts.specs.Job.{Job}
use Rattle.local_store.specs.State.{StoreState}
use Rattle.reorder_net.specs.declared.passes.RolePasses.{RolePasses}
use Rattle.reorder_net.specs.Pass.{BoxId}
use Rattle.world_run.specs.Shared.{AreNewPasses}
use Rattle.world_run.specs.inner.Locks.{AreUnlocked}
use Rattle.world_run.specs.inner.Opened.{AreOpened, IsOpened}
use Rattle.world_run.proofs.SetLemmas.{item_longer}

-- the last item
last_item : {X : Type 0} (xs : List X) (y : X) → slice_get (xs ++ y ∷ []) (length xs) ≡ Some y
last_item [] y = refl
last_item (x ∷ xs) y = last_item xs y

module _ (job : Job) (boxes : List BoxId) (role : ℕ) (desks : List DeskState) (d : DeskState) (passes : List RolePasses) (p : RolePasses) (unlocked : AreUnlocked job boxes (role + 1) (desks ++ d ∷ []) (passes ++ p ∷ [])) (within : role < length (desks ++ d ∷ [])) where
  desk_index : length desks ≡ role
  desk_index = omega (arith, within, unlocked.desk_count, length-append desks (d ∷ []))

  pass_index : length passes ≡ role
  pass_index = omega (arith, desk_index, unlocked.pass_count, length-append desks (d ∷ []), length-append passes (p ∷ []))

  pub exists : role < length job.protocol.roles
  exists = omega (arith, within, unlocked.desk_count)

  -- it is opened, and its passes are unused
  pub unlocked_state : IsNewState job role boxes (record { desk = d; passes = p })
  unlocked_state =
      let opened : IsOpened job role d = unlocked.opened role d (ap (slice_get (desks ++ d ∷ [])) (sym desk_index) ∙ last_item desks d) in
      record {
        desk = opened.kept;
        no_entries = ap (λ (s : StoreState). s.entries) opened.store;
        no_envelopes = opened.no_envelopes;
        known = omega (arith, exists, unlocked.mailboxes);
        roles = unlocked.mailboxes;
        fresh = unlocked.fresh role p (ap (slice_get (passes ++ p ∷ [])) (sym pass_index) ∙ last_item passes p);
      }

  -- the others are left
  pub unlocked_left : AreUnlocked job boxes role desks passes
  unlocked_left = record {
    mailboxes = unlocked.mailboxes;
    desk_count = omega (arith, desk_index, exists);
    pass_count = pass_index ∙ sym desk_index;
    opened = λ other e at. unlocked.opened other e (item_longer desks (d ∷ []) other e at);
    fresh = λ other q at. unlocked.fresh other q (item_longer passes (p ∷ []) other q at);
  }

-- there is no desk of that role
pub no_role : (job : Job) (boxes : List BoxId) (role : ℕ) (desks : List DeskState) (passes : List RolePasses) → AreUnlocked job boxes (role + 1) desks passes → length desks ≤ role → length job.protocol.roles ≤ role
no_role job boxes role desks passes unlocked few = omega (arith, unlocked.desk_count, few)

pub none_left : (job : Job) (boxes : List BoxId) (role : ℕ) (desks : List DeskState) (passes : List RolePasses) → AreUnlocked job boxes (role + 1) desks passes → length desks ≤ role → AreUnlocked job boxes role desks passes
none_left job boxes role desks passes unlocked few = record {
  mailboxes = unlocked.mailboxes;
  desk_count = omega (arith, unlocked.desk_count, few);
  pass_count = unlocked.pass_count;
  opened = unlocked.opened;
  fresh = unlocked.fresh;
}

-- all desks, before any is locked
pub all_unlocked : (job : Job) (boxes : List BoxId) (desks : List DeskState) (passes : List RolePasses) → AreOpened job desks → AreNewPasses job boxes passes → AreUnlocked job boxes 8 desks passes
all_unlocked job boxes desks passes opened new = record {
  mailboxes = new.mailboxes;
  desk_count = omega (arith, opened.count, job.protocol.shape.counts.few_roles);
  pass_count = omega (arith, new.count, new.mailboxes, opened.count);
  opened = opened.each;
  fresh = new.fresh;
}
