-- The role's last stamp is its store's clock.
use Rattle.std.proofs.Common.{◌≡◌, ℕ, inl, inr, sym, ap, ◌∙◌, arith}
use Rattle.std.proofs.lemmas.Bool.{cases_lt}
use Rattle.local_store.specs.State.{StoreState}
use Rattle.stamped_history.specs.Entries.{last_stamp}
use Rattle.stamped_history.specs.Explained.{history_at}
use Rattle.world_run.specs.World.{histories_of}
use Rattle.restart_run.proofs.RoleLemmas.{history_is}
use Rattle.restart_run.proofs.kept_world.highest_stamp.Goals as goal

pub loop-role-preserved : goal.loop-role-preserved
loop-role-preserved c = λ role within.
    let desks = c.args.world.now.desks in
    let d = c.state.result.now in
    let now : ℕ = c.loop-role.role in
    let clock : c.clock.result ≡ last_stamp (history_at (histories_of desks) now) =
    c.clock.ensures ∙ ap (λ (s : StoreState). last_stamp s.entries) c.store.ensures ∙ ap last_stamp (sym (history_is desks now d c.state.ensures.desk)) in
    elim (cases_lt role now) [
      | inl before ↦ omega (arith, c.max-highest.ensures, c.loop-role.invariant role before)
      | inr not ↦
          let same : role ≡ now = omega (arith, not, within) in
          omega (arith, c.max-highest.ensures, clock, ap (λ (r : ℕ). last_stamp (history_at (histories_of desks) r)) same)
    ]
