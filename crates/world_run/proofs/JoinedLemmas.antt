-- Settling leaves no store fewer entries than it had at the joins.
use Rattle.std.proofs.Common.{◌≡◌, ◌++◌, inl, inr, length, sym, ap, ◌∙◌, arith}
use Rattle.std.proofs.lemmas.List.{length-append}
use Rattle.std.proofs.lemmas.Option.{same_Some, slice_get_cases, slice_get_within}
use Rattle.adapter.specs.Desk.{DeskState}
use Rattle.agent_scripts.specs.Job.{Job}
use Rattle.world_run.specs.Joined.{AreAtMost, HaveSettled}
use Rattle.world_run.specs.World.{WorldState}
use Rattle.world_run.proofs.WorldLemmas.{history_is}

pub settled_grow : (job : Job) (w : WorldState) → HaveSettled job w → AreAtMost w.joined w.desks
settled_grow job w settled role count d at counted = elim (slice_get_cases settled.desks role).1 [
  | inl found ↦
      let old : DeskState = found.0 in
      let is : count ≡ length old.store.entries = same_Some _ _ (sym counted ∙ settled.joined.counts role old found.2) in
      let grown = settled.continues.grow role in
      let longer = ap length (sym (history_is w.desks role d at) ∙ grown.1 ∙ ap (λ h. h ++ grown.0) (history_is settled.desks role old found.2)) in
      omega (arith, is, longer, length-append old.store.entries grown.0)
  | inr past ↦ absurd (omega (arith, past.0, settled.joined.kept.count, settled.continues.kept.count, slice_get_within w.desks role d at))
]
