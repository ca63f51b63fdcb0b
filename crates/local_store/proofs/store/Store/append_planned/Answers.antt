-- What was planned may follow, and agrees with what is known.
use Rattle.std.proofs.Common.{ℕ, Some, sym, ap, ◌∙◌}
use Rattle.bspl_types.specs.Expansion.{message_of}
use Rattle.local_store.specs.inner.Kept.{IsSound}
use Rattle.local_store.proofs.EmissionLemmas.{emission_agrees, emission_follows}
use Rattle.local_store.proofs.store.Store.append_planned.Goals as goal

pub append-requires : goal.append-requires
append-requires c =
    let s = c.args.self.now in
    let m = c.args.m.now in
    let p = c.requires in
    let sound : IsSound s = record {
      admitted = c.is_consistent.ensures.admitted;
      held = c.is_consistent.ensures.held;
      local = c.is_consistent.ensures.local;
    } in
    record {
      key_is = p.row_is ∙ ap Some (sym p.emission.key_is);
      fits = p.emission.fits;
      own = ap (λ (n : ℕ). (message_of s.protocol n).sender) p.emission.message_is ∙ p.attempt.own;
      follows = emission_follows s p.message p.key p.outs m p.can p.emission;
      agree = emission_agrees s p.message p.key p.outs m sound p.can p.emission;
      spare = p.attempt.spare;
    }
