-- What is not blocked, and has the next stamp and its own index, may follow.
use Rattle.std.proofs.Common.{◌≡◌, ℕ, ◌+◌, ◌∙◌, length, ap, arith, refl, sym}
use Rattle.local_store.proofs.NextLemmas.{unblocked_follows}
use Rattle.local_store.proofs.store.Store.emission_follows.Goals as goal

pub returns : goal.returns
returns c =
    let s = c.args.self.now in
    let own : c.args.number ≡ length s.entries = omega (arith, c.if-number-len.false, c.len.ensures.count) in (
      λ next. unblocked_follows s c.args.row c.args.i.now c.args.stamp c.args.number c.requires.row c.requires.agree (c.in_default.ensures.exact.0 refl)
          (c.is_next.ensures.0 next ∙ ap (λ (n : ℕ). n + 1) c.clock.ensures) own,
      λ may. c.is_next.ensures.1 (may.next ∙ ap (λ (n : ℕ). n + 1) (sym c.clock.ensures)),
    )
