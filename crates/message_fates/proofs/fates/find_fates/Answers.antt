-- All messages have their fates at the end.
use Rattle.std.proofs.Common.{◌≡◌, ℕ, ◌∙◌, subst, arith}
use Rattle.message_fates.proofs.FateLemmas.{HaveFatesFrom, all_found}
use Rattle.message_fates.proofs.fates.find_fates.Goals as goal

pub returns : goal.returns
returns c =
    let x = c.args.search.now in
    let fates = c.from_the_last.fates in
    let first : c.from_the_last.message ≡ 0 = omega (arith, c.from_the_last-test.false) in
    all_found x c.args.budget fates (c.from_the_last.invariant.1 ∙ c.requires.one_each) (subst (λ (m : ℕ). HaveFatesFrom x c.args.budget m fates) first c.from_the_last.invariant.0)
