-- The last pass that is left is to the mailbox of its index; in the end all were told.
use Rattle.std.proofs.Common.{◌≡◌, ◌∷◌, ◌++◌, [], refl, sym, ap, ◌∙◌, subst, append_assoc, All}
use Rattle.std.proofs.lemmas.List.Elements.{All-cons}
use Rattle.reorder_net.specs.Pass.{PassState}
use Rattle.reorder_net.specs.inner.Moves.{IsToldTo}
use Rattle.reorder_net.proofs.GatherLemmas.{all_told}
use Rattle.reorder_net.proofs.post.Post.tell.Goals as goal

pub loop-pass-preserved : goal.loop-pass-preserved
loop-pass-preserved g c =
    let old = c.loop-pass.invariant in (
      c.in-Some.pass ∷ old.0,
      old.1 ∙ ap (λ l. l ++ old.0) c.in-Some.ensures.last ∙ append_assoc c.pop.new.self (c.in-Some.pass ∷ []) old.0,
      All-cons (λ p. IsToldTo g.N.Scene.job p.hold) c.in-Some.pass old.0 c.tell.ensures old.2,
    )

pub returns : goal.returns
returns g c lists taken all =
    let old = c.loop-pass.invariant in
    let none : c.loop-pass.gathered ≡ [] = c.in_default.ensures.empty.0 refl in
    let left : c.args.gathered ≡ old.0 = old.1 ∙ ap (λ l. l ++ old.0) none in
    all_told g.N.Scene.job c.args.self.now lists taken c.args.gathered all (subst (All (λ (p : PassState). IsToldTo g.N.Scene.job p.hold)) (sym left) old.2)
