-- Each item against those before it.
use Rattle.std.proofs.Common.{◌≡◌, refl, take, arith, subst, sym, ◌∙◌}
use Rattle.std.specs.List.{AllPairs}
use Rattle.std.proofs.lemmas.List.{take_all}
use Rattle.std.proofs.lemmas.Bool.{false≢true}
use Rattle.bspl_types.proofs.DistinctLemmas.{like_before, unlike_before}
use Rattle.bspl_types.proofs.named.have_distinct_names.Goals as goal

pub returns-then-has_name : goal.returns-then-has_name
returns-then-has_name g c = (
  λ yes. absurd (false≢true yes),
  λ distinct. absurd (like_before (λ x y. g.T.Named.name x ≡ g.T.Named.name y) c.args.items.now c.loop-index.index c.index-items-index.result c.index-items-index.result c.loop-index-test.true (sym c.index-items-index.is)
      (let found = c.if-has_name.ensures.0 refl in (found.0, found.1, found.2, found.3, found.4 ∙ c.name.ensures)) distinct),
)

pub loop-index-preserved : goal.loop-index-preserved
loop-index-preserved g c =
    unlike_before (λ x y. g.T.Named.name x ≡ g.T.Named.name y) c.args.items.now c.loop-index.index c.index-items-index.result c.index-items-index.result c.loop-index-test.true (sym c.index-items-index.is)
    (λ found. absurd (false≢true (c.if-has_name.ensures.1 (found.0, found.1, found.2, found.3, found.4 ∙ sym c.name.ensures)))) c.loop-index.invariant

pub returns : goal.returns
returns g c = (λ _. let all : take c.loop-index.index c.args.items.now ≡ c.args.items.now = take_all _ _ (omega arith) in subst (λ items. AllPairs (λ x y. g.T.Named.name x ≡ g.T.Named.name y → ⊥) items) all c.loop-index.invariant, λ _. refl)
