-- The first statement that is out of range follows statements that are in range.
use Rattle.std.proofs.Common.{◌≡◌, ◌+◌, ◌<◌, ℕ, suc, add-one, List, ◌∷◌, ◌++◌, length, take, drop, get_or, refl, sym, ap, subst, ◌∙◌, drop-cons}
use Rattle.std.specs.List.{All}
use Rattle.std.proofs.lemmas.Bool.{true≢false}
use Rattle.std.proofs.lemmas.List.{take_all, take-append-drop}
use Rattle.std.proofs.lemmas.List.Elements.{All-more}
use Rattle.agent_scripts.specs.declared.statement.Stated.{Stated}
use Rattle.agent_scripts.specs.Rules.{ValueFits}
use Rattle.script_text.proofs.ranges.first_out_of_range.Goals as goal

-- the statements before one, that one, and those after it
parted : (stated : List Stated) (i : ℕ) (s : Stated) → i < length stated → s ≡ get_or stated i s → stated ≡ take i stated ++ s ∷ drop (i + 1) stated
parted stated i s within is_item =
    sym (take-append-drop i stated)
    ∙ ap (λ (rest : List Stated). take i stated ++ rest)
    (drop-cons stated i s within
    ∙ ap (λ (t : Stated). t ∷ drop (suc i) stated) (sym is_item)
    ∙ ap (λ k. s ∷ drop k stated) (sym (add-one i)))

pub returns-then-not-value_fits : goal.returns-then-not-value_fits
returns-then-not-value_fits c = λ x count.
    let stated = c.args.stated.now in
    let i = c.loop-s.s-index in
    record {
      before = take i stated;
      after = drop (i + 1) stated;
      s = c.s-item.result;
      parts = parted stated i c.s-item.result c.loop-s-test.true c.s-item.is;
      in_range = subst (λ n. All (λ s. ValueFits n s.statement) (take i stated)) count c.loop-s.invariant;
      out = λ fits. true≢false (sym (c.value_fits.ensures.1 (subst (λ n. ValueFits n c.s-item.result.statement) (sym count) fits)) ∙ c.if-not-value_fits.true);
      number = refl;
    }

pub loop-s-preserved : goal.loop-s-preserved
loop-s-preserved c =
    let P : Stated → Type 0 = λ s. ValueFits c.args.count s.statement in
    All-more P c.args.stated.now c.loop-s.s-index c.s-item.result c.loop-s-test.true c.loop-s.invariant (subst P c.s-item.is (c.value_fits.ensures.0 c.if-not-value_fits.false))

pub returns : goal.returns
returns c = λ x count.
    let all = take_all c.loop-s.s-index c.args.stated.now c.loop-s-test.false in
    subst (λ n. All (λ s. ValueFits n s.statement) c.args.stated.now) count (subst (λ (stated : List Stated). All (λ s. ValueFits c.args.count s.statement) stated) all c.loop-s.invariant)
