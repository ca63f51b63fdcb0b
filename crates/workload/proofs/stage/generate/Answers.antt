-- The text is written part by part.
use Rattle.std.proofs.Common.{◌≡◌, ◌≤◌, ◌++◌, ◌∷◌, [], List, ℕ, codes, length, ap, ◌∙◌, subst, sym}
use Rattle.std.specs.List.{flat_map}
use Rattle.list_base.specs.Numeral.{numeral}
use Rattle.workload.specs.Stage.{stage_messages, stage_numbers, stage_parameters}
use Rattle.workload.proofs.StageLemmas.{text_short, text_written}
use Rattle.workload.proofs.stage.generate.Goals as goal

pub returns-clause-text : goal.returns-clause-text
returns-clause-text c =
    let n = c.args.n in
    let first : c.push_parameters.new.text ≡ codes "Stage {\n  roles A, B\n" ++ stage_parameters n =
    c.in_ok-push_parameters.ensures ∙ ap (λ (ys : List ℕ). ys ++ stage_parameters n) c.in_ok-text.ensures in
    let second : c.push_stages.new.text ≡ (codes "Stage {\n  roles A, B\n" ++ stage_parameters n) ++ flat_map stage_messages (stage_numbers n) =
    c.in_ok-push_stages.ensures ∙ ap (λ (ys : List ℕ). ys ++ flat_map stage_messages (stage_numbers n)) first in
    let third = c.in_ok-append.ensures.ok ∙ ap (λ (ys : List ℕ). ys ++ codes "}\n") second in
    let fourth = c.in_ok-append-2.ensures.ok ∙ ap (λ (ys : List ℕ). ys ++ codes "%% agents\nkeys 1000\nseed ") third in
    let fifth = c.in_ok-push_number.ensures ∙ ap (λ (ys : List ℕ). ys ++ numeral n) fourth in
    c.in_ok-push.ensures.ok ∙ ap (λ (ys : List ℕ). ys ++ 10 ∷ []) fifth ∙ text_written n

pub returns-clause-short : goal.returns-clause-short
returns-clause-short c =
    subst (λ (text : List ℕ). length text ≤ 2048) (sym (returns-clause-text c)) (text_short c.args.n c.requires.1)
