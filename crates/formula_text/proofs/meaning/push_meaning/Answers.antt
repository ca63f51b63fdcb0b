-- The line that is whole once its end is written.
use Rattle.std.proofs.Common.{◌≡◌, ◌++◌, ℕ, List, map, Bor, OnOk, codes, subst, ap, ◌∙◌}
use Rattle.list_base.specs.Numeral.{numeral}
use Rattle.formula_text.specs.inner.Lines.{spaced}
use Rattle.formula_text.proofs.Written.{meaning_written}
use Rattle.formula_text.proofs.meaning.push_meaning.Goals as goal

pub returns : goal.returns
returns c =
    let old = c.args.text.now in
    let v = c.args.variable in
    let words : List (List ℕ) = map (λ (word : Bor (List ℕ)). word.now) c.args.words.now in
    let number = subst (λ (n : ℕ). c.push_decimal.new.text ≡ c.append.new.self ++ numeral n) c.from.ensures c.in_ok-push_decimal.ensures ∙ ap (λ (text : List ℕ). text ++ numeral v) c.in_ok-append.ensures.ok in
    let all = c.in_ok-push_spaced.ensures ∙ ap (λ (text : List ℕ). text ++ spaced words) number in
    subst (λ (text : List ℕ). OnOk c.push.result (c.push.new.self ≡ text)) (ap (λ (text : List ℕ). text ++ codes "\n") all ∙ meaning_written old v words) c.push.ensures.ok
