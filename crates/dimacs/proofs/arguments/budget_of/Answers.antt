-- The two arguments are `--budget` and the number's numeral.
use Rattle.std.proofs.Common.{◌≡◌, [], ◌∷◌, map, string_bytes, rules, codes, sym, ap, ◌∙◌, arith}
use Rattle.dimacs.proofs.ArgumentLemmas.{number_given, two_items}
use Rattle.dimacs.proofs.arguments.budget_of.Goals as goal

pub returns-else-budget-eq0-clause-given : goal.returns-else-budget-eq0-clause-given
returns-else-budget-eq0-clause-given c =
    let two = ap (map string_bytes) (two_items c.args.args.now c.name-item.result c.number-item.result c.in-len2.len_at_least c.in-len2.len_below c.name-item.is c.number-item.is) in
    let name : string_bytes c.name-item.result ≡ codes "--budget" = search rules in
    let number = c.as_bytes-in-len2.ensures.value in
    let is = c.in_ok-budget-in-len2.ensures in
    number_given _ _ c.in_ok-budget-in-len2.budget (two ∙ ap (λ n. n ∷ string_bytes c.number-item.result ∷ []) name) (sym number ∙ is.0) (record { low = omega (arith, c.if-budget-eq0.false); high = is.1 })
