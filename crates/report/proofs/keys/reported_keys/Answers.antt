-- Each key that is reported has a value for each key parameter.
use Rattle.std.proofs.Common.{◌≡◌, ◌∙◌, List, length, sym, ap, subst}
use Rattle.std.specs.List.{All}
use Rattle.std.proofs.lemmas.List.{length-replicate}
use Rattle.std.proofs.lemmas.List.Elements.{All-push}
use Rattle.bspl_types.specs.declared.value.Value.{Value}
use Rattle.bspl_types.specs.declared.value.Value.TheVariants.{Number}
use Rattle.report.proofs.KeyLemmas.{key_lengths}
use Rattle.report.proofs.keys.reported_keys.Goals as goal
use Rattle.report.proofs.keys.reported_keys.Goals.{then-is_empty+in_ok-push, else-is_empty}

pub returns-clause-lengths : goal.returns-clause-lengths
returns-clause-lengths c =
    let x = c.args.x.now in
    let P : List Value → Type 0 = λ key. length key ≡ length x.keys in
    let all = subst (All P) (sym c.in_ok-keys.ensures) (key_lengths x c.args.index.now c.requires.fits) in
    elim c.if-is_empty.branch [
      | then-is_empty+in_ok-push w ↦
          let ones = ap length w.key_of_ones.ensures ∙ length-replicate (length x.keys) (Number 1) in
          subst (All P) (sym (w.keys-is ∙ w.in_ok-push.ensures.ok)) (All-push P c.in_ok-keys.keys w.key_of_ones.result all ones)
      | else-is_empty w ↦ subst (All P) (sym w.keys-is) all
    ]
