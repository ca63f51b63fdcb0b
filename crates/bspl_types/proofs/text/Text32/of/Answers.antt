-- The copied bytes stand before blank cells.
use Rattle.std.proofs.Common.{length, ap, sym, subst, ◌∙◌, arith}
use Rattle.std.proofs.lemmas.List.{get_or_default}
use Rattle.bspl_types.specs.Limits.{value_text_limit}
use Rattle.bspl_types.specs.Text.{IsTextValue}
use Rattle.bspl_types.proofs.PaddedLemmas.{front_is_padded, take_front}
use Rattle.bspl_types.proofs.text.Text32.of.Goals as goal

pub invariant_of-result : goal.invariant_of-result
invariant_of-result c =
    let long = ap length c.copy_from_slice.ensures.after in (
      subst IsTextValue (sym (take_front c.copy_from_slice.new.self _ (length c.args.bytes.now) long ∙ c.copy_from_slice.ensures.after))
          (record { few = c.requires; bytes = λ k d within. omega (arith, c.type_inv.bytes k, get_or_default c.args.bytes.now k d 0 within) }),
      front_is_padded value_text_limit 0 (length c.args.bytes.now) c.copy_from_slice.new.self long c.requires,
    )
