-- One text more spells its value.
use Rattle.std.proofs.Common.{ℕ, List, length, ap, subst, arith}
use Rattle.std.specs.Borrow.{Bor}
use Rattle.std.specs.List.{AllZip}
use Rattle.std.proofs.lemmas.List.{length_push, take_all}
use Rattle.bspl_types.specs.declared.value.Value.{Value}
use Rattle.bspl_types.specs.ValueSpelling.{SpellsValue}
use Rattle.list_base.proofs.Zipped.{zip_map}
use Rattle.wire_form.proofs.MeaningLemmas.{SpellsItem, spelled_more, spelled_none}
use Rattle.wire_form.proofs.member_values.spelled_values.Goals as goal

pub returns-in_default-clause-read : goal.returns-in_default-clause-read
returns-in_default-clause-read c = λ values. spelled_none c.args.texts.now values c.loop-text.text-index _ c.as_bytes.result.now c.loop-text-test.true c.as_bytes.ensures.value (rw c.in_default.is at c.read.ensures)

pub loop-text-preserved : goal.loop-text-preserved
loop-text-preserved c =
    record {
      read = spelled_more c.args.texts.now c.loop-text.values c.push.new.self c.loop-text.text-index _ c.as_bytes.result.now c.in-Some.value c.loop-text-test.true c.as_bytes.ensures.value c.loop-text.invariant.read (rw c.in-Some.is at c.read.ensures) c.push.ensures;
      count = omega (arith, c.loop-text.invariant.count, ap (length {A = Value}) c.push.ensures, length_push c.loop-text.values c.in-Some.value);
    }

pub returns-clause-read : goal.returns-clause-read
returns-clause-read c =
    let texts = c.args.texts.now in
    zip_map SpellsItem SpellsValue (λ (t : Bor (List ℕ)). t.now) (λ text v spells. spells) texts c.loop-text.values
    (subst (λ ts. AllZip SpellsItem ts c.loop-text.values) (take_all c.loop-text.text-index texts c.loop-text-test.false) c.loop-text.invariant.read)
