-- One pair more, and all of them.
use Rattle.std.proofs.Common.{◌≡◌, ◌<◌, length, get_or, sym, ◌∙◌, arith}
use Rattle.std.specs.List.{zip}
use Rattle.std.proofs.lemmas.Slice.Zip.{length-zip, get_or-zip}
use Rattle.bspl_parser.specs.declared.document.Formal.{Formal}
use Rattle.protocol_names.specs.Fault.{AdornmentDiffers}
use Rattle.protocol_names.proofs.FaultOrderLemmas.{finds_all, finds_more, holds_same}
use Rattle.protocol_names.proofs.references.other_adornment.Goals as goal

pub loop-index-preserved : goal.loop-index-preserved
loop-index-preserved c =
    let given = c.args.given.now in
    let declared = c.args.declared.now in
    let index = c.loop-index.index in
    let pair : Formal × Formal = (c.index-given-index.result, c.index-declared-index.result) in
    let within : index < length (zip given declared) = omega (arith, length-zip given declared, c.requires, c.loop-index-test.true) in
    let here : pair ≡ get_or (zip given declared) index pair = (λ i. (c.index-given-index.is i, c.index-declared-index.is i)) ∙ sym (get_or-zip given declared index pair (omega arith) (omega arith)) in
    let tests = rw (← c.index-declared-index.is) at c.is_other-other.ensures in
    finds_more AdornmentDiffers (zip given declared) index pair _ _ _ within here c.loop-index.invariant (holds_same _ _ _ c.index-given-index.result.offset c.fault_if.result tests.0 tests.1 c.fault_if.ensures) c.earlier-first.ensures

pub returns : goal.returns
returns c = finds_all AdornmentDiffers (zip c.args.given.now c.args.declared.now) c.loop-index.index c.loop-index.first (omega (arith, length-zip c.args.given.now c.args.declared.now)) c.loop-index.invariant
