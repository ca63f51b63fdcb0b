-- One message more, and at the end all messages.
use Rattle.std.proofs.Common.{ℕ, List, sym, ◌∙◌, ◌++◌, ap, arith}
use Rattle.std.specs.List.{flat_map, range_with_len}
use Rattle.bspl_types.specs.Expansion.{message_of}
use Rattle.clause_encoding.specs.Carriers.{binds, kinds_at}
use Rattle.clause_encoding.specs.Variables.{message_numbers}
use Rattle.clause_encoding.specs.inner.Chosen.{carriers_of}
use Rattle.clause_encoding.proofs.FilterLemmas.{flat_map_filtered}
use Rattle.clause_encoding.proofs.RangeLemmas.{flat_map_next}
use Rattle.clause_encoding.proofs.carrier_kinds.carriers.Goals as goal

pub loop-m-preserved : goal.loop-m-preserved
loop-m-preserved c =
    let here = carriers_of c.args.x.now c.args.role c.args.param in
    c.in_ok-add_carriers.ensures ∙ ap (λ (kinds : List ℕ). kinds ++ here c.loop-m.m) c.loop-m.invariant ∙ sym (flat_map_next here 0 c.loop-m.m c.loop-m.m (omega arith))

pub returns : goal.returns
returns c =
    let x = c.args.x.now in
    let here = carriers_of x c.args.role c.args.param in
    c.loop-m.invariant ∙ ap (λ (n : ℕ). flat_map here (range_with_len 0 n)) (omega arith) ∙ sym (flat_map_filtered (λ m. binds (message_of x m) c.args.param) (kinds_at x c.args.role) (message_numbers x))
