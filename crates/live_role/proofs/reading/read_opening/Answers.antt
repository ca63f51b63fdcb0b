-- What was read with one piece more.
use Rattle.std.proofs.Common.{◌≡◌, ◌≤◌, ◌+◌, ℕ, List, length, take, arith, rules, length-take-le}
use Rattle.std.proofs.lemmas.List.{take_rest}
use Rattle.bspl_types.specs.Limits.{input_limit}
use Rattle.live_role.proofs.ReadingLemmas.{read_fails, read_long, read_more, read_wire, stops_read}
use Rattle.live_role.proofs.reading.read_opening.Goals as goal

pub returns-then-count-taken-clause-err : goal.returns-then-count-taken-clause-err
returns-then-count-taken-clause-err g c =
    let piece : List ℕ = take c.in_ok-count.count c.read.new.into in
    let size : length piece ≡ c.in_ok-count.count = length-take-le c.in_ok-count.count c.read.new.into c.in_ok-count.ensures.bound in
    let one : length piece ≤ 4096 = omega (arith, size, c.in_ok-count.ensures.bound, c.pieces.invariant.room) in
    read_long (g.R.Source.remaining c.args.input.now) (g.R.Source.remaining c.pieces.input) (g.R.Source.remaining c.read.new.self) c.pieces.taken c.pieces.opening c.pieces.invariant.read piece c.in_ok-count.ensures.bytes.0 one (omega (arith, size, c.pieces.invariant.read.short))

pub returns-in-Some-clause-ok : goal.returns-in-Some-clause-ok
returns-in-Some-clause-ok g c =
    let piece : List ℕ = take c.in_ok-count.count c.read.new.into in
    let size : length piece ≡ c.in_ok-count.count = length-take-le c.in_ok-count.count c.read.new.into c.in_ok-count.ensures.bound in
    let short : c.pieces.taken + length piece ≤ input_limit = omega (arith, size, c.pieces.invariant.read.short) in
    let takes = rw c.in-Some.is at c.in_ok-at.ensures in
    rw (c.in_ok-ahead.ensures, take_rest) (read_wire (g.R.Source.remaining c.args.input.now) (g.R.Source.remaining c.pieces.input) (g.R.Source.remaining c.read.new.self) c.pieces.taken c.pieces.opening c.pieces.invariant.read piece c.take.new.self c.in-Some.at c.in_ok-count.ensures.bytes.0 short takes)

pub pieces-preserved : goal.pieces-preserved
pieces-preserved g c =
    let piece : List ℕ = take c.in_ok-count.count c.read.new.into in
    let size : length piece ≡ c.in_ok-count.count = length-take-le c.in_ok-count.count c.read.new.into c.in_ok-count.ensures.bound in
    let short : c.pieces.taken + length piece ≤ input_limit = omega (arith, size, c.pieces.invariant.read.short) in
    let takes = rw c.in_default.is at c.in_ok-at.ensures in
    record {
      room = omega arith;
      read = rw size at (read_more (g.R.Source.remaining c.args.input.now) (g.R.Source.remaining c.pieces.input) (g.R.Source.remaining c.read.new.self) c.pieces.taken c.pieces.opening c.pieces.invariant.read piece c.take.new.self c.in_ok-count.ensures.bytes.0 short takes);
      still = search rules;
    }

pub returns-in_err-count-clause-err : goal.returns-in_err-count-clause-err
returns-in_err-count-clause-err g c =
    let before = g.R.Source.remaining c.args.input.now in
    let after = g.R.Source.remaining c.read.new.self in
    stops_read before after c.from_residual.result c.from_residual.ensures.1
    (read_fails before (g.R.Source.remaining c.pieces.input) after c.pieces.taken c.pieces.opening c.pieces.invariant.read c.in_err-count.ensures.bytes)
