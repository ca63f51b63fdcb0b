-- The first bad line is one with a value out of range, or else the line that is not read.
use Rattle.std.proofs.Common.{inl, inr, length, refl}
use Rattle.script_text.proofs.agents_text.read_scripts.Goals as goal

pub returns-in-Some-clause-refused : goal.returns-in-Some-clause-refused
returns-in-Some-clause-refused c = λ _.
    let x = c.args.a.now in
    let read = rw c.expanded-x.ensures.same at c.in_ok-reading.ensures in
    let first = rw c.as_slice.ensures.same at c.in-Some.ensures in
    record {
      stated = c.in_ok-reading.reading.statements;
      rest = read.rest;
      read = read.to;
      bad = inl (c.in-Some.line, refl, first x (c.key_count-count.ensures.count (length x.keys)));
    }

pub returns-in-Some-refusal-clause-refused : goal.returns-in-Some-refusal-clause-refused
returns-in-Some-refusal-clause-refused c = λ _.
    let x = c.args.a.now in
    let read = rw c.expanded-x.ensures.same at c.in_ok-reading.ensures in
    let in_range = rw c.as_slice.ensures.same at c.in_default.ensures in
    record {
      stated = c.in_ok-reading.reading.statements;
      rest = read.rest;
      read = read.to;
      bad = inr (in_range x (c.key_count-count.ensures.count (length x.keys)), rw c.in-Some-refusal.is at read.refused);
    }
