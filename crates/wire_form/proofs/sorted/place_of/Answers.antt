-- Where a name has its place among others.
use Rattle.std.proofs.Common.{rules, ◌≡◌, Equal, Greater, nat_cmp, arith}
use Rattle.std.specs.Cmp.Lexicographic.{slice_cmp}
use Rattle.wire_form.proofs.SortedLemmas.{past_more, stands_at}
use Rattle.wire_form.proofs.sorted.place_of.Goals as goal

pub returns-in-Equal : goal.returns-in-Equal
returns-in-Equal g c =
    let f = c.index-sorted-index.result in
    let equal : slice_cmp nat_cmp c.args.name.now (g.T.Member.name f) ≡ Equal = search rules in
    stands_at g.T.Member.name g.T.Member.content c.args.sorted.now c.args.name.now c.loop-index.index f c.loop-index-test.true c.index-sorted-index.is equal c.loop-index.invariant.past

pub loop-index-preserved : goal.loop-index-preserved
loop-index-preserved g c =
    let f = c.index-sorted-index.result in
    let greater : slice_cmp nat_cmp c.args.name.now (g.T.Member.name f) ≡ Greater = search rules in
    record {
      within = omega (arith, c.loop-index-test.true);
      past = past_more g.T.Member.name g.T.Member.content c.args.sorted.now c.args.name.now c.loop-index.index f c.loop-index-test.true c.index-sorted-index.is greater c.loop-index.invariant.past;
    }
