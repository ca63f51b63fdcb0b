-- The last pass that is left is to the mailbox of its index, and is taken in by the pass to that one.
use Rattle.std.proofs.Common.{◌≡◌, ◌+◌, ◌∷◌, ◌++◌, [], length, Some, slice_get, refl, sym, ap, ◌∙◌, subst, arith, append_assoc, length-append}
use Rattle.std.proofs.lemmas.List.{append-nil}
use Rattle.reorder_net.proofs.GatherLemmas.{at_split, next_can_take_in, none_taken_in, one_taken_in}
use Rattle.reorder_net.proofs.post.Post.join_puts.Goals as goal

pub loop-pass-init : goal.loop-pass-init
loop-pass-init g c = ([], sym (append-nil c.args.puts), none_taken_in (length c.args.puts) c.args.gathered.now c.args.puts refl)

pub join-requires : goal.join-requires
join-requires g c =
    let left = c.pop.new.self in
    let old = c.loop-pass.invariant in
    let split = old.1 ∙ ap (λ l. l ++ old.0) c.in-Some.ensures.last in
    let found : slice_get c.args.puts c.len-q.result ≡ Some c.in-Some.pass = subst (λ n. slice_get c.args.puts n ≡ Some c.in-Some.pass) (sym c.len-q.ensures) (at_split left c.in-Some.pass old.0 c.args.puts split) in
    let next : length c.loop-pass.puts ≡ c.len-q.result + 1 = omega (arith, ap length c.in-Some.ensures.last, length-append left (c.in-Some.pass ∷ []), c.len-q.ensures) in
    next_can_take_in c.args.self.now c.args.gathered.now c.args.puts c.loop-pass.gathered (length c.loop-pass.puts) c.len-q.result c.at.result.now c.at_mut.result.now c.in-Some.pass next c.requires old.2 c.at.ensures c.at_mut.ensures.item found

pub loop-pass-preserved : goal.loop-pass-preserved
loop-pass-preserved g c =
    let left = c.pop.new.self in
    let old = c.loop-pass.invariant in
    let split = old.1 ∙ ap (λ l. l ++ old.0) c.in-Some.ensures.last in
    let found : slice_get c.args.puts c.len-q.result ≡ Some c.in-Some.pass = subst (λ n. slice_get c.args.puts n ≡ Some c.in-Some.pass) (sym c.len-q.ensures) (at_split left c.in-Some.pass old.0 c.args.puts split) in
    let next : length c.loop-pass.puts ≡ c.len-q.result + 1 = omega (arith, ap length c.in-Some.ensures.last, length-append left (c.in-Some.pass ∷ []), c.len-q.ensures) in
    let have = one_taken_in c.args.gathered.now c.args.puts c.loop-pass.gathered (length c.loop-pass.puts) (length left) c.len-q.result c.at_mut.result.now c.in-Some.pass c.join.new.pass next c.len-q.ensures old.2 c.at_mut.ensures.item found c.join.ensures in (
      c.in-Some.pass ∷ old.0,
      split ∙ append_assoc left (c.in-Some.pass ∷ []) old.0,
      have,
    )
