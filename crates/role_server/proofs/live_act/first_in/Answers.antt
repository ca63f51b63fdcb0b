-- The first parameter that is adorned `in` blocks.
use Rattle.std.proofs.Common.{◌≡◌, ◌≢◌, ◌+◌, false, true, List, ◌++◌, get_or, take, drop, refl, sym, ap, subst, ◌∙◌}
use Rattle.std.proofs.lemmas.List.{drop_more, take_all, take_more, take-append-drop}
use Rattle.std.proofs.lemmas.List.Elements.{All-push}
use Rattle.std.specs.List.{All}
use Rattle.bspl_types.specs.declared.protocol.Adornment.TheVariants.{In}
use Rattle.bspl_types.specs.declared.protocol.Carried.{Carried}
use Rattle.role_server.proofs.live_act.first_in.Goals as goal

-- this one
pub returns-then-is_in : goal.returns-then-is_in
returns-then-is_in c =
    let all : List Carried = c.args.carried.now in
    let i = c.loop-c.c-index in
    let none : Carried = record { param = 0; adornment = In } in
    record {
      before = take i all;
      first = get_or all i none;
      after = drop (i + 1) all;
      split = sym (take-append-drop i all) ∙ ap (λ (rest : List Carried). take i all ++ rest) (drop_more all i none c.loop-c-test.true);
      free = c.loop-c.invariant;
      adorned = c.if-is_in.ensures.0 refl;
      block_is = refl;
    }

-- one more that is not
pub loop-c-preserved : goal.loop-c-preserved
loop-c-preserved c =
    let all : List Carried = c.args.carried.now in
    let i = c.loop-c.c-index in
    let none : Carried = record { param = 0; adornment = In } in
    let free : (get_or all i none).adornment ≢ In = (λ is. let wrong : false ≡ true = c.if-is_in.ensures.1 is in absurd cc) in
    subst (All (λ (d : Carried). d.adornment ≢ In)) (sym (take_more all i none c.loop-c-test.true)) (All-push (λ (d : Carried). d.adornment ≢ In) (take i all) (get_or all i none) c.loop-c.invariant free)

-- none is
pub returns : goal.returns
returns c = subst (All (λ (d : Carried). d.adornment ≢ In)) (take_all c.loop-c.c-index c.args.carried.now c.loop-c-test.false) c.loop-c.invariant
