-- One parameter further, and all of them.
use Rattle.std.proofs.Common.{◌≡◌, ◌+◌, ◌∙◌, ◌∷◌, ◌++◌, [], ℕ, List, ap, get_or, map, subst, sym}
use Rattle.std.specs.List.{filter}
use Rattle.std.proofs.lemmas.Bool.{true≢false}
use Rattle.std.proofs.lemmas.List.{take_all}
use Rattle.std.proofs.lemmas.List.Elements.{All-get_or}
use Rattle.list_base.proofs.Members.{nowhere}
use Rattle.bspl_types.specs.declared.protocol.Adornment.TheVariants.{In}
use Rattle.bspl_types.specs.declared.protocol.Carried.{Carried}
use Rattle.local_store.specs.State.{acts_of}
use Rattle.role_knowledge.specs.Blocked.{IsPermitted}
use Rattle.role_questions.specs.Forms.{ListsIns, is_adorned_in}
use Rattle.role_questions.proofs.InsLemmas.{known_comes_last, known_if_permitted, params_of}
use Rattle.role_questions.proofs.KnownLemmas.{HasIn, ShowsThese, in_param, ins_more, ins_same, shows_none}
use Rattle.role_questions.proofs.ListedLemmas.{listed, listed_more, listed_same}
use Rattle.role_questions.proofs.form_list.known_ins.Goals as goal
use Rattle.role_questions.proofs.form_list.known_ins.Goals.{then-is_in+in_ok-push_known, else-is_in}

pub loop-c-init : goal.loop-c-init
loop-c-init c = record {
  known = rw c.new-ins.ensures (shows_none c.args.store.now.protocol (acts_of c.args.store.now) c.args.key.now (HasIn c.args.carried.now 0) (λ p has. nowhere (in_param p) has));
  in_order = ap params_of c.new-ins.ensures;
}

pub loop-c-preserved : goal.loop-c-preserved
loop-c-preserved c =
    let x = c.args.store.now.protocol in
    let history = acts_of c.args.store.now in
    let key = c.args.key.now in
    let xs = c.args.carried.now in
    let i = c.loop-c.c-index in
    let blank : Carried = record { param = 0; adornment = In } in
    let one = c.is_consistent.ensures.local.one_value in
    let before = c.loop-c.invariant in
    let f = λ (d : Carried). d.param in
    let permitted = All-get_or (IsPermitted x history key) xs i blank c.loop-c-test.true c.requires in
    record {
      known = (elim c.if-is_in.branch as (λ _. ShowsThese x history key (HasIn xs (i + 1)) c.if-is_in.ins) [
        | then-is_in+in_ok-push_known w ↦ rw w.ins-is (ins_more xs i blank c.loop-c-test.true x history key one c.loop-c.ins w.push_known.new.list before.known (c.is_in.ensures.exact.0 w.if-is_in.true) w.in_ok-push_known.ensures)
        | else-is_in w ↦ rw w.ins-is (ins_same xs i blank c.loop-c-test.true x history key one c.loop-c.ins c.loop-c.ins before.known (λ is. true≢false (sym (c.is_in.ensures.exact.1 is) ∙ w.if-is_in.false)))
      ]);
      in_order = (elim c.if-is_in.branch as (λ _. params_of c.if-is_in.ins ≡ listed is_adorned_in f xs (i + 1)) [
        | then-is_in+in_ok-push_known w ↦
            let known = known_if_permitted x history key (get_or xs i blank) permitted (c.is_in.ensures.exact.0 w.if-is_in.true) in
            let more = listed_more is_adorned_in f xs i blank c.loop-c-test.true (sym c.is_in.ensures.test ∙ w.if-is_in.true) in
            rw w.ins-is (known_comes_last x history key (get_or xs i blank).param c.loop-c.ins w.push_known.new.list known w.in_ok-push_known.ensures ∙ ap (λ (ps : List ℕ). ps ++ (get_or xs i blank).param ∷ []) before.in_order ∙ sym more)
        | else-is_in w ↦ rw w.ins-is (before.in_order ∙ sym (listed_same is_adorned_in f xs i blank c.loop-c-test.true (sym c.is_in.ensures.test ∙ w.if-is_in.false)))
      ]);
    }

pub returns-clause-known : goal.returns-clause-known
returns-clause-known c = subst (λ (list : List Carried). ListsIns c.args.store.now.protocol (acts_of c.args.store.now) c.args.key.now list c.loop-c.ins) (take_all c.loop-c.c-index c.args.carried.now c.loop-c-test.false) c.loop-c.invariant.known

pub returns-clause-in_order : goal.returns-clause-in_order
returns-clause-in_order c = c.loop-c.invariant.in_order ∙ ap (λ (list : List Carried). map (λ (d : Carried). d.param) (filter is_adorned_in list)) (take_all c.loop-c.c-index c.args.carried.now c.loop-c-test.false)
