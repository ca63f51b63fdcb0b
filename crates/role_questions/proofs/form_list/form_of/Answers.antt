-- The form of the message.
use Rattle.std.proofs.Common.{◌≡◌, ◌∙◌, ℕ, List, ap, map, refl, subst, sym}
use Rattle.std.specs.List.{All, filter}
use Rattle.bspl_types.specs.declared.expanded.Expanded.{Expanded}
use Rattle.bspl_types.specs.declared.protocol.Carried.{Carried}
use Rattle.bspl_types.specs.declared.protocol.Message.{Message}
use Rattle.bspl_types.specs.Choice.{is_chosen}
use Rattle.bspl_types.specs.Expansion.{message_of}
use Rattle.local_store.specs.State.{acts_of}
use Rattle.role_knowledge.specs.Blocked.{IsPermitted}
use Rattle.role_questions.specs.Forms.{ListsIns, is_adorned_in}
use Rattle.role_questions.proofs.EnabledLemmas.{can_exactly}
use Rattle.role_questions.proofs.form_list.form_of.Goals as goal

pub known_ins-requires : goal.known_ins-requires
known_ins-requires c =
    let s = c.args.store.now in
    let m = c.args.message in
    let x_is : c.expanded-x.result.now ≡ s.protocol = c.expanded-x.ensures.same ∙ c.admitted.ensures in
    let carried_is : c.as_slice-carried.result.now ≡ (message_of s.protocol m).carried = c.as_slice-carried.ensures ∙ ap (λ (k : Message). k.carried) (c.message_at.ensures ∙ ap (λ (x : Expanded). message_of x m) x_is) in
    let permitted = (can_exactly s.protocol (acts_of s) m c.args.key.now c.requires.can.known).1 c.requires.can in
    subst (λ (list : List Carried). All (IsPermitted s.protocol (acts_of s) c.args.key.now) list) (sym carried_is) permitted

pub returns : goal.returns
returns c =
    let s = c.args.store.now in
    let m = c.args.message in
    let x_is : c.expanded-x.result.now ≡ s.protocol = c.expanded-x.ensures.same ∙ c.admitted.ensures in
    let carried_is : c.as_slice-carried.result.now ≡ (message_of s.protocol m).carried = c.as_slice-carried.ensures ∙ ap (λ (k : Message). k.carried) (c.message_at.ensures ∙ ap (λ (x : Expanded). message_of x m) x_is) in
    let keys_are : c.as_slice.result.now ≡ s.protocol.keys = c.as_slice.ensures ∙ ap (λ (x : Expanded). x.keys) x_is in
    record {
      message_is = refl;
      is = record {
        may = c.requires;
        before = c.emitted.ensures;
        ins_are = subst (λ (list : List Carried). ListsIns s.protocol (acts_of s) c.args.key.now list c.in_ok-ins.ins) carried_is c.in_ok-ins.ensures.known;
        ins_in_order = c.in_ok-ins.ensures.in_order ∙ ap (λ (list : List Carried). map (λ (d : Carried). d.param) (filter is_adorned_in list)) carried_is;
        outs_are = c.in_ok-outs.ensures ∙ ap (λ (keys : List ℕ). map (λ (d : Carried). d.param) (filter (is_chosen keys) c.as_slice-carried.result.now)) keys_are ∙ ap (λ (list : List Carried). map (λ (d : Carried). d.param) (filter (is_chosen s.protocol.keys) list)) carried_is;
      };
    }
