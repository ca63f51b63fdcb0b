-- Roles, messages and parameters of one name are one.
use Rattle.std.proofs.Common.{◌≡◌, ◌≢◌, ℕ, ◌<◌, List, [], ◌∷◌, length, map, get_or, None, refl, sym, ◌∙◌, inl, inr}
use Rattle.std.specs.Prelude.{false}
use Rattle.std.specs.List.{All, AllPairs}
use Rattle.std.proofs.lemmas.Bool.{cases_order}
use Rattle.std.proofs.lemmas.List.{get_or-map}
use Rattle.std.proofs.lemmas.List.Elements.{All-contains, All-head, All-tail}
use Rattle.bspl_types.specs.declared.expanded.Expanded.{Expanded}
use Rattle.bspl_types.specs.declared.protocol.Adornment.TheVariants.{Out}
use Rattle.bspl_types.specs.declared.protocol.Carried.{Carried}
use Rattle.bspl_types.specs.declared.protocol.ParamInfo.{ParamInfo}
use Rattle.bspl_types.specs.Expansion.{message_of, no_message, message_name, role_name}
use Rattle.agent_scripts.specs.Statement.{IsFreeOut, IsSentBy, param_field}

-- items of one name are one
one_named : {X : Type 0} (name : X → List ℕ) (xs : List X) (d : X) (j k : ℕ) → AllPairs (λ y z. name y ≢ name z) xs → j < length xs → k < length xs → name (get_or xs j d) ≡ name (get_or xs k d) → j ≡ k
one_named name xs d j k distinct known also same =
    elim (cases_order j k) [
      | inl is ↦ is
      | inr (inl less) ↦ absurd (distinct j k d less also same)
      | inr (inr more) ↦ absurd (distinct k j d more known (sym same))
    ]

-- roles of one name are one
pub one_role : (x : Expanded) (j k : ℕ) → j < length x.roles → k < length x.roles → role_name x j ≡ role_name x k → j ≡ k
one_role x j k known also same = one_named (λ (r : List ℕ). r) x.roles [] j k x.shape.role_names.distinct known also same

-- and so are messages
pub one_message : (x : Expanded) (j k : ℕ) → j < length x.messages → k < length x.messages → message_name x j ≡ message_name x k → j ≡ k
one_message x j k known also same = one_named (λ m. m.name) x.messages no_message j k x.shape.message_names.distinct known also same

-- lists of messages too
pub same_messages : (x : Expanded) (role other : ℕ) (ms ns : List ℕ) → All (IsSentBy x role) ms → All (IsSentBy x other) ns → map (message_name x) ms ≡ map (message_name x) ns → ms ≡ ns
same_messages x role other [] [] sent also same = refl
same_messages x role other [] (n ∷ ns) sent also same = absurd (cc)
same_messages x role other (m ∷ ms) [] sent also same = absurd (cc)
same_messages x role other (m ∷ ms) (n ∷ ns) sent also same =
    let first : message_name x m ≡ message_name x n = cc in
    let rest : map (message_name x) ms ≡ map (message_name x) ns = cc in
    let known : m < length x.messages = (All-head (IsSentBy x role) m ms sent).0 in
    let known_too : n < length x.messages = (All-head (IsSentBy x other) n ns also).0 in
    let one : m ≡ n = one_message x m n known known_too first in
    let others : ms ≡ ns = same_messages x role other ms ns (All-tail (IsSentBy x role) m ms sent) (All-tail (IsSentBy x other) n ns also) rest in
    cc

-- the name of a parameter is that of its declaration
name_of_param : (x : Expanded) (p : ℕ) (d : ParamInfo) → p < length x.params → param_field x p ≡ (get_or x.params p d).name
name_of_param x p d known = get_or-map (λ (info : ParamInfo). info.name) x.params p d [] known

-- a parameter whose value a message gives is declared
free_known : (x : Expanded) (m p : ℕ) → m < length x.messages → IsFreeOut x m p → p < length x.params
free_known x m p known free =
    All-contains (λ (c : Carried). c.param < length x.params) (message_of x m).carried (record { param = p; adornment = Out }) (x.shape.each_message m no_message known).known_params free.0

-- parameters of one name, whose values messages give, are one
pub one_param : (x : Expanded) (m n p q : ℕ) → m < length x.messages → n < length x.messages → IsFreeOut x m p → IsFreeOut x n q → param_field x p ≡ param_field x q → p ≡ q
one_param x m n p q known also free free_too same =
    let d : ParamInfo = record { name = []; adornment = None; key = false } in
    let declared = free_known x m p known free in
    let declared_too = free_known x n q also free_too in
    one_named (λ info. info.name) x.params d p q x.shape.param_names.distinct declared declared_too (sym (name_of_param x p d declared) ∙ same ∙ name_of_param x q d declared_too)
