-- A name is that of one item, or of none.
use Rattle.std.proofs.Common.{◌≡◌, ◌≢◌, ℕ, ◌<◌, List, [], length, map, get_or, Some, None, sym, subst, ◌∙◌, inl, inr}
use Rattle.std.specs.List.{AllPairs, Contains, position}
use Rattle.std.specs.Str.{bytes_eq}
use Rattle.std.proofs.lemmas.Bool.{cases_order}
use Rattle.std.proofs.lemmas.List.{get_or-map, length-map}
use Rattle.std.proofs.lemmas.List.Elements.{All-contains, Contains-get_or}
use Rattle.std.proofs.lemmas.List.Quantifiers.{position-Some}
use Rattle.std.proofs.lemmas.Option.{none-some}
use Rattle.std.proofs.lemmas.Slice.Eq.{bytes_eq-Decides}
use Rattle.bspl_types.specs.declared.expanded.Expanded.{Expanded}
use Rattle.bspl_types.specs.declared.protocol.Adornment.TheVariants.{Out}
use Rattle.bspl_types.specs.declared.protocol.Carried.{Carried}
use Rattle.bspl_types.specs.declared.protocol.ParamInfo.{ParamInfo}
use Rattle.bspl_types.specs.Expansion.{message_of, no_message, message_name, role_name}
use Rattle.agent_scripts.specs.Statement.{IsFreeOut, param_field}
use Rattle.list_base.proofs.FirstIndex.{named_index}

-- what is found has the name
pub found_named : {X : Type 0} (name : X → List ℕ) (xs : List X) (text : List ℕ) (k : ℕ) (d : X) → Some k ≡ position (λ y. bytes_eq (name y) text) xs → (k < length xs) × (text ≡ name (get_or xs k d))
found_named name xs text k d is =
    let found = position-Some (λ y. bytes_eq (name y) text) xs k d (sym is) in
    (found.0, sym ((bytes_eq-Decides (name (get_or xs k d)) text).0 found.1))

-- if nothing is found no item has the name
pub none_named : {X : Type 0} (name : X → List ℕ) (xs : List X) (text : List ℕ) (d : X) → None ≡ position (λ y. bytes_eq (name y) text) xs → (k : ℕ) → k < length xs → text ≢ name (get_or xs k d)
none_named name xs text d none = λ k within same.
    let at : get_or (map name xs) k (name d) ≡ name (get_or xs k d) = get_or-map name xs k d (name d) within in
    let long : k < length (map name xs) = rw (length-map xs name) within in
    let among : Contains (map name xs) text = subst (Contains (map name xs)) (at ∙ sym same) (Contains-get_or (map name xs) k (name d) long) in
    let found = named_index name xs text among in
    none-some found.0 (none ∙ found.2)

-- items of one name are one
pub one_named : {X : Type 0} (name : X → List ℕ) (xs : List X) (d : X) (j k : ℕ) → AllPairs (λ y z. name y ≢ name z) xs → j < length xs → k < length xs → name (get_or xs j d) ≡ name (get_or xs k d) → j ≡ k
one_named name xs d j k distinct known also same =
    elim (cases_order j k) [
      | inl is ↦ is
      | inr (inl less) ↦ absurd (distinct j k d less also same)
      | inr (inr more) ↦ absurd (distinct k j d more known (sym same))
    ]

-- roles of one name are one
pub one_role : (x : Expanded) (j k : ℕ) → j < length x.roles → k < length x.roles → role_name x j ≡ role_name x k → j ≡ k
one_role x j k known also same = one_named (λ (r : List ℕ). r) x.roles [] j k x.shape.role_names.distinct known also same

-- and so are messages
pub one_message : (x : Expanded) (j k : ℕ) → j < length x.messages → k < length x.messages → message_name x j ≡ message_name x k → j ≡ k
one_message x j k known also same = one_named (λ m. m.name) x.messages no_message j k x.shape.message_names.distinct known also same

-- the name of a parameter is that of its declaration
pub name_of_param : (x : Expanded) (p : ℕ) (d : ParamInfo) → p < length x.params → param_field x p ≡ (get_or x.params p d).name
name_of_param x p d known = get_or-map (λ (info : ParamInfo). info.name) x.params p d [] known

-- parameters of one name are one
pub one_param : (x : Expanded) (j k : ℕ) (d : ParamInfo) → j < length x.params → k < length x.params → param_field x j ≡ param_field x k → j ≡ k
one_param x j k d known also same = one_named (λ info. info.name) x.params d j k x.shape.param_names.distinct known also (sym (name_of_param x j d known) ∙ same ∙ name_of_param x k d also)

-- a parameter whose value a message gives is declared
pub free_known : (x : Expanded) (m p : ℕ) → m < length x.messages → IsFreeOut x m p → p < length x.params
free_known x m p known free =
    All-contains (λ (c : Carried). c.param < length x.params) (message_of x m).carried (record { param = p; adornment = Out }) (x.shape.each_message m no_message known).known_params free.0
