-- In an admitted protocol one value is known first, and one block comes first.
use Rattle.std.proofs.Common.{◌≡◌, ◌≢◌, ℕ, ◌<◌, ◌≤◌, List, [], ◌∷◌, ◌++◌, length, drop, get_or, ⊎_elim, refl, sym, ap, ◌∙◌, subst}
use Rattle.std.specs.List.{All, AllPairs, Contains}
use Rattle.std.proofs.lemmas.Bool.{cases_lt, cases_order}
use Rattle.std.proofs.lemmas.List.{get_or_default, get_or_past}
use Rattle.std.proofs.lemmas.List.Elements.{All-head, All-tail}
use Rattle.list_base.proofs.Filtered.{filtered_member}
use Rattle.list_base.proofs.Members.{nowhere, only}
use Rattle.list_base.proofs.Partners.{no_repeat_filter, no_repeat_from_pairs, one_partner, zipped_member}
use Rattle.bspl_types.specs.declared.event.Event.{Event}
use Rattle.bspl_types.specs.declared.event.Instance.{Instance}
use Rattle.bspl_types.specs.declared.expanded.Expanded.{Expanded}
use Rattle.bspl_types.specs.declared.protocol.Adornment.{Adornment}
use Rattle.bspl_types.specs.declared.protocol.Adornment.TheVariants.{In, Out, Nil}
use Rattle.bspl_types.specs.declared.protocol.Carried.{Carried}
use Rattle.bspl_types.specs.declared.value.Value.{Value}
use Rattle.bspl_types.specs.Admission.{IsAdmitted}
use Rattle.bspl_types.specs.Adornment.{has_value, valued}
use Rattle.bspl_types.specs.Expansion.{message_of, no_message}
use Rattle.bspl_types.specs.History.{instance_of}
use Rattle.bspl_types.specs.Instance.{Carries, pairs}
use Rattle.bspl_types.specs.Knowledge.{IsKnown, Knows}
use Rattle.role_knowledge.specs.declared.block.Block.{Block}
use Rattle.role_knowledge.specs.declared.block.Block.TheVariants.{Missing, Bound}
use Rattle.role_knowledge.specs.Blocked.{IsBlockOf, IsFirstBlock, IsPermitted, Permits}
use Rattle.role_knowledge.specs.FirstKnown.{IsFirstKnown}
use Rattle.role_knowledge.proofs.KnowledgeLemmas.{known_from_first}

-- the first item of a list that fails a condition is one
one_split : {X : Type 0} (P : X → Type 0) (before other : List X) (x y : X) (after rest : List X) → before ++ x ∷ after ≡ other ++ y ∷ rest → All P before → All P other → ¬ P x → ¬ P y → x ≡ y
one_split P [] [] x y after rest same all all_other not_x not_y = ap (λ zs. get_or zs 0 x) same
one_split P [] (z ∷ other) x y after rest same all all_other not_x not_y =
    absurd (not_x (subst P (sym (ap (λ zs. get_or zs 0 x) same)) (All-head P z other all_other)))
one_split P (z ∷ before) [] x y after rest same all all_other not_x not_y =
    absurd (not_y (subst P (ap (λ zs. get_or zs 0 z) same) (All-head P z before all)))
one_split P (z ∷ before) (w ∷ other) x y after rest same all all_other not_x not_y =
    one_split P before other x y after rest (ap (drop 1) same) (All-tail P z before all) (All-tail P w other all_other) not_x not_y

-- parameters that are distinct differ if their numbers do
one_carried : (carried : List Carried) (c d : Carried) → AllPairs (λ a b. a.param ≢ b.param) carried → Contains carried c → Contains carried d → c.param ≡ d.param → c ≡ d
one_carried carried c d distinct (i, within_i, at_i) (j, within_j, at_j) same =
    let is_c = get_or_default carried i d c within_i ∙ at_i in
    let params = ap (λ a. a.param) is_c ∙ same ∙ sym (ap (λ a. a.param) at_j) in
    ⊎_elim
    (λ (equal : i ≡ j). sym is_c ∙ ap (λ k. get_or carried k d) equal ∙ at_j)
    (⊎_elim
    (λ (first : i < j). absurd (distinct i j d first within_j params))
    (λ (last : j < i). absurd (distinct j i d last within_i (sym params))))
    (cases_order i j)

-- the parameters of a message of an admitted protocol are distinct
distinct_params : (x : Expanded) → IsAdmitted x → (m : ℕ) (c : Carried) → Contains (message_of x m).carried c → AllPairs (λ a b. a.param ≢ b.param) (message_of x m).carried
distinct_params x admitted m c among =
    ⊎_elim
    (λ (known : m < length x.messages). (admitted.each_message m no_message known).distinct)
    (λ (past : length x.messages ≤ m). absurd (nowhere c (subst (λ message. Contains message.carried c) (get_or_past x.messages m no_message past) among)))
    (cases_lt m (length x.messages))

-- an instance of an admitted protocol carries one value of a parameter
one_value : (x : Expanded) → IsAdmitted x → (i : Instance) (a b : Adornment) (p : ℕ) (v w : Value) → Carries x i a p v → Carries x i b p w → v ≡ w
one_value x admitted i a b p v w one other =
    let carried = (message_of x i.message).carried in
    let c : Carried = record { param = p; adornment = a } in
    let d : Carried = record { param = p; adornment = b } in
    let c_among = (filtered_member (λ e. has_value e.adornment) carried c (zipped_member (valued carried) i.values c v one)).0 in
    let d_among = (filtered_member (λ e. has_value e.adornment) carried d (zipped_member (valued carried) i.values d w other)).0 in
    let distinct = distinct_params x admitted i.message c c_among in
    let same = one_carried carried c d distinct c_among d_among refl in
    let once = no_repeat_filter (λ e. has_value e.adornment) carried (no_repeat_from_pairs carried (λ k l e before within equal. distinct k l e before within (ap (λ f. f.param) equal))) in
    one_partner (valued carried) i.values c v w once one (subst (λ e. Contains (pairs x i) (e, w)) (sym same) other)

-- one event of an admitted protocol makes one value known
one_known : (x : Expanded) → IsAdmitted x → (e : Event) (key : List Value) (p : ℕ) (v w : Value) → Knows x (e ∷ []) key p v → Knows x (e ∷ []) key p w → v ≡ w
one_known x admitted e key p v w one other =
    one_value x admitted (instance_of e) one.adornment other.adornment p v w
    (subst (λ f. Carries x (instance_of f) one.adornment p v) (sym (only e one.event one.among)) one.carries)
    (subst (λ f. Carries x (instance_of f) other.adornment p w) (sym (only e other.event other.among)) other.carries)

-- where nothing is known from events together, nothing is from each
unknown_from_each : (x : Expanded) (history : List Event) (key : List Value) (p : ℕ) → ¬ IsKnown x history key p → All (λ e. ¬ IsKnown x (e ∷ []) key p) history
unknown_from_each x history key p unknown k d within (v, knows) =
    let is = get_or_default history k knows.event d within ∙ only (get_or history k d) knows.event knows.among in
    unknown (v, record { event = knows.event; among = (k, within, is); under = knows.under; adornment = knows.adornment; carries = knows.carries })

-- two values that are known first are one
pub one_first_known : (x : Expanded) (history : List Event) (key : List Value) (p : ℕ) (v w : Value) → IsAdmitted x → IsFirstKnown x history key p v → IsFirstKnown x history key p w → v ≡ w
one_first_known x history key p v w admitted one other =
    let same = one_split (λ e. ¬ IsKnown x (e ∷ []) key p) one.before other.before one.event other.event one.after other.after
    (sym one.split ∙ other.split)
    (unknown_from_each x one.before key p one.unknown) (unknown_from_each x other.before key p other.unknown)
    (λ unknown. unknown (v, one.knows)) (λ unknown. unknown (w, other.knows)) in
    one_known x admitted one.event key p v w one.knows (subst (λ e. Knows x (e ∷ []) key p w) (sym same) other.knows)

-- an `out` or `nil` parameter that is known is not permitted
bound_not_permitted : (a : Adornment) (K : Type 0) → a ≢ In → K → ¬ Permits a K
bound_not_permitted In K not_in known = absurd (not_in refl)
bound_not_permitted Out K not_in known = λ permitted. permitted known
bound_not_permitted Nil K not_in known = λ permitted. permitted known

-- what blocks is not permitted
not_permitted : (x : Expanded) (history : List Event) (key : List Value) (c : Carried) (block : Block) → IsBlockOf x history key c block → ¬ IsPermitted x history key c
not_permitted x history key c (Missing p) why = λ permitted. why.1.unknown (subst (λ a. Permits a (IsKnown x history key c.param)) why.1.adorned permitted)
not_permitted x history key c (Bound p kept) why = bound_not_permitted c.adornment (IsKnown x history key c.param) why.1.adorned (known_from_first x history key c.param kept why.1.first)

-- a parameter has one block
one_block : (x : Expanded) (history : List Event) (key : List Value) (c : Carried) → IsAdmitted x → (block other : Block) → IsBlockOf x history key c block → IsBlockOf x history key c other → block ≡ other
one_block x history key c admitted (Missing p) (Missing q) one other = ap Missing (one.0 ∙ sym other.0)
one_block x history key c admitted (Missing p) (Bound q w) one other = absurd (other.1.adorned one.1.adorned)
one_block x history key c admitted (Bound p v) (Missing q) one other = absurd (one.1.adorned other.1.adorned)
one_block x history key c admitted (Bound p v) (Bound q w) one other =
    λ i. Bound ((one.0 ∙ sym other.0) i) (one_first_known x history key c.param v w admitted one.1.first other.1.first i)

-- two blocks that come first are one
pub one_first_block : (x : Expanded) (history : List Event) (key : List Value) (carried : List Carried) (block other : Block) → IsAdmitted x → IsFirstBlock x history key carried block → IsFirstBlock x history key carried other → block ≡ other
one_first_block x history key carried block other admitted one two =
    let same = one_split (IsPermitted x history key) one.before two.before one.blocked two.blocked one.after two.after
    (sym one.split ∙ two.split) one.permitted two.permitted
    (not_permitted x history key one.blocked block one.why) (not_permitted x history key two.blocked other two.why) in
    one_block x history key one.blocked admitted block other one.why (subst (λ c. IsBlockOf x history key c other) (sym same) two.why)
