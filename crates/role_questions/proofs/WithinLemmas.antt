-- What is known is known of a parameter of the protocol.
use Rattle.std.proofs.Common.{◌≡◌, ◌<◌, ◌≤◌, ⊎_elim, ℕ, List, length, sym, subst}
use Rattle.std.specs.List.{Contains}
use Rattle.std.proofs.lemmas.Bool.{cases_lt}
use Rattle.std.proofs.lemmas.List.{get_or_past}
use Rattle.std.proofs.lemmas.List.Elements.{All-contains, All-get_or}
use Rattle.list_base.proofs.Filtered.{filtered_member}
use Rattle.list_base.proofs.Members.{nowhere}
use Rattle.list_base.proofs.Partners.{zipped_member}
use Rattle.bspl_types.specs.declared.event.Event.{Event}
use Rattle.bspl_types.specs.declared.expanded.Expanded.{Expanded}
use Rattle.bspl_types.specs.declared.protocol.Carried.{Carried}
use Rattle.bspl_types.specs.declared.value.Value.{Value}
use Rattle.bspl_types.specs.Adornment.{has_value, valued}
use Rattle.bspl_types.specs.Expansion.{message_of, no_message}
use Rattle.bspl_types.specs.History.{instance_of}
use Rattle.bspl_types.specs.Knowledge.{Knows}
use Rattle.bspl_types.specs.Shape.{IsMessageOf}
use Rattle.role_questions.specs.declared.form.KnownValue.{KnownValue}
use Rattle.role_questions.specs.Known.{IsKnowledge}
use Rattle.role_questions.proofs.KnownLemmas.{KnownBelow}

-- a message carries parameters of the protocol alone
carried_within : (x : Expanded) (m : ℕ) (c : Carried) → Contains (message_of x m).carried c → c.param < length x.params
carried_within x m c among =
    ⊎_elim
    (λ (known : m < length x.messages). All-contains (λ d. d.param < length x.params) (message_of x m).carried c (All-get_or (IsMessageOf (length x.roles) (length x.params)) x.messages m no_message known x.shape.each_message).known_params among)
    (λ (past : length x.messages ≤ m). absurd (nowhere c (subst (λ message. Contains message.carried c) (get_or_past x.messages m no_message past) among)))
    (cases_lt m (length x.messages))

-- so what is known is known of one of them
known_within : (x : Expanded) (history : List Event) (key : List Value) (p : ℕ) (v : Value) → Knows x history key p v → p < length x.params
known_within x history key p v knows =
    let i = instance_of knows.event in
    let c : Carried = record { param = p; adornment = knows.adornment } in
    let carried = (message_of x i.message).carried in
    carried_within x i.message c (filtered_member (λ d. has_value d.adornment) carried c (zipped_member (valued carried) i.values c v knows.carries)).0

-- the values of all parameters are all that is known
pub known_whole : (x : Expanded) (history : List Event) (key : List Value) (count : ℕ) (list : List KnownValue) → count ≡ length x.params → KnownBelow x history key count list → IsKnowledge x history key list
known_whole x history key count list whole below = record {
  exact = λ p v. (
    λ listed. ((below.shows p v).0 listed).1,
    λ knows. (below.shows p v).1 (subst (λ n. p < n) (sym whole) (known_within x history key p v knows), knows),
  );
  in_order = below.in_order;
}
