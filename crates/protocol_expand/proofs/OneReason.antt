-- A message is refused for one reason, and for none if it is admitted.
use Rattle.std.proofs.Common.{◌≡◌, ◌≢◌, ◌↔◌, ℕ, ◌<◌, ◌⊎◌, Result, Ok, Err, IsOk, IsErr, List, length, take, get_or, slice_get, Some, refl, sym, ◌∙◌, ap, subst, arith, inl, inr, length-take}
use Rattle.std.specs.List.{All}
use Rattle.std.proofs.lemmas.Bool.{cases_order, false≢true}
use Rattle.std.proofs.lemmas.List.{get_or-take, take_all}
use Rattle.std.proofs.lemmas.Option.{get_or_from_slice_get, slice_get_within}
use Rattle.bspl_types.specs.declared.protocol.Carried.{Carried}
use Rattle.bspl_types.specs.declared.protocol.Message.{Message}
use Rattle.bspl_types.specs.declared.protocol.ParamInfo.{ParamInfo}
use Rattle.bspl_types.specs.declared.refusals.Refusal.{Refusal}
use Rattle.bspl_types.specs.declared.refusals.Refusal.TheVariants.{NotWholeKey, SelfMessage, RepeatedParam, NoMemory}
use Rattle.bspl_types.specs.Admission.{IsAdmittedMessage}
use Rattle.bspl_types.specs.Adornment.{Binds}
use Rattle.protocol_expand.specs.NotAdmitted.{HasDistinctParams, IsFirstMissing, IsFirstRepeatedParam, IsMessageRefusal, IsNameOfParam, Lacks, Repeats}

-- what holds of the items before an index holds of each
pub early : {X : Type 0} (P : X → Type 0) (xs : List X) (i k : ℕ) (x : X) → All P (take k xs) → slice_get xs i ≡ Some x → i < k → P x
early {X} P xs i k x all there before =
    let within : i < length (take k xs) = omega (arith, length-take k xs, slice_get_within xs i x there) in
    subst (λ (y : X). P y) (get_or-take k xs i x before ∙ get_or_from_slice_get xs i x x there) (all i x within)

-- a parameter that is repeated is not distinct from those before it
not_distinct : (carried : List Carried) (p k : ℕ) (repeated : IsFirstRepeatedParam carried p) → repeated.index < k → HasDistinctParams (take k carried) → ⊥
not_distinct carried p k repeated before distinct =
    let j = repeated.earlier.0 in
    let c = repeated.earlier.1 in
    let sooner : j < repeated.index = omega (arith, length-take repeated.index carried, repeated.earlier.2) in
    let last : repeated.index < length (take k carried) = omega (arith, length-take k carried, slice_get_within carried repeated.index repeated.again repeated.there) in
    let first_is : get_or (take k carried) j c ≡ c = get_or-take k carried j c (omega (arith, sooner, before)) ∙ sym (get_or-take repeated.index carried j c sooner) ∙ repeated.earlier.3 in
    let last_is : get_or (take k carried) repeated.index c ≡ repeated.again = get_or-take k carried repeated.index c before ∙ get_or_from_slice_get carried repeated.index repeated.again c repeated.there in
    distinct j repeated.index c sooner last (ap (λ (d : Carried). d.param) first_is ∙ repeated.earlier.4 ∙ sym repeated.same ∙ ap (λ (d : Carried). d.param) (sym last_is))

-- nor are all
never_distinct : (carried : List Carried) (p : ℕ) → IsFirstRepeatedParam carried p → HasDistinctParams carried → ⊥
never_distinct carried p repeated distinct =
    not_distinct carried p (length carried) repeated (slice_get_within carried repeated.index repeated.again repeated.there)
    (subst HasDistinctParams (sym (take_all (length carried) carried (omega arith))) distinct)

-- the first parameter that is repeated is one
one_repeated : (carried : List Carried) (p q : ℕ) → IsFirstRepeatedParam carried p → IsFirstRepeatedParam carried q → p ≡ q
one_repeated carried p q one other = elim (cases_order one.index other.index) [
  | inl same ↦
      let again : Some one.again ≡ Some other.again = sym one.there ∙ ap (slice_get carried) same ∙ other.there in
      let is : one.again ≡ other.again = cc in
      sym one.same ∙ ap (λ (d : Carried). d.param) is ∙ other.same
  | inr (inl less) ↦ absurd (not_distinct carried p other.index one less other.distinct)
  | inr (inr more) ↦ absurd (not_distinct carried q one.index other more one.distinct)
]

-- the first key that is missing is one
one_missing : (carried : List Carried) (keys : List ℕ) (p q : ℕ) → IsFirstMissing carried keys p → IsFirstMissing carried keys q → p ≡ q
one_missing carried keys p q one other = elim (cases_order one.index other.index) [
  | inl same ↦ let key : Some p ≡ Some q = sym one.there ∙ ap (slice_get keys) same ∙ other.there in cc
  | inr (inl less) ↦ absurd (one.missing (early (Binds carried) keys one.index other.index p other.bound one.there less))
  | inr (inr more) ↦ absurd (other.missing (early (Binds carried) keys other.index one.index q one.bound other.there more))
]

-- a parameter has one name
one_name : (params : List ParamInfo) (p q : ℕ) (name other : List ℕ) → p ≡ q → IsNameOfParam params p name → IsNameOfParam params q other → name ≡ other
one_name params p q name other same is_name is_other =
    let found : Some is_name.info ≡ Some is_other.info = sym is_name.there ∙ ap (slice_get params) same ∙ is_other.there in
    let info : is_name.info ≡ is_other.info = cc in
    sym is_name.same ∙ ap (λ (i : ParamInfo). i.name) info ∙ is_other.same

-- it goes to its sender
abbrev IsSelf : Message → Refusal → Type 0
IsSelf m r = (r ≡ SelfMessage m.name) × (m.sender ≡ m.receiver)

-- or it has a parameter twice
abbrev IsRepeat : List ParamInfo → Message → Refusal → Type 0
IsRepeat params m r = (param : List ℕ) × (r ≡ RepeatedParam m.name param) × Repeats params m param

-- or it lacks a key
abbrev IsLack : List ℕ → List ParamInfo → Message → Refusal → Type 0
IsLack keys params m r = (param : List ℕ) × (r ≡ NotWholeKey m.name param) × Lacks keys params m param

-- one of the three
abbrev IsReason : List ℕ → List ParamInfo → Message → Refusal → Type 0
IsReason keys params m r = IsSelf m r ⊎ (IsRepeat params m r ⊎ IsLack keys params m r)

-- each refusal but out of memory is for such a reason
reason : (keys : List ℕ) (params : List ParamInfo) (m : Message) (r : Refusal) → r ≢ NoMemory → IsMessageRefusal keys params m r → IsReason keys params m r
reason keys params m (SelfMessage message) not_memory both = inl (ap SelfMessage both.0, both.1)
reason keys params m (RepeatedParam message param) not_memory both = inr (inl (param, ap (λ (n : List ℕ). RepeatedParam n param) both.0, both.1))
reason keys params m (NotWholeKey message param) not_memory both = inr (inr (param, ap (λ (n : List ℕ). NotWholeKey n param) both.0, both.1))
reason keys params m NoMemory not_memory any = absurd (not_memory refl)
reason keys params m other not_memory never = absurd never

-- there is one
one_reason : (keys : List ℕ) (params : List ParamInfo) (m : Message) (r s : Refusal) → IsReason keys params m r → IsReason keys params m s → r ≡ s
one_reason keys params m r s (inl one) (inl other) = one.0 ∙ sym other.0
one_reason keys params m r s (inl one) (inr (inl other)) = absurd (other.2.two_roles one.1)
one_reason keys params m r s (inl one) (inr (inr other)) = absurd (other.2.two_roles one.1)
one_reason keys params m r s (inr (inl one)) (inl other) = absurd (one.2.two_roles other.1)
one_reason keys params m r s (inr (inr one)) (inl other) = absurd (one.2.two_roles other.1)
one_reason keys params m r s (inr (inl one)) (inr (inl other)) =
    one.1 ∙ ap (RepeatedParam m.name) (one_name params one.2.p other.2.p one.0 other.0 (one_repeated m.carried one.2.p other.2.p one.2.repeated other.2.repeated) one.2.named other.2.named) ∙ sym other.1
one_reason keys params m r s (inr (inl one)) (inr (inr other)) = absurd (never_distinct m.carried one.2.p one.2.repeated other.2.distinct)
one_reason keys params m r s (inr (inr one)) (inr (inl other)) = absurd (never_distinct m.carried other.2.p other.2.repeated one.2.distinct)
one_reason keys params m r s (inr (inr one)) (inr (inr other)) =
    one.1 ∙ ap (NotWholeKey m.name) (one_name params one.2.p other.2.p one.0 other.0 (one_missing m.carried keys one.2.p other.2.p one.2.missing other.2.missing) one.2.named other.2.named) ∙ sym other.1

-- a message that has a parameter twice is not admitted
pub repeated_is_not_admitted : (keys : List ℕ) (m : Message) (p : ℕ) → IsFirstRepeatedParam m.carried p → ¬ IsAdmittedMessage keys m
repeated_is_not_admitted keys m p repeated admitted = never_distinct m.carried p repeated admitted.distinct

-- nor one that lacks a key
pub missing_is_not_admitted : (keys : List ℕ) (m : Message) (p : ℕ) → IsFirstMissing m.carried keys p → ¬ IsAdmittedMessage keys m
missing_is_not_admitted keys m p missing admitted =
    missing.missing (early (Binds m.carried) keys missing.index (length keys) p (subst (All (Binds m.carried)) (sym (take_all (length keys) keys (omega arith))) admitted.whole_key) missing.there (slice_get_within keys missing.index p missing.there))

-- and none against a message that is admitted
no_reason : (keys : List ℕ) (params : List ParamInfo) (m : Message) (r : Refusal) → IsAdmittedMessage keys m → IsReason keys params m r → ⊥
no_reason keys params m r admitted (inl one) = admitted.two_roles one.1
no_reason keys params m r admitted (inr (inl one)) = repeated_is_not_admitted keys m one.2.p one.2.repeated admitted
no_reason keys params m r admitted (inr (inr one)) = missing_is_not_admitted keys m one.2.p one.2.missing admitted

-- a message has one refusal
pub message_once : (keys : List ℕ) (params : List ParamInfo) (m : Message) (r s : Refusal) → r ≢ NoMemory → s ≢ NoMemory → IsMessageRefusal keys params m r → IsMessageRefusal keys params m s → r ≡ s
message_once keys params m r s not_r not_s is_r is_s = one_reason keys params m r s (reason keys params m r not_r is_r) (reason keys params m s not_s is_s)

-- and none if it is admitted
pub message_never : (keys : List ℕ) (params : List ParamInfo) (m : Message) (r : Refusal) → r ≢ NoMemory → IsAdmittedMessage keys m → IsMessageRefusal keys params m r → ⊥
message_never keys params m r not_memory admitted refused = no_reason keys params m r admitted (reason keys params m r not_memory refused)

-- what is refused is answered by an error exactly
pub refused_exactly : {A E : Type 0} (answer : Result A E) (Holds : Type 0) → IsErr answer → ¬ Holds → (IsOk answer ↔ Holds)
refused_exactly (Ok value) Holds is_err not = absurd (false≢true is_err)
refused_exactly (Err error) Holds is_err not = (λ is_ok. absurd (false≢true is_ok), λ holds. absurd (not holds))

-- a key that is missing is a parameter
pub missing_exists : (count : ℕ) (carried : List Carried) (keys : List ℕ) (p : ℕ) → All (λ k. k < count) keys → IsFirstMissing carried keys p → p < count
missing_exists count carried keys p exist missing =
    subst (λ k. k < count) (get_or_from_slice_get keys missing.index p p missing.there) (exist missing.index p (slice_get_within keys missing.index p missing.there))
