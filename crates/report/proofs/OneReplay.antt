-- A run has one replay text.
use Rattle.std.proofs.Common.{◌≡◌, ℕ, ◌<◌, List, ◌++◌, ⊎_elim, refl, sym, ap, ◌∙◌, subst, arith}
use Rattle.std.specs.List.{concat}
use Rattle.std.proofs.lemmas.Bool.{cases_order}
use Rattle.list_base.proofs.Zipped.{one_list}
use Rattle.bspl_types.specs.declared.event.Event.{Event}
use Rattle.bspl_types.specs.declared.expanded.Expanded.{Expanded}
use Rattle.bspl_types.specs.declared.value.Value.{Value}
use Rattle.bspl_types.specs.Admission.{IsAdmitted}
use Rattle.role_knowledge.specs.Laws.{FirstKnownIsOne}
use Rattle.enactment_model.specs.declared.conflicts.Conflict.{Conflict}
use Rattle.enactment_model.specs.FirstLoose.{IsFirstLoose, IsLoose}
use Rattle.enactment_model.specs.FirstUnbound.{IsFirstUnbound}
use Rattle.enactment_model.specs.LeastConflict.{IsLeastConflict}
use Rattle.enactment_model.specs.Liveness.{Quiet}
use Rattle.enactment_model.specs.Safety.{Conflict as IsConflict, HasNoConflict}
use Rattle.report.specs.declared.status.Status.{Status as KeyStatus}
use Rattle.report.specs.declared.status.Status.TheVariants.{Loose, Incomplete, Complete}
use Rattle.report.specs.Keys.{reported_keys}
use Rattle.report.specs.Laws.{ReplayIsOnce}
use Rattle.report.specs.ReplayLines.{conflict_line, illegal_line, key_line, legal_line}
use Rattle.report.specs.ReplayText.{IsConflictLine, IsIllegalText, IsKeyLine, IsLegalText}
use Rattle.report.specs.Status.{HasStatus}
use Rattle.report.proofs.OneBadEvent.{legal_has_none, one_bad_event}

-- a run has one least conflict
one_least : (x : Expanded) (run : List Event) (found other : Conflict) → IsLeastConflict x run found → IsLeastConflict x run other → found ≡ other
one_least x run found other one two =
    let seconds : one.second ≡ two.second = omega (arith, one.least_second two.key other.param two.first two.second two.conflict, two.least_second one.key found.param one.first one.second one.conflict) in
    let there = subst (λ s. IsConflict x run two.key other.param two.first s) (sym seconds) two.conflict in
    let back = subst (λ s. IsConflict x run one.key found.param one.first s) seconds one.conflict in
    let params : found.param ≡ other.param = omega (arith, one.least_param two.key other.param two.first there, two.least_param one.key found.param one.first back) in
    let first_there = subst (λ p. IsConflict x run two.key p two.first one.second) (sym params) there in
    let first_back = subst (λ p. IsConflict x run one.key p one.first two.second) params back in
    let firsts : one.first ≡ two.first = omega (arith, one.least_first two.key two.first first_there, two.least_first one.key one.first first_back) in
    let found_first : found.first ≡ other.first = omega (arith, one.first_is, two.first_is) in
    let found_second : found.second ≡ other.second = omega (arith, one.second_is, two.second_is) in
    λ j. record { first = found_first j; second = found_second j; param = params j }

-- a run with a least conflict has one
least_is_one : (x : Expanded) (run : List Event) (found : Conflict) → IsLeastConflict x run found → ¬ HasNoConflict x run
least_is_one x run found least none = none least.key found.param least.first least.second least.conflict

-- a run has one line for its conflict
one_conflict_line : (x : Expanded) (run : List Event) (line other : List ℕ) → IsConflictLine x run line → IsConflictLine x run other → line ≡ other
one_conflict_line x run line other one two =
    ⊎_elim
    (λ none. ⊎_elim
    (λ also_none. none.1 ∙ sym also_none.1)
    (λ some. absurd (least_is_one x run some.found some.least none.0))
    two)
    (λ some. ⊎_elim
    (λ none. absurd (least_is_one x run some.found some.least none.0))
    (λ another. some.line_is ∙ ap (conflict_line x) (one_least x run some.found another.found some.least another.least) ∙ sym another.line_is)
    two)
    one

-- no message is loose at a key at which the run is quiet
quiet_not_loose : (x : Expanded) (run : List Event) (key : List Value) (m : ℕ) → Quiet x run key → ¬ IsLoose x run key m
quiet_not_loose x run key m quiet loose =
    ⊎_elim
    (λ unreceived. unreceived.unreceived (quiet.received unreceived.instance unreceived.under unreceived.emitted))
    (λ enabled. quiet.exhausted m enabled.unemitted enabled.can)
    loose

-- a key has one first loose message
one_loose : (x : Expanded) (run : List Event) (key : List Value) (m n : ℕ) → IsFirstLoose x run key (record { message = m }) → IsFirstLoose x run key (record { message = n }) → m ≡ n
one_loose x run key m n one two =
    ⊎_elim
    (λ (same : m ≡ n). same)
    (⊎_elim
    (λ (before : m < n). absurd (two.first m before one.loose))
    (λ (after : n < m). absurd (one.first n after two.loose)))
    (cases_order m n)

-- a key has one first parameter that is not bound
one_unbound : (x : Expanded) (run : List Event) (key : List Value) (p q : ℕ) → IsFirstUnbound x run key p → IsFirstUnbound x run key q → p ≡ q
one_unbound x run key p q one two =
    ⊎_elim
    (λ (same : p ≡ q). same)
    (⊎_elim
    (λ (before : p < q). absurd (one.unbound (two.first p before one.public)))
    (λ (after : q < p). absurd (two.unbound (one.first q after two.public))))
    (cases_order p q)

-- a key has one status
one_status : (x : Expanded) (run : List Event) (key : List Value) (status other : KeyStatus) → HasStatus x run key status → HasStatus x run key other → status ≡ other
one_status x run key (Loose m) (Loose n) one two = ap Loose (one_loose x run key m n one two)
one_status x run key (Loose m) (Incomplete q) one two = absurd (quiet_not_loose x run key m two.0 one.loose)
one_status x run key (Loose m) Complete one two = absurd (quiet_not_loose x run key m two.0 one.loose)
one_status x run key (Incomplete p) (Loose n) one two = absurd (quiet_not_loose x run key n one.0 two.loose)
one_status x run key (Incomplete p) (Incomplete q) one two = ap Incomplete (one_unbound x run key p q one.1 two.1)
one_status x run key (Incomplete p) Complete one two = absurd (one.1.unbound (two.1 p one.1.public))
one_status x run key Complete (Loose n) one two = absurd (quiet_not_loose x run key n one.0 two.loose)
one_status x run key Complete (Incomplete q) one two = absurd (two.1.unbound (one.1 q two.1.public))
one_status x run key Complete Complete one two = refl

-- a key has one line
one_key_line : (x : Expanded) (run : List Event) (key : List Value) (line other : List ℕ) → IsKeyLine x run key line → IsKeyLine x run key other → line ≡ other
one_key_line x run key line other one two =
    one.line_is ∙ ap (key_line x key) (one_status x run key one.status two.status one.is_status two.is_status) ∙ sym two.line_is

-- a legal run has one text
one_legal_text : (x : Expanded) (run : List Event) (text other : List ℕ) → IsLegalText x run text → IsLegalText x run other → text ≡ other
one_legal_text x run text other one two =
    let conflicts = one_conflict_line x run one.conflict two.conflict one.is_conflict two.is_conflict in
    let lines = one_list (IsKeyLine x run) (one_key_line x run) (reported_keys x run) one.keys two.keys one.are_keys two.are_keys in
    one.text_is ∙ ap (λ line. legal_line run ++ line ++ concat one.keys) conflicts ∙ ap (λ keys. legal_line run ++ two.conflict ++ concat keys) lines ∙ sym two.text_is

-- an illegal run has one text
one_illegal_text : FirstKnownIsOne → (x : Expanded) (run : List Event) (text other : List ℕ) → IsAdmitted x → IsIllegalText x run text → IsIllegalText x run other → text ≡ other
one_illegal_text once x run text other admitted one two =
    one.text_is ∙ ap (illegal_line x) (one_bad_event once x run one.bad two.bad admitted one.first two.first) ∙ sym two.text_is

-- a run of an admitted protocol has one text
pub one_text : FirstKnownIsOne → ReplayIsOnce
one_text once x run text other admitted one two =
    ⊎_elim
    (λ illegal. ⊎_elim
    (λ another. one_illegal_text once x run text other admitted illegal another)
    (λ legal. absurd (legal_has_none x run illegal.bad illegal.first legal.legal.legal))
    two)
    (λ legal. ⊎_elim
    (λ illegal. absurd (legal_has_none x run illegal.bad illegal.first legal.legal.legal))
    (λ another. one_legal_text x run text other legal another)
    two)
    one
