-- Where each parameter has one message that produces it, no legal run has a conflict.
use Rattle.std.proofs.Common.{◌≡◌, ℕ, ◌<◌, ◌≤◌, List, length, take, ⊎_elim, refl, sym, ◌∙◌, subst}
use Rattle.std.specs.Prelude.{◌==◌}
use Rattle.std.specs.List.{Contains}
use Rattle.std.proofs.lemmas.Bool.{cases_lt, cases_order, eq-eqb}
use Rattle.std.proofs.lemmas.List.{get_or_past}
use Rattle.std.proofs.lemmas.List.Elements.{All-take}
use Rattle.list_base.proofs.Filtered.{kept_member}
use Rattle.list_base.proofs.Members.{nowhere}
use Rattle.list_base.proofs.Membership.{early_member}
use Rattle.bspl_types.specs.declared.event.Event.{Event}
use Rattle.bspl_types.specs.declared.event.Event.TheVariants.{Emit}
use Rattle.bspl_types.specs.declared.event.Instance.{Instance}
use Rattle.bspl_types.specs.declared.expanded.Expanded.{Expanded}
use Rattle.bspl_types.specs.declared.protocol.Adornment.TheVariants.{Out}
use Rattle.bspl_types.specs.Admission.{IsAdmitted}
use Rattle.bspl_types.specs.Expansion.{Adorns, message_of, no_message}
use Rattle.bspl_types.specs.History.{history_of, instance_of, IsRun, role_of}
use Rattle.bspl_types.specs.Instance.{Fits}
use Rattle.bspl_types.specs.Knowledge.{IsKnown, Knows}
use Rattle.enactment_model.specs.Legal.{IsLegalRun, MayFollow}
use Rattle.enactment_model.specs.Producers.{HasOneProducer}
use Rattle.enactment_model.specs.Safety.{HasNoConflict, SafeProtocol}
use Rattle.enactment_model.proofs.KnowledgeLemmas.{binds_by, history_is_run, known_from_binding}
use Rattle.enactment_model.proofs.LegalLemmas.{follows_at}
use Rattle.enactment_model.proofs.SourceLemmas.{agree_without_conflict}

-- the sender of an emission knows a value of each `out` parameter of it
sender_knows : (x : Expanded) (run : List Event) (i : Instance) (p : ℕ) → IsRun x run → Contains run (Emit i) → Adorns x i.message Out p → IsKnown x (history_of x (message_of x i.message).sender run) i.key p
sender_knows x run i p is_run emitted adorned =
    let sender = (message_of x i.message).sender in
    known_from_binding x (history_of x sender run) i.key p (history_is_run x run sender is_run)
    (record { event = Emit i; among = kept_member (λ e. role_of x e == sender) run (Emit i) (eq-eqb sender sender refl) emitted; under = refl; binds = binds_by x i.message Out p refl adorned })

-- so no other instance of its message is enabled under its key
pub never_again : (x : Expanded) (before : List Event) (first second : Instance) (p : ℕ) → IsRun x before → Contains before (Emit first) → second.message ≡ first.message → second.key ≡ first.key → Adorns x first.message Out p → ¬ MayFollow x before (Emit second)
never_again x before first second p is_run emitted same_message same_key adorned enabled =
    let (v, knows) = sender_knows x before first p is_run emitted adorned in
    let knows_of_second = subst (λ m. Knows x (history_of x (message_of x m).sender before) second.key p v) (sym same_message) (subst (λ key. Knows x (history_of x (message_of x first.message).sender before) key p v) (sym same_key) knows) in
    enabled.can.outs p (subst (λ m. Adorns x m Out p) (sym same_message) adorned) (v, knows_of_second)

-- a message that adorns a parameter is one of the protocol's
pub known_message : (x : Expanded) (m p : ℕ) → Adorns x m Out p → m < length x.messages
known_message x m p adorned =
    ⊎_elim
    (λ (known : m < length x.messages). known)
    (λ (past : length x.messages ≤ m). absurd (nowhere _ (subst (λ message. Contains message.carried (record { param = p; adornment = Out })) (get_or_past x.messages m no_message past) adorned)))
    (cases_lt m (length x.messages))

-- two messages that produce one parameter are one
same_message : (x : Expanded) → HasOneProducer x → (m n p : ℕ) → Adorns x m Out p → Adorns x n Out p → m ≡ n
same_message x one_producer m n p by_m by_n =
    ⊎_elim
    (λ (same : m ≡ n). same)
    (⊎_elim
    (λ (before : m < n). absurd (one_producer m n no_message before (known_message x n p by_n) (record { param = p; one = by_m; other = by_n })))
    (λ (after : n < m). absurd (one_producer n m no_message after (known_message x m p by_m) (record { param = p; one = by_n; other = by_m }))))
    (cases_order m n)

-- no legal run has a conflict, of two messages or of one
no_conflict : (x : Expanded) → HasOneProducer x → (run : List Event) → IsLegalRun x run → HasNoConflict x run
no_conflict x one_producer run is_legal key p first second conflict =
    let one = conflict.first_produces in
    let other = conflict.second_produces in
    never_again x (take second run) one.instance other.instance p
    (All-take (λ e. Fits x (instance_of e)) second run is_legal.fits)
    (early_member run first second (Emit one.instance) one.emitted conflict.in_order)
    (same_message x one_producer other.instance.message one.instance.message p other.adorned one.adorned)
    (other.under ∙ sym one.under)
    one.adorned
    (follows_at x run is_legal.legal second (Emit other.instance) other.emitted)

-- so the protocol is safe
pub safe_by_one_producer : (x : Expanded) → HasOneProducer x → IsAdmitted x → SafeProtocol x
safe_by_one_producer x one_producer admitted =
    record {
      no_conflict = no_conflict x one_producer;
      agree = λ run is_legal. agree_without_conflict x run admitted is_legal.legal (no_conflict x one_producer run is_legal);
    }
