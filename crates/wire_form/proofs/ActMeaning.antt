-- A request means one act of a role.
use Rattle.std.proofs.Common.{◌≡◌, ℕ, List, Some, sym, subst, ◌∙◌}
use Rattle.std.specs.List.{AllZip}
use Rattle.bspl_types.specs.declared.expanded.Expanded.{Expanded}
use Rattle.bspl_types.specs.declared.protocol.Carried.{Carried}
use Rattle.bspl_types.specs.declared.value.Value.{Value}
use Rattle.bspl_types.specs.Admission.{IsAdmitted}
use Rattle.bspl_types.specs.Adornment.{valued}
use Rattle.bspl_types.specs.Expansion.{message_of}
use Rattle.bspl_types.specs.ValueSpelling.{SpellsValue, ValuesAreSpelledOnce, value_spelling}
use Rattle.list_base.proofs.Zipped.{one_list}
use Rattle.list_base.specs.Lines.{Line}
use Rattle.role_journal.specs.EntryBody.{FittingInstancesAreOne}
use Rattle.serde_json.specs.Data.{string}
use Rattle.wire_form.specs.declared.act.Act.{Act}
use Rattle.wire_form.specs.declared.act.Act.TheVariants.{Arrival, Attempt}
use Rattle.wire_form.specs.Meaning.{AsksFor, IsGiven, Means}
use Rattle.wire_form.specs.Request.{NamedField, Request, emit, receive}
use Rattle.wire_form.proofs.MeaningLemmas.{same_message}
use Rattle.wire_form.proofs.RequestLemmas.{line_asks_once}

-- a text spells one value
one_spelled : ValuesAreSpelledOnce → (text : List ℕ) (v w : Value) → SpellsValue text v → SpellsValue text w → v ≡ w
one_spelled once text v w one other = once v w one.value other.value (sym one.spelled ∙ other.spelled)

-- fields give one value of a parameter
one_given : ValuesAreSpelledOnce → (x : Expanded) (fields : List NamedField) (c : Carried) (v w : Value) → IsGiven x fields c v → IsGiven x fields c w → v ≡ w
one_given once x fields c v w one other =
    let same : Some (string (value_spelling v)) ≡ Some (string (value_spelling w)) = sym one.given ∙ other.given in
    let spelled : value_spelling v ≡ value_spelling w = cc in
    once v w one.value other.value spelled

-- a request means one act
one_act : ValuesAreSpelledOnce → FittingInstancesAreOne → (x : Expanded) (role : ℕ) (request : Request) (one other : Act) → IsAdmitted x → Means x role request one → Means x role request other → one ≡ other
one_act once fitting x role (receive message count stamp fields) (Arrival m) (Arrival n) admitted means also =
    let same : m.instance.message ≡ n.instance.message = same_message x m.instance.message n.instance.message means.0.fits.known also.0.fits.known (means.0.named ∙ sym also.0.named) in
    let given = subst (λ (k : ℕ). AllZip (IsGiven x fields) (valued (message_of x k).carried) m.instance.values) same means.0.given in
    let values : m.instance.values ≡ n.instance.values = one_list (IsGiven x fields) (one_given once x fields) (valued (message_of x n.instance.message).carried) m.instance.values n.instance.values given also.0.given in
    let instance = fitting x m.instance n.instance admitted means.0.fits also.0.fits same values in
    let count_same = means.1 ∙ sym also.1 in
    let stamp_same = means.2 ∙ sym also.2 in
    λ i. Arrival (record { instance = instance i; stamp = stamp_same i; number = count_same i })
one_act once fitting x role (receive message count stamp fields) (Arrival m) (Attempt n key outs) admitted means also = absurd also
one_act once fitting x role (receive message count stamp fields) (Attempt m key outs) other admitted means also = absurd means
one_act once fitting x role (emit key message outs) (Arrival m) other admitted means also = absurd means
one_act once fitting x role (emit key message outs) (Attempt m keys values) (Arrival n) admitted means also = absurd also
one_act once fitting x role (emit key message outs) (Attempt m keys values) (Attempt n keys' values') admitted means also =
    let same = same_message x m n means.known also.known (means.named ∙ sym also.named) in
    let key_same = one_list SpellsValue (one_spelled once) key keys keys' means.key_spelled also.key_spelled in
    let values_same = one_list SpellsValue (one_spelled once) outs values values' means.outs_spelled also.outs_spelled in
    λ i. Attempt (same i) (key_same i) (values_same i)

-- a line asks for one
pub line_has_one_act : ValuesAreSpelledOnce → FittingInstancesAreOne → (x : Expanded) (role : ℕ) (line : Line) (one other : Act) → IsAdmitted x → AsksFor x role line one → AsksFor x role line other → one ≡ other
line_has_one_act once fitting x role line one other admitted does also =
    let same = line_asks_once line does.request also.request does.asks also.asks in
    one_act once fitting x role also.request one other admitted (subst (λ (r : Request). Means x role r one) same does.means) also.means
