-- The fields of a body give back the entry whose body it is.
use Rattle.std.proofs.Common.{◌≡◌, ℕ, ◌-◌, ◌*◌, List, ◌++◌, length, take, drop, replicate, Some, true, false, cond, refl, sym, ap, ◌∙◌, arith, length-drop}
use Rattle.std.specs.Prelude.{◌==◌, slice_index}
use Rattle.std.specs.Int.{from_le_bytes, w32, w64}
use Rattle.std.specs.List.{flat_map}
use Rattle.std.proofs.lemmas.List.{take_all}
use Rattle.std.proofs.lemmas.Nat.{from_le_bytes-to_le_bytes_4, from_le_bytes-to_le_bytes_8}
use Rattle.bspl_types.specs.declared.event.Event.{Event}
use Rattle.bspl_types.specs.declared.event.Event.TheVariants.{Emit, Receive}
use Rattle.bspl_types.specs.declared.event.Instance.{Instance}
use Rattle.bspl_types.specs.declared.expanded.Expanded.{Expanded}
use Rattle.bspl_types.specs.declared.value.Value.{Value}
use Rattle.bspl_types.specs.Adornment.{valued}
use Rattle.bspl_types.specs.Expansion.{message_of}
use Rattle.bspl_types.specs.History.{instance_of}
use Rattle.bspl_types.specs.Instance.{Fits}
use Rattle.stamped_history.specs.declared.entry.Entry.{Entry}
use Rattle.role_journal.specs.EntryBody.{IsEntry, entry_body, event_tag, value_body}
use Rattle.role_journal.specs.inner.Reading.{HasValues, event_of, values_in}
use Rattle.role_journal.proofs.BodyLemmas.{values_again}

-- an event has its instance
pub event_instance : (ev : Event) (kind : ℕ) (i : Instance) → ev ≡ event_of kind i → instance_of ev ≡ i
event_instance ev kind i is = ap instance_of is ∙ (elim (kind == 0) as (λ b. instance_of (cond b (Emit i) (Receive i)) ≡ i) [ true ↦ refl | false ↦ refl ])

-- of its kind it is that event
same_event : (ev : Event) (kind : ℕ) (i : Instance) → kind ≡ event_tag ev → instance_of ev ≡ i → event_of kind i ≡ ev
same_event (Emit j) kind i is same = ap (λ (k : ℕ). event_of k i) is ∙ ap (λ (o : Instance). let made : Event = Emit o in made) (sym same)
same_event (Receive j) kind i is same = ap (λ (k : ℕ). event_of k i) is ∙ ap (λ (o : Instance). let made : Event = Receive o in made) (sym same)

-- a message of a body is that of its entry
pub message_again : (x : Expanded) (e : Entry) (body : List ℕ) (message : ℕ) → IsEntry x e → body ≡ entry_body e → message ≡ from_le_bytes w32 (take 4 (drop 1 body)) → (instance_of e.event).message ≡ message
message_again x e body message entry is read =
    let small = x.shape.counts.few_messages in
    sym (read ∙ ap (λ (b : List ℕ). from_le_bytes w32 (take 4 (drop 1 b))) is ∙ from_le_bytes-to_le_bytes_4 (instance_of e.event).message (omega (arith, small, entry.fits.known)))

pub entry_again : (x : Expanded) (e : Entry) (body : List ℕ) (message stamp number count kind : ℕ) (values : List Value) (i : Instance) (ev : Event) → IsEntry x e → body ≡ entry_body e → message ≡ from_le_bytes w32 (take 4 (drop 1 body)) → HasValues x message count → values ≡ values_in count (take (length body - 17) (drop 17 body))
    → ((j : Instance) → Fits x j → j.message ≡ message → j.values ≡ values → j ≡ i) → kind ≡ slice_index body 0 → ev ≡ event_of kind i → stamp ≡ from_le_bytes w64 (take 8 (drop 5 body)) → number ≡ from_le_bytes w32 (take 4 (drop 13 body))
    → Some (let made : Entry = record { event = ev; stamp = stamp; number = number } in made) ≡ Some e
entry_again x e body message stamp number count kind values i ev entry is read_message has read_values only read_kind made read_stamp read_number =
    let j = instance_of e.event in
    let zeros = replicate (34 * (16 - length j.values)) 0 in
    let message_is : j.message ≡ message = message_again x e body message entry is read_message in
    let count_is : count ≡ length j.values = has.count_is ∙ ap (λ (m : ℕ). length (valued (message_of x m).carried)) (sym message_is) ∙ sym entry.fits.each_value in
    let tail : take (length body - 17) (drop 17 body) ≡ flat_map value_body j.values ++ zeros = take_all (length body - 17) (drop 17 body) (omega (arith, length-drop 17 body)) ∙ ap (λ (b : List ℕ). drop 17 b) is in
    let values_are : j.values ≡ values = sym (read_values ∙ ap (values_in count) tail ∙ ap (λ (n : ℕ). values_in n (flat_map value_body j.values ++ zeros)) count_is ∙ values_again j.values zeros entry.values) in
    let instance_is : j ≡ i = only j entry.fits message_is values_are in
    let event_is : ev ≡ e.event = made ∙ same_event e.event kind i (read_kind ∙ ap (λ (b : List ℕ). slice_index b 0) is) instance_is in
    let stamp_is : stamp ≡ e.stamp = read_stamp ∙ ap (λ (b : List ℕ). from_le_bytes w64 (take 8 (drop 5 b))) is ∙ from_le_bytes-to_le_bytes_8 e.stamp entry.stamp in
    let number_is : number ≡ e.number = read_number ∙ ap (λ (b : List ℕ). from_le_bytes w32 (take 4 (drop 13 b))) is ∙ from_le_bytes-to_le_bytes_4 e.number entry.number in
    λ k. Some (record { event = event_is k; stamp = stamp_is k; number = number_is k })
