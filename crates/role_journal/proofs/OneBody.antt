-- Two entries of one body are one.
use Rattle.std.proofs.Common.{◌≡◌, ◌-◌, ◌*◌, ◌++◌, length, take, drop, replicate, refl, sym, ap, ◌∙◌, arith, length-drop}
use Rattle.std.specs.Int.{from_le_bytes, w32}
use Rattle.std.specs.List.{flat_map}
use Rattle.std.proofs.lemmas.List.{take_all}
use Rattle.std.proofs.lemmas.Nat.{from_le_bytes-to_le_bytes_4, from_le_bytes-to_le_bytes_8}
use Rattle.std.proofs.lemmas.Option.{same_Some}
use Rattle.bspl_types.specs.declared.event.Event.{Event}
use Rattle.bspl_types.specs.declared.event.Event.TheVariants.{Emit, Receive}
use Rattle.bspl_types.specs.declared.expanded.Expanded.{Expanded}
use Rattle.bspl_types.specs.Admission.{IsAdmitted}
use Rattle.bspl_types.specs.History.{instance_of}
use Rattle.stamped_history.specs.declared.entry.Entry.{Entry}
use Rattle.role_journal.specs.EntryBody.{IsEntry, entry_body, event_tag, value_body}
use Rattle.role_journal.specs.inner.Reading.{event_of, values_in}
use Rattle.role_journal.proofs.BodyLemmas.{values_again}
use Rattle.role_journal.proofs.EntryLemmas.{entry_again, message_again}
use Rattle.role_journal.proofs.InstanceLemmas.{few_valued, fitting_is_one}

-- an event is the one of its kind and its instance
own_event : (ev : Event) → ev ≡ event_of (event_tag ev) (instance_of ev)
own_event (Emit i) = refl
own_event (Receive i) = refl

pub one_body : (x : Expanded) (e f : Entry) → IsAdmitted x → IsEntry x e → IsEntry x f → entry_body e ≡ entry_body f → e ≡ f
one_body x e f admitted entry other same =
    let j = instance_of f.event in
    let zeros = replicate (34 * (16 - length j.values)) 0 in
    let body = entry_body f in
    let tail : take (length body - 17) (drop 17 body) ≡ flat_map value_body j.values ++ zeros = take_all (length body - 17) (drop 17 body) (omega (arith, length-drop 17 body)) in
    let values : j.values ≡ values_in (length j.values) (take (length body - 17) (drop 17 body)) = sym (ap (values_in (length j.values)) tail ∙ values_again j.values zeros other.values) in
    let message : j.message ≡ from_le_bytes w32 (take 4 (drop 1 body)) = message_again x f body (from_le_bytes w32 (take 4 (drop 1 body))) other refl refl in
    sym (same_Some f e (entry_again x e body j.message f.stamp f.number (length j.values) (event_tag f.event) j.values j f.event entry (sym same)
    message (record { known = other.fits.known; count_is = other.fits.each_value; few = omega (arith, few_valued x j.message other.fits.known, other.fits.each_value) }) values
    (λ i fits is as_many. fitting_is_one x i j admitted fits other.fits is as_many) refl (own_event f.event)
    (sym (from_le_bytes-to_le_bytes_8 f.stamp other.stamp)) (sym (from_le_bytes-to_le_bytes_4 f.number other.number))))
