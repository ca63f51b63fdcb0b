-- The stamps of a local history rise: by induction on its first entries.
use Rattle.std.proofs.Common.{◌≡◌, ℕ, ◌<◌, ◌≤◌, List, [], ◌∷◌, ◌++◌, refl, sym, ◌∙◌, subst, arith, All}
use Rattle.std.proofs.lemmas.List.{append_assoc, append-nil}
use Rattle.std.proofs.lemmas.List.Elements.{All-nil, All-push, All-weaker}
use Rattle.std.proofs.lemmas.List.Quantifiers.{all_pairs_push}
use Rattle.bspl_types.specs.declared.event.Event.{Event}
use Rattle.bspl_types.specs.declared.event.Event.TheVariants.{Emit, Receive}
use Rattle.bspl_types.specs.declared.expanded.Expanded.{Expanded}
use Rattle.stamped_history.specs.declared.entry.Entry.{Entry}
use Rattle.stamped_history.specs.Entries.{last_stamp, StampsRise}
use Rattle.stamped_history.specs.Laws.{LocalStampsRise}
use Rattle.stamped_history.specs.Local.{EachFollows, MayFollowAs}

-- the stamp of an entry at the end is the last one
last_push : (entries : List Entry) (e : Entry) → last_stamp (entries ++ e ∷ []) ≡ e.stamp
last_push [] e = refl
last_push (d ∷ []) e = refl
last_push (d ∷ (f ∷ rest)) e = last_push (f ∷ rest) e

-- an event that may follow has a higher stamp
stamp_above : (x : Expanded) (before : List Entry) (event : Event) (stamp number : ℕ) → MayFollowAs x before event stamp number → last_stamp before < stamp
stamp_above x before (Emit i) stamp number may = omega (arith, may.next)
stamp_above x before (Receive i) stamp number may = may.later

-- the stamps rise up to each entry
rise_after : (x : Expanded) (entries before after : List Entry) → EachFollows x entries → entries ≡ before ++ after → StampsRise before → All (λ e. e.stamp ≤ last_stamp before) before → StampsRise entries
rise_after x entries before [] follows is rise low = subst StampsRise (sym (is ∙ append-nil before)) rise
rise_after x entries before (e ∷ after) follows is rise low =
    let above : last_stamp before < e.stamp = stamp_above x before e.event e.stamp e.number (follows before after e is) in
    let last : last_stamp (before ++ e ∷ []) ≡ e.stamp = last_push before e in
    rise_after x entries (before ++ e ∷ []) after follows (is ∙ sym (append_assoc before (e ∷ []) after))
    (all_pairs_push (λ (d f : Entry). d.stamp < f.stamp) before e rise (λ k d within. omega (arith, low k d within)))
    (All-push (λ (f : Entry). f.stamp ≤ last_stamp (before ++ e ∷ [])) before e
    (All-weaker (λ (f : Entry). f.stamp ≤ last_stamp before) (λ (f : Entry). f.stamp ≤ last_stamp (before ++ e ∷ [])) (λ f less. omega arith) before low)
    (omega arith))

-- from the start
pub local_rise : LocalStampsRise
local_rise x role entries local =
    rise_after x entries [] entries local.follows refl (λ i j d less within. absurd (omega (arith, within))) (All-nil (λ (f : Entry). f.stamp ≤ 0))
