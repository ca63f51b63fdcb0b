-- What a crash leaves while an entry is appended to a journal.
use Rattle.std.proofs.Common.{◌≡◌, ℕ, ◌+◌, ◌*◌, ◌<◌, inl, inr, List, [], ◌∷◌, ◌++◌, length, map, sym, ap, ◌∙◌, subst}
use Rattle.std.proofs.lemmas.List.{length-map, map-append}
use Rattle.stamped_history.specs.declared.entry.Entry.{Entry}
use Rattle.role_journal.specs.Crash.{Leaves, LeavesTorn}
use Rattle.role_journal.specs.EntryBody.{entry_body}
use Rattle.role_journal.specs.Image.{HasBytes, IsTorn}
use Rattle.role_journal.specs.Journal.{HoldsBodies, IsBeforeOrAfter, IsJournal, places}
use Rattle.role_journal.proofs.PlaceLemmas.{body_torn, gate_torn, gate_written}

module _ (entries : List Entry) (entry : Entry) (n gate : ℕ) (body : List ℕ) (counts : n ≡ length entries) (at : gate ≡ 562 * n) (is : body ≡ entry_body entry) (whole : length body ≡ 561) where
  -- as many bodies as entries
  bodies_count : n ≡ length (map entry_body entries)
  bodies_count = counts ∙ sym (length-map entries entry_body)

  -- the bodies of one entry more
  bodies_more : map entry_body entries ++ body ∷ [] ≡ map entry_body (entries ++ entry ∷ [])
  bodies_more = ap (λ (b : List ℕ). map entry_body entries ++ b ∷ []) is ∙ sym (map-append entry_body entries (entry ∷ []))

  -- a torn body leaves the journal
  pub body_leaves : (d c : List ℕ) → IsJournal entries d → IsTorn (gate + 1) (length body) d c → IsJournal entries c
  body_leaves d c journal torn =
      body_torn (map entry_body entries) n d c bodies_count journal (subst (λ (k : ℕ). IsTorn (k + 1) 561 d c) at (subst (λ (k : ℕ). IsTorn (gate + 1) k d c) whole torn))

  -- while the body is written
  pub body_crash : (image : List ℕ) (old new : List ℕ → Type 0) → IsJournal entries image → Leaves image old → LeavesTorn (gate + 1) (length body) old new → (c : List ℕ) → new c → IsBeforeOrAfter entries entry c
  body_crash image old new journal only torn c left =
      let from = torn c left in
      inl (body_leaves image c journal (subst (λ (d : List ℕ). IsTorn (gate + 1) (length body) d c) (only from.0 from.1) from.2))

  -- the body at its place
  body_there : (d : List ℕ) → HasBytes d (gate + 1) body → HasBytes d (562 * n + 1) body
  body_there d has = subst (λ (k : ℕ). HasBytes d (k + 1) body) at has

  -- while the gate is written
  pub gate_crash : (image : List ℕ) (old new : List ℕ → Type 0) → IsJournal entries image → HasBytes image (gate + 1) body → n < places (length image) → Leaves image old → LeavesTorn gate 1 old new → (c : List ℕ) → new c → IsBeforeOrAfter entries entry c
  gate_crash image old new journal has room only torn c left =
      let from = torn c left in
      let one : IsTorn (562 * n) 1 image c = subst (λ (k : ℕ). IsTorn k 1 image c) at (subst (λ (d : List ℕ). IsTorn gate 1 d c) (only from.0 from.1) from.2) in
      elim (gate_torn (map entry_body entries) body n image c bodies_count journal whole (body_there image has) room one) [
        | inl before ↦ inl before
        | inr after ↦ inr (subst (λ (bodies : List (List ℕ)). HoldsBodies bodies c) bodies_more after)
      ]

  -- once it is written
  pub gate_done : (image c : List ℕ) → IsJournal entries image → HasBytes image (gate + 1) body → n < places (length image) → IsTorn gate 1 image c → HasBytes c gate (1 ∷ []) → IsJournal (entries ++ entry ∷ []) c
  gate_done image c journal has room torn opened =
      subst (λ (bodies : List (List ℕ)). HoldsBodies bodies c) bodies_more
      (gate_written (map entry_body entries) body n image c bodies_count journal whole (body_there image has) room
      (subst (λ (k : ℕ). IsTorn k 1 image c) at torn) (subst (λ (k : ℕ). HasBytes c k (1 ∷ [])) at opened))
