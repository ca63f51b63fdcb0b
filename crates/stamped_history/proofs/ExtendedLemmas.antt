-- One entry more leaves the other receipts explained.
use Rattle.std.proofs.Common.{◌≡◌, ℕ, ◌<◌, ◌⊎◌, inl, inr, Some, List, [], ◌∷◌, ◌++◌, length, refl, sym, ap, ◌∙◌, subst, arith}
use Rattle.std.specs.Prelude.{slice_get}
use Rattle.std.proofs.lemmas.Bool.{cases_eq, cases_lt}
use Rattle.std.proofs.lemmas.List.{get_or_append_left, get_or-set_other, get_or-set_same, length-append, set_past}
use Rattle.std.proofs.lemmas.Option.{get_or_from_slice_get, slice_get-get_or, slice_get_within}
use Rattle.bspl_types.specs.declared.event.Event.TheVariants.{Receive}
use Rattle.bspl_types.specs.declared.event.Instance.{Instance}
use Rattle.bspl_types.specs.declared.expanded.Expanded.{Expanded}
use Rattle.bspl_types.specs.Expansion.{message_of}
use Rattle.stamped_history.specs.declared.entry.Entry.{Entry}
use Rattle.stamped_history.specs.Explained.{AreExplained, history_at, IsExplained}
use Rattle.stamped_history.specs.Extended.{EmissionKeepsExplained, extended, ReceiptKeepsExplained}

-- the parts of a list with one item more: the item is that one, or one of the list
end_or_before : {X : Type 0} (xs before after : List X) (x y : X) → xs ++ x ∷ [] ≡ before ++ y ∷ after → ((xs ≡ before) × (x ≡ y)) ⊎ ((rest : List X) × (xs ≡ before ++ y ∷ rest))
end_or_before [] [] after x y is = inl (refl, (cc))
end_or_before [] (b ∷ before) after x y is = absurd (omega (arith, ap length is, length-append before (y ∷ after)))
end_or_before (a ∷ xs) [] after x y is = let same : a ≡ y = cc in inr (xs, ap (λ z. z ∷ xs) same)
end_or_before {X} (a ∷ xs) (b ∷ before) after x y is =
    let same : a ≡ b = cc in
    let tail : xs ++ x ∷ [] ≡ before ++ y ∷ after = cc in
    elim (end_or_before xs before after x y tail) [
      | inl last ↦ inl (let rest = last.0 in (cc), last.1)
      | inr early ↦ inr (early.0, let rest = early.1 in (cc))
    ]

-- the role's history has one entry more, if there is one, and the others are as they were
history_cases : (histories : List (List Entry)) (role : ℕ) (e : Entry) (other : ℕ) → ((role ≡ other) × (history_at (extended histories role e) other ≡ history_at histories other ++ e ∷ [])) ⊎ (history_at (extended histories role e) other ≡ history_at histories other)
history_cases histories role e other = elim (cases_lt role (length histories)) [
  | inl within ↦ elim (cases_eq other role) [
    | inl same ↦ inl (sym same, subst (λ r. history_at (extended histories role e) r ≡ history_at histories r ++ e ∷ []) (sym same) (get_or-set_same histories role (history_at histories role ++ e ∷ []) [] within))
    | inr differs ↦ inr (get_or-set_other histories role other (history_at histories role ++ e ∷ []) [] differs)
  ]
  | inr past ↦ inr (ap (λ hs. history_at hs other) (set_past histories role (history_at histories role ++ e ∷ []) past))
]

-- an entry keeps its index
entry_kept : (histories : List (List Entry)) (role : ℕ) (e : Entry) (other k : ℕ) (f : Entry) → slice_get (history_at histories other) k ≡ Some f → slice_get (history_at (extended histories role e) other) k ≡ Some f
entry_kept histories role e other k f at = elim (history_cases histories role e other) [
  | inl longer ↦
      let within : k < length (history_at histories other) = slice_get_within (history_at histories other) k f at in
      subst (λ h. slice_get h k ≡ Some f) (sym longer.1)
      (slice_get-get_or (history_at histories other ++ e ∷ []) k f (omega (arith, length-append (history_at histories other) (e ∷ [])))
      ∙ ap Some (get_or_append_left (history_at histories other) (e ∷ []) f k within ∙ get_or_from_slice_get (history_at histories other) k f f at))
  | inr same ↦ subst (λ h. slice_get h k ≡ Some f) (sym same) at
]

-- a receipt stays explained
stays : (x : Expanded) (histories : List (List Entry)) (role : ℕ) (e : Entry) (before : List Entry) (i : Instance) (receipt : Entry) → IsExplained x histories before i receipt → IsExplained x (extended histories role e) before i receipt
stays x histories role e before i receipt by =
    record {
      emission = by.emission;
      numbered = entry_kept histories role e (message_of x i.message).sender receipt.number by.emission by.numbered;
      emitted = by.emitted;
      stamped = by.stamped;
    }

-- all receipts are explained if the new entry is, where it is a receipt
all_stay : (x : Expanded) (histories : List (List Entry)) (role : ℕ) (e : Entry) → AreExplained x histories → ((i : Instance) → e.event ≡ Receive i → IsExplained x histories (history_at histories role) i e) → AreExplained x (extended histories role e)
all_stay x histories role e explained new other before after f i is received = elim (history_cases histories role e other) [
  | inl longer ↦ elim (end_or_before (history_at histories other) before after e f (sym longer.1 ∙ is)) [
    | inl last ↦
        let by = new i (ap (λ (g : Entry). g.event) last.1 ∙ received) in
        let before_is : history_at histories role ≡ before = ap (history_at histories) longer.0 ∙ last.0 in
        stays x histories role e before i f (subst (λ h. IsExplained x histories h i f) before_is (subst (λ g. IsExplained x histories (history_at histories role) i g) last.1 by))
    | inr early ↦ stays x histories role e before i f (explained other before early.0 f i early.1 received)
  ]
  | inr same ↦ stays x histories role e before i f (explained other before after f i (sym same ∙ is) received)
]

-- an emission is no receipt
pub emission_keeps : EmissionKeepsExplained
emission_keeps x histories role e i explained emitted =
    all_stay x histories role e explained (λ j received. absurd (cc))

-- one receipt has one instance
pub receipt_keeps : ReceiptKeepsExplained
receipt_keeps x histories role e i explained received by =
    all_stay x histories role e explained (λ j also. let same : i ≡ j = cc in subst (λ k. IsExplained x histories (history_at histories role) k e) same by)
