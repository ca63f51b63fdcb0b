-- What a torn write of a body, and of a gate, leaves of a journal.
use Rattle.std.proofs.Common.{◌≡◌, ℕ, zero, suc, ◌+◌, ◌*◌, ◌<◌, ◌≤◌, ◌⊎◌, inl, inr, Some, List, [], ◌∷◌, ◌++◌, length, refl, sym, ap, ◌∙◌, subst, arith, All}
use Rattle.std.specs.Prelude.{slice_get, slice_index}
use Rattle.std.proofs.lemmas.Bool.{cases_eq, cases_lt}
use Rattle.std.proofs.lemmas.List.{length-append}
use Rattle.std.proofs.lemmas.List.Elements.{All-push}
use Rattle.std.proofs.lemmas.Option.{get_or_from_slice_get, same_Some, slice_get_within}
use Rattle.role_journal.specs.Image.{HasBytes, IsTorn}
use Rattle.role_journal.specs.Journal.{HoldsBodies, IsOpen, gate_of, places}

-- a place lies within its disk
pub place_within : (size place : ℕ) → place < places size → 562 * place + 562 ≤ size
place_within size place among = omega arith

-- the last item of a longer list, or an earlier one
item_cases : {X : Type 0} (xs : List X) (x : X) (k : ℕ) (y : X) → slice_get (xs ++ x ∷ []) k ≡ Some y → ((k ≡ length xs) × (x ≡ y)) ⊎ ((k < length xs) × (slice_get xs k ≡ Some y))
item_cases [] x zero y at = inl (refl, same_Some x y at)
item_cases [] x (suc k) y at = absurd (cc)
item_cases (z ∷ xs) x zero y at = inr (omega arith, at)
item_cases (z ∷ xs) x (suc k) y at = elim (item_cases xs x k y at) [
  | inl last ↦ inl (omega (arith, last.0), last.1)
  | inr early ↦ inr (omega (arith, early.0), early.1)
]

-- each body has its size
size_at : (bodies : List (List ℕ)) (k : ℕ) (body : List ℕ) → All (λ b. length b ≡ 561) bodies → slice_get bodies k ≡ Some body → length body ≡ 561
size_at bodies k body whole at = sym (ap length (get_or_from_slice_get bodies k body body at)) ∙ whole k body (slice_get_within bodies k body at)

module _ (bodies : List (List ℕ)) (d c : List ℕ) (holds : HoldsBodies bodies d) (size : length c ≡ length d) where
  -- an image of the same size has as many places
  few : length bodies ≤ places (length c)
  few = subst (λ (n : ℕ). length bodies ≤ places n) (sym size) holds.few

  -- a body that is left as it was
  body_stays : (place : ℕ) (body : List ℕ) → slice_get bodies place ≡ Some body → ((k : ℕ) → k < 561 → slice_index c (562 * place + 1 + k) ≡ slice_index d (562 * place + 1 + k)) → HasBytes c (gate_of place + 1) body
  body_stays place body at same = λ k small. same k (omega (arith, small, size_at bodies place body holds.whole at)) ∙ holds.bodies_are place body at k small

  -- a gate that is left as it was
  gate_stays : (place : ℕ) → length bodies ≤ place → place < places (length c) → slice_index c (562 * place) ≡ slice_index d (562 * place) → ¬ IsOpen c place
  gate_stays place past among same is = holds.closed place past (subst (λ (n : ℕ). place < places n) size among) (sym same ∙ is)

-- a body that is torn behind its closed gate leaves the journal
pub body_torn : (bodies : List (List ℕ)) (n : ℕ) (d c : List ℕ) → n ≡ length bodies → HoldsBodies bodies d → IsTorn (562 * n + 1) 561 d c → HoldsBodies bodies c
body_torn bodies n d c counts holds torn = record {
  few = few bodies d c holds torn.size;
  whole = holds.whole;
  opened = λ place early. torn.below (562 * place) (omega (arith, early, counts)) ∙ holds.opened place early;
  bodies_are = λ place body at.
      let early = slice_get_within bodies place body at in
      body_stays bodies d c holds torn.size place body at (λ k small. torn.below (562 * place + 1 + k) (omega (arith, early, small, counts)));
  closed = λ place past among. gate_stays bodies d c holds torn.size place past among (elim (cases_lt n place) [
    | inl later ↦ torn.above (562 * place) (omega (arith, later))
    | inr here ↦ torn.below (562 * place) (omega (arith, here))
  ]);
}

-- a gate that stays closed leaves the journal
gate_shut : (bodies : List (List ℕ)) (n : ℕ) (d c : List ℕ) → n ≡ length bodies → HoldsBodies bodies d → IsTorn (562 * n) 1 d c → ¬ IsOpen c n → HoldsBodies bodies c
gate_shut bodies n d c counts holds torn shut = record {
  few = few bodies d c holds torn.size;
  whole = holds.whole;
  opened = λ place early. torn.below (562 * place) (omega (arith, early, counts)) ∙ holds.opened place early;
  bodies_are = λ place body at.
      let early = slice_get_within bodies place body at in
      body_stays bodies d c holds torn.size place body at (λ k small. torn.below (562 * place + 1 + k) (omega (arith, early, small, counts)));
  closed = λ place past among. elim (cases_lt n place) [
    | inl later ↦ gate_stays bodies d c holds torn.size place past among (torn.above (562 * place) (omega (arith, later)))
    | inr here ↦ let at : place ≡ n = omega (arith, past, here, counts) in λ is. shut (sym (ap (λ (p : ℕ). slice_index c (562 * p)) at) ∙ is)
  ];
}

-- a gate that is open adds the body behind it
gate_opened : (bodies : List (List ℕ)) (body : List ℕ) (n : ℕ) (d c : List ℕ) → n ≡ length bodies → HoldsBodies bodies d → length body ≡ 561 → HasBytes d (562 * n + 1) body → n < places (length d) → IsTorn (562 * n) 1 d c → IsOpen c n → HoldsBodies (bodies ++ body ∷ []) c
gate_opened bodies body n d c counts holds size has room torn is_open =
    let more : length (bodies ++ body ∷ []) ≡ length bodies + 1 = length-append bodies (body ∷ []) in
    record {
      few = let among : n < places (length c) = subst (λ (k : ℕ). n < places k) (sym torn.size) room in omega (arith, among, more, counts);
      whole = All-push (λ b. length b ≡ 561) bodies body holds.whole size;
      opened = λ place early. elim (cases_lt place n) [
        | inl before ↦ torn.below (562 * place) (omega (arith, before)) ∙ holds.opened place (omega (arith, before, counts))
        | inr last ↦ let at : place ≡ n = omega (arith, last, early, more, counts) in ap (λ (p : ℕ). slice_index c (562 * p)) at ∙ is_open
      ];
      bodies_are = λ place b at. elim (item_cases bodies body place b at) [
        | inl last ↦ subst (λ (e : List ℕ). HasBytes c (gate_of place + 1) e) last.1 (λ k small.
            let here : place ≡ n = last.0 ∙ sym counts in
            torn.above (562 * place + 1 + k) (omega (arith, here)) ∙ ap (λ (p : ℕ). slice_index d (562 * p + 1 + k)) here ∙ has k small)
        | inr early ↦ body_stays bodies d c holds torn.size place b early.1 (λ k small. torn.below (562 * place + 1 + k) (omega (arith, early.0, small, counts)))
      ];
      closed = λ place past among. gate_stays bodies d c holds torn.size place (omega (arith, past, more)) among (torn.above (562 * place) (omega (arith, past, more, counts)));
    }

-- a gate that is torn in front of a whole body is open or it is not
pub gate_torn : (bodies : List (List ℕ)) (body : List ℕ) (n : ℕ) (d c : List ℕ) → n ≡ length bodies → HoldsBodies bodies d → length body ≡ 561 → HasBytes d (562 * n + 1) body → n < places (length d) → IsTorn (562 * n) 1 d c → HoldsBodies bodies c ⊎ HoldsBodies (bodies ++ body ∷ []) c
gate_torn bodies body n d c counts holds size has room torn = elim (cases_eq (slice_index c (562 * n)) 1) [
  | inl is_open ↦ inr (gate_opened bodies body n d c counts holds size has room torn is_open)
  | inr shut ↦ inl (gate_shut bodies n d c counts holds torn shut)
]

-- and once it is written it is open
pub gate_written : (bodies : List (List ℕ)) (body : List ℕ) (n : ℕ) (d c : List ℕ) → n ≡ length bodies → HoldsBodies bodies d → length body ≡ 561 → HasBytes d (562 * n + 1) body → n < places (length d) → IsTorn (562 * n) 1 d c → HasBytes c (562 * n) (1 ∷ []) → HoldsBodies (bodies ++ body ∷ []) c
gate_written bodies body n d c counts holds size has room torn gate = gate_opened bodies body n d c counts holds size has room torn (ap (λ (i : ℕ). slice_index c i) (let e : 562 * n ≡ 562 * n + 0 = omega arith in e) ∙ gate 0 (omega arith))
