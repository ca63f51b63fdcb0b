-- The last end of a name is the end of the longest prefix that is accepted.
use Rattle.std.proofs.Common.{◌≡◌, ℕ, zero, suc, ◌+◌, ◌<◌, Bool, true, false, cond, List, [], ◌∷◌, length, take, Option, Some, None, ◌⊎◌, inl, inr, refl, ap, ◌∙◌, arith}
use Rattle.std.specs.Option.{option_map_or}
use Rattle.bspl_parser.specs.declared.name_length.State.{State}
use Rattle.bspl_parser.specs.declared.name_length.State.TheVariants.{Start}
use Rattle.bspl_parser.specs.inner.NameLength.{next_state, is_final, last_end, name_len}
use Rattle.bspl_parser.proofs.NameLengthLemmas.{accepts}

-- no prefix but perhaps the empty one is accepted
abbrev pub NoPrefix : State → List ℕ → Type 0
NoPrefix s bytes = (k : ℕ) → k < length bytes → accepts s (take (suc k) bytes) ≡ false

-- the prefix of one byte more than that is accepted, and no longer one is
pub record LongestPrefix (s : State) (bytes : List ℕ) (k : ℕ) : Type 0 where
  pub within : k < length bytes
  pub accepted : accepts s (take (suc k) bytes) ≡ true
  pub longest : (j : ℕ) → k < j → j < length bytes → accepts s (take (suc j) bytes) ≡ false

-- what the last end may be
abbrev Ends : State → ℕ → ℕ → List ℕ → ℕ → Type 0
Ends s found offset bytes end = ((end ≡ found) × NoPrefix s bytes) ⊎ ((k : ℕ) × (end ≡ offset + suc k) × LongestPrefix s bytes k)

-- if the next byte leads nowhere no prefix is accepted
dead : (s : State) (b : ℕ) (bs : List ℕ) → next_state s b ≡ None → NoPrefix s (b ∷ bs)
dead s b bs none k within = ap (λ o. option_map_or (λ next. accepts next (take k bs)) o false) none

-- a prefix that has the first byte
led : (s next : State) (b : ℕ) (bs : List ℕ) → next_state s b ≡ Some next → (k : ℕ) → accepts s (take (suc k) (b ∷ bs)) ≡ accepts next (take k bs)
led s next b bs leads k = ap (λ o. option_map_or (λ n. accepts n (take k bs)) o false) leads

-- after the first byte no prefix is accepted, or a longest one
following : (s next : State) (found offset b : ℕ) (bs : List ℕ) (end : ℕ) → next_state s b ≡ Some next → (final : Bool) → is_final next ≡ final → Ends next (cond final (offset + 1) found) (offset + 1) bs end → Ends s found offset (b ∷ bs) end
following s next found offset b bs end leads true final (inl none) =
    inr (
      0,
      none.0 ∙ (omega arith),
      record {
        within = omega arith;
        accepted = led s next b bs leads 0 ∙ final;
        longest = λ j after within. later j after within;
      },
    )
  where
    later : (j : ℕ) → 0 < j → j < length (b ∷ bs) → accepts s (take (suc j) (b ∷ bs)) ≡ false
    later zero after within = absurd (omega arith)
    later (suc j) after within = led s next b bs leads (suc j) ∙ none.1 j (omega arith)
following s next found offset b bs end leads false final (inl none) = inl (none.0, none_at)
  where
    none_at : (k : ℕ) → k < length (b ∷ bs) → accepts s (take (suc k) (b ∷ bs)) ≡ false
    none_at zero within = led s next b bs leads 0 ∙ final
    none_at (suc k) within = led s next b bs leads (suc k) ∙ none.1 k (omega arith)
following s next found offset b bs end leads f final (inr some) =
    let prefix = some.2 in
    inr (
      suc some.0,
      some.1 ∙ (omega arith),
      record {
        within = (let within = prefix.within in omega arith);
        accepted = led s next b bs leads (suc some.0) ∙ prefix.accepted;
        longest = later;
      },
    )
  where
    later : (j : ℕ) → suc some.0 < j → j < length (b ∷ bs) → accepts s (take (suc j) (b ∷ bs)) ≡ false
    later zero after within = absurd (omega arith)
    later (suc j) after within = led s next b bs leads (suc j) ∙ some.2.longest j (omega arith) (omega arith)

led_by : (s : State) (found offset b : ℕ) (bs : List ℕ) → ((next : State) (found offset : ℕ) → Ends next found offset bs (last_end next found offset bs)) → (o : Option State) → next_state s b ≡ o → Ends s found offset (b ∷ bs) (option_map_or (λ next. last_end next (cond (is_final next) (offset + 1) found) (offset + 1) bs) o found)
led_by s found offset b bs ends None none = inl (refl, dead s b bs none)
led_by s found offset b bs ends (Some next) leads = following s next found offset b bs _ leads (is_final next) refl (ends next (cond (is_final next) (offset + 1) found) (offset + 1))

last_end_is : (s : State) (found offset : ℕ) (bytes : List ℕ) → Ends s found offset bytes (last_end s found offset bytes)
last_end_is s found offset [] = inl (refl, λ k within. absurd (omega arith))
last_end_is s found offset (b ∷ bs) = led_by s found offset b bs (λ next found offset. last_end_is next found offset bs) (next_state s b) refl

-- no name, nor a reserved word, begins there
pub no_name_there : (bytes : List ℕ) → name_len bytes ≡ 0 → NoPrefix Start bytes
unfolding name_len
no_name_there bytes none =
    elim (last_end_is Start 0 0 bytes) [
      | inl nothing ↦ nothing.1
      | inr some ↦ (let end = some.1 in absurd (omega arith))
    ]

-- or the longest one ends there
pub longest_name : (bytes : List ℕ) → 0 < name_len bytes → (k : ℕ) × (name_len bytes ≡ suc k) × LongestPrefix Start bytes k
unfolding name_len
longest_name bytes some =
    elim (last_end_is Start 0 0 bytes) [
      | inl nothing ↦ (let end = nothing.0 in absurd (omega arith))
      | inr found ↦ (found.0, found.1 ∙ (omega arith), found.2)
    ]
