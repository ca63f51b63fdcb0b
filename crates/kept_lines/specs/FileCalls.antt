-- The calls on a file.
use Rattle.std.specs.Prelude.{◌≡◌, ◌⊎◌, ℕ, Bool, true, false, if◌then◌else◌, List, ◌∷◌, Option}
use Rattle.std.specs.Option.{option_map}

-- the file is cut off at an offset, and synced; bytes are written at an offset; what was written is
-- synced; each with whether the call succeeded
pub data FileCall : Type 0 where
  Cut : ℕ → Bool → FileCall
  Write : ℕ → List ℕ → Bool → FileCall
  Sync : Bool → FileCall

-- the calls with one more, if they are known
abbrev pub noted : Option (List FileCall) → FileCall → Option (List FileCall)
noted calls call = option_map (λ (earlier : List FileCall). call ∷ earlier) calls

-- the calls with a write that succeeded, and with a sync after it if writes are to be synced
abbrev pub stored : Option (List FileCall) → Bool → ℕ → List ℕ → Option (List FileCall)
stored calls syncs at bytes =
    if syncs then noted (noted calls (Write at bytes true)) (Sync true)
    else noted calls (Write at bytes true)

-- the calls with a write that failed, or with one that succeeded and a sync after it that failed
abbrev pub FailsToStore : Option (List FileCall) → Option (List FileCall) → ℕ → List ℕ → Type 0
FailsToStore calls after at bytes =
    (after ≡ noted calls (Write at bytes false)) ⊎
    (after ≡ noted (noted calls (Write at bytes true)) (Sync false))
