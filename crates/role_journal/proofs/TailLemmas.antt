-- What lies behind the last place while an entry is appended.
use Rattle.std.proofs.Common.{◌≡◌, ℕ, ◌+◌, ◌*◌, ◌<◌, ◌≤◌, List, length, sym, ap, ◌∙◌, subst, arith}
use Rattle.std.specs.Prelude.{slice_index}
use Rattle.role_journal.specs.Image.{IsTorn}
use Rattle.role_journal.specs.Journal.{HasSameTail, gate_of, places}

-- what is torn within a place leaves the tail
pub tail_torn : (n at count : ℕ) (old new : List ℕ) → n < places (length old) → at + count ≤ 562 * n + 562 → IsTorn at count old new → HasSameTail old new
tail_torn n at count old new room within torn = record {
  size = torn.size;
  tail = λ i past. torn.above i (omega (arith, room, within, past));
}

-- an image that stays has the same tail
pub tail_same : (old new : List ℕ) → new ≡ old → HasSameTail old new
tail_same old new same = record { size = ap length same; tail = λ i past. ap (λ (image : List ℕ). slice_index image i) same }

-- two changes that leave the tail
pub tail_join : (old mid new : List ℕ) → HasSameTail old mid → HasSameTail mid new → HasSameTail old new
tail_join old mid new first second = record {
  size = second.size ∙ first.size;
  tail = λ i past. second.tail i (subst (λ (n : ℕ). gate_of (places n) ≤ i) (sym first.size) past) ∙ first.tail i past;
}
