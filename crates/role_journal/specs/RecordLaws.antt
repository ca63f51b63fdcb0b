-- What is true of every record: the laws of a disk.
use Rattle.std.specs.Prelude.{◌≡◌, ℕ, ◌+◌, ◌<◌, ◌≤◌, ◌⊎◌, true, false, suc, zero}
use Rattle.std.specs.Prelude.{List, [], ◌∷◌, fold, length, slice_index}
use Rattle.std.proofs.Common.{refl, subst, sym, ◌∙◌, ap, arith, inl, inr}
use Rattle.std.proofs.lemmas.List.{take_all}
use Rattle.role_journal.specs.declared.recording.Call.{Call}
use Rattle.role_journal.specs.declared.recording.Call.TheVariants.{Sync, Write}
use Rattle.role_journal.specs.Recording.{Content, IsOutside, Range, Record, Suits, SuitsSince}
use Rattle.role_journal.specs.Recording.{content_after, content_of, loosened, patched}

-- bytes that are put into an image leave its size
pub length-patched : (image : List ℕ) (at : ℕ) (bytes : List ℕ)
    → length (patched image at bytes) ≡ length image
length-patched [] at bytes = refl
length-patched (old ∷ image) zero [] = refl
length-patched (old ∷ image) zero (new ∷ bytes) =
    ap (λ (n : ℕ). suc n) (length-patched image 0 bytes)
length-patched (old ∷ image) (suc at) bytes =
    ap (λ (n : ℕ). suc n) (length-patched image at bytes)

-- they leave what is below
pub patched_below : (image : List ℕ) (at : ℕ) (bytes : List ℕ) (i : ℕ)
    → i < at → slice_index (patched image at bytes) i ≡ slice_index image i
patched_below [] at bytes i below = refl
patched_below (old ∷ image) zero bytes i below = absurd (omega arith)
patched_below (old ∷ image) (suc at) bytes zero below = refl
patched_below (old ∷ image) (suc at) bytes (suc i) below =
    patched_below image at bytes i (omega arith)

-- and what is above
pub patched_above : (image : List ℕ) (at : ℕ) (bytes : List ℕ) (i : ℕ)
    → at + length bytes ≤ i → slice_index (patched image at bytes) i ≡ slice_index image i
patched_above [] at bytes i above = refl
patched_above (old ∷ image) zero [] i above = refl
patched_above (old ∷ image) zero (new ∷ bytes) zero above = absurd (omega arith)
patched_above (old ∷ image) zero (new ∷ bytes) (suc i) above =
    patched_above image 0 bytes i (omega arith)
patched_above (old ∷ image) (suc at) bytes zero above = absurd (omega arith)
patched_above (old ∷ image) (suc at) bytes (suc i) above =
    patched_above image at bytes i (omega arith)

-- outside the range nothing changes
pub patched_outside : (image : List ℕ) (at : ℕ) (bytes : List ℕ) (i : ℕ)
    → (i < at) ⊎ (at + length bytes ≤ i)
    → slice_index (patched image at bytes) i ≡ slice_index image i
patched_outside image at bytes i (inl below) = patched_below image at bytes i below
patched_outside image at bytes i (inr above) = patched_above image at bytes i above

-- what is seen is what was settled, but for the unsettled ranges
abbrev pub AgreesOutside : Content → List Range → Type 0
AgreesOutside c ranges =
    (i : ℕ) → IsOutside ranges i → slice_index c.seen i ≡ slice_index c.settled i

-- so it is after one more call
agrees_after : (c : Content) (ranges : List Range) (call : Call)
    → AgreesOutside c ranges → AgreesOutside (content_after c call) (loosened ranges call)
agrees_after c ranges (Write at bytes true) agrees = λ i outside.
    patched_outside c.seen at bytes i outside.0 ∙ agrees i outside.1
agrees_after c ranges (Write at bytes false) agrees = λ i outside. agrees i outside.1
agrees_after c ranges (Sync true) agrees = λ i outside. refl
agrees_after c ranges (Sync false) agrees = agrees

-- and after all of them
pub agrees_after_all : (c : Content) (ranges : List Range) (calls : List Call)
    → AgreesOutside c ranges
    → AgreesOutside (fold content_after c calls) (fold loosened ranges calls)
agrees_after_all c ranges [] agrees = agrees
agrees_after_all c ranges (call ∷ calls) agrees =
    agrees_after_all (content_after c call) (loosened ranges call) calls
    (agrees_after c ranges call agrees)

-- both contents keep their size
pub record HasSize (size : ℕ) (c : Content) : Type 0 where
  pub seen : length c.seen ≡ size
  pub settled : length c.settled ≡ size

size_after : (size : ℕ) (c : Content) (call : Call)
    → HasSize size c → HasSize size (content_after c call)
size_after size c (Write at bytes true) sized =
    record { seen = length-patched c.seen at bytes ∙ sized.seen; settled = sized.settled }
size_after size c (Write at bytes false) sized = sized
size_after size c (Sync true) sized = record { seen = sized.seen; settled = sized.seen }
size_after size c (Sync false) sized = sized

size_after_all : (size : ℕ) (c : Content) (calls : List Call)
    → HasSize size c → HasSize size (fold content_after c calls)
size_after_all size c [] sized = sized
size_after_all size c (call ∷ calls) sized =
    size_after_all size (content_after c call) calls (size_after size c call sized)

pub sized : (r : Record) → HasSize (length r.base) (content_of r)
sized r =
    size_after_all (length r.base) (record { seen = r.base; settled = r.base }) r.calls
    (record { seen = refl; settled = refl })

-- what a read gives, a crash may leave
pub seen_suits : (r : Record) → Suits r (content_of r).seen
seen_suits r = record {
  size = (sized r).seen;
  settled = agrees_after_all (record { seen = r.base; settled = r.base }) [] r.calls (λ i _. refl);
}

-- what a crash may leave now, one since an earlier moment may have left
pub suits_now : (r : Record) (from : ℕ) (image : List ℕ)
    → from ≤ length r.calls → Suits r image → SuitsSince r from image
suits_now r from image late suits = record {
  count = length r.calls;
  late = late;
  within = omega arith;
  suits = subst (λ (calls : List Call). Suits (record { base = r.base; calls = calls }) image)
      (sym (take_all (length r.calls) r.calls (omega arith))) suits;
}

-- since the last call there is the present alone
pub only_present : (r : Record) (image : List ℕ)
    → SuitsSince r (length r.calls) image → Suits r image
only_present r image since =
    subst (λ (calls : List Call). Suits (record { base = r.base; calls = calls }) image)
    (take_all since.count r.calls (omega (arith, since.late, since.within))) since.suits
