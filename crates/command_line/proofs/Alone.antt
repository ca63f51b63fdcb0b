-- Which part an argument alone is, as a function: an argument is one part at most.
use Rattle.std.proofs.Common.{◌≡◌, ℕ, false, cond, eqb, List, [], ◌∷◌, Option, Some, None, inl, inr, refl, codes}
use Rattle.std.specs.Str.{bytes_eq}
use Rattle.std.proofs.lemmas.Bool.{cases_Bool}
use Rattle.command_line.specs.Argument.{Argument, Brief, Conflicts, Threads, Positional, is_dashed, IsAlone, brief, conflicts_joined, threads_joined, positional}

-- what stands after the front of the text
abbrev pub after : List ℕ → List ℕ → Option (List ℕ)
after [] text = Some text
after (c ∷ front) [] = None
after (c ∷ front) (b ∷ text) = cond (eqb b c) (after front text) None

-- the part with that value, or else the other answer
abbrev pub joined : (List ℕ → Argument) → Option (List ℕ) → Option Argument → Option Argument
joined make (Some value) other = Some (make value)
joined make None other = other

-- the part that the argument alone is
abbrev pub alone_of : List ℕ → Option Argument
alone_of word = cond (bytes_eq word (codes "--brief")) (Some Brief)
    (joined Conflicts (after (codes "--conflicts=") word)
    (joined Threads (after (codes "--threads=") word)
    (cond (is_dashed word) None (Some (Positional word)))))

-- an argument that is no option is positional
plain_alone : (word : List ℕ) → is_dashed word ≡ false → alone_of word ≡ Some (Positional word)
plain_alone [] plain = refl
plain_alone (b ∷ []) plain = elim (cases_Bool (eqb b 45)) [ inl dash ↦ rw dash refl | inr other ↦ rw other refl ]
plain_alone (b ∷ c ∷ rest) plain = rw plain refl

-- the function finds the part
pub alone_found : {word : List ℕ} {part : Argument} → IsAlone word part → alone_of word ≡ Some part
alone_found brief = refl
alone_found (conflicts_joined value) = refl
alone_found (threads_joined value) = refl
alone_found (positional word plain) = plain_alone word plain

-- an argument that is no option is none of these
plain_other : (word : List ℕ) → is_dashed word ≡ false → (bytes_eq word (codes "--conflicts") ≡ false) × (bytes_eq word (codes "--threads") ≡ false)
plain_other [] plain = (refl, refl)
plain_other (b ∷ []) plain = elim (cases_Bool (eqb b 45)) [ inl dash ↦ (rw dash refl, rw dash refl) | inr other ↦ (rw other refl, rw other refl) ]
plain_other (b ∷ c ∷ rest) plain = (rw plain refl, rw plain refl)

-- an argument that is a part is no option that wants a value
pub alone_wants_none : {word : List ℕ} {part : Argument} → IsAlone word part → (bytes_eq word (codes "--conflicts") ≡ false) × (bytes_eq word (codes "--threads") ≡ false)
alone_wants_none brief = (refl, refl)
alone_wants_none (conflicts_joined value) = (refl, refl)
alone_wants_none (threads_joined value) = (refl, refl)
alone_wants_none (positional word plain) = plain_other word plain
