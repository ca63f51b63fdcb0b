-- Copies of 0.
use Rattle.std.proofs.Common.{◌≡◌, ℕ, List, replicate, refl, sym, subst}
use Rattle.std.specs.Prelude.{All}
use Rattle.std.proofs.lemmas.List.Elements.{All-replicate}

-- a list of copies of 0 has no other byte
pub copies_of_zero : (zeros : List ℕ) (count : ℕ) → zeros ≡ replicate count 0
    → All (λ byte. byte ≡ 0) zeros
copies_of_zero zeros count are =
    let P : List ℕ → Type 0 = λ bytes. All (λ byte. byte ≡ 0) bytes in
    subst P (sym are) (All-replicate (λ (byte : ℕ). byte ≡ 0) count 0 refl)
