-- A line of a text has no LF but the one at its end.
use Rattle.std.proofs.Common.{◌≡◌, ◌≢◌, ℕ, eqb, List, [], ◌∷◌, ◌++◌, get_or, drop, sym, ap, subst, inl, inr}
use Rattle.std.specs.List.{AllByRecursion, onto_first}
use Rattle.std.proofs.lemmas.Bool.{cases_Bool, cond-false, cond-true, eqb-false, eqb-true}
use Rattle.std.proofs.lemmas.List.Elements.{All-cons, All-nil}
use Rattle.list_base.proofs.Separators.{Lacks}
use Rattle.list_base.specs.Lines.{Line, lines_of}

-- before an LF at its end the line has no other
abbrev pub HasOneLf : Line → Type 0
HasOneLf line = (body : List ℕ) → line ≡ body ++ 10 ∷ [] → Lacks 10 body

-- no byte at all
no_byte : HasOneLf []
no_byte [] is = absurd cc
no_byte (b ∷ body) is = absurd cc

-- an LF alone
lf_alone : HasOneLf (10 ∷ [])
lf_alone [] is = All-nil (λ byte. byte ≢ 10)
lf_alone (b ∷ []) is = absurd cc
lf_alone (b ∷ (c ∷ body)) is = absurd cc

-- one byte more at the head, which is no LF
longer : (byte : ℕ) (line : Line) → byte ≢ 10 → HasOneLf line → HasOneLf (byte ∷ line)
longer byte line other one [] is = absurd (other (ap (λ l. get_or l 0 0) is))
longer byte line other one (b ∷ body) is =
    let same : byte ≡ b = ap (λ l. get_or l 0 0) is in
    All-cons (λ c. c ≢ 10) b body (subst (λ c. c ≢ 10) same other) (one body (ap (drop 1) is))

-- the same at the first line of some
first_longer : (byte : ℕ) (lines : List Line) → byte ≢ 10 → AllByRecursion HasOneLf lines → AllByRecursion HasOneLf (onto_first byte lines)
first_longer byte [] other ones = (longer byte [] other no_byte, tt)
first_longer byte (line ∷ lines) other ones = (longer byte line other ones.0, ones.1)

-- so each line of a text has one LF at most
pub lines_have_one : (text : List ℕ) → AllByRecursion HasOneLf (lines_of text)
lines_have_one [] = tt
lines_have_one (byte ∷ text) =
    let ones = lines_have_one text in
    elim (cases_Bool (eqb byte 10)) [
      | inl lf ↦ subst (AllByRecursion HasOneLf) (sym (cond-true (eqb byte 10) _ _ lf)) (subst (λ b. HasOneLf (b ∷ [])) (sym (eqb-true byte 10 lf)) lf_alone, ones)
      | inr other ↦ subst (AllByRecursion HasOneLf) (sym (cond-false (eqb byte 10) _ _ other)) (first_longer byte (lines_of text) (eqb-false byte 10 other) ones)
    ]

-- and each of the first ones
pub first_have_one : (lines later : List Line) → AllByRecursion HasOneLf (lines ++ later) → AllByRecursion HasOneLf lines
first_have_one [] later ones = tt
first_have_one (line ∷ lines) later ones = (ones.0, first_have_one lines later ones.1)
