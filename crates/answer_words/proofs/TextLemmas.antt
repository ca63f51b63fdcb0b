-- Texts that were appended one after the other.
use Rattle.std.proofs.Common.{◌≡◌, ◌∙◌, ◌++◌, ℕ, List, [], ap, append_assoc}
use Rattle.std.proofs.lemmas.List.{append-nil}

-- parts after a text, one after the other, are one part after it
pub three_parts : (old a b c : List ℕ) → old ++ a ++ b ++ c ≡ old ++ (a ++ b ++ c)
three_parts old a b c = ap (λ (t : List ℕ). t ++ c) (append_assoc old a b) ∙ append_assoc old (a ++ b) c

pub four_parts : (old a b c d : List ℕ) → old ++ a ++ b ++ c ++ d ≡ old ++ (a ++ b ++ c ++ d)
four_parts old a b c d = ap (λ (t : List ℕ). t ++ d) (three_parts old a b c) ∙ append_assoc old (a ++ b ++ c) d

pub six_parts : (old a b c d e f : List ℕ) → old ++ a ++ b ++ c ++ d ++ e ++ f ≡ old ++ (a ++ b ++ c ++ d ++ e ++ f)
six_parts old a b c d e f =
    ap (λ (t : List ℕ). t ++ e ++ f) (four_parts old a b c d) ∙ three_parts old (a ++ b ++ c ++ d) e f

pub nine_parts : (old a b c d e f g h i : List ℕ) → old ++ a ++ b ++ c ++ d ++ e ++ f ++ g ++ h ++ i ≡ old ++ (a ++ b ++ c ++ d ++ e ++ f ++ g ++ h ++ i)
nine_parts old a b c d e f g h i =
    ap (λ (t : List ℕ). t ++ g ++ h ++ i) (six_parts old a b c d e f) ∙ four_parts old (a ++ b ++ c ++ d ++ e ++ f) g h i

pub five_parts : (old a b c d e : List ℕ) → old ++ a ++ b ++ c ++ d ++ e ≡ old ++ (a ++ b ++ c ++ d ++ e)
five_parts old a b c d e =
    ap (λ (t : List ℕ). t ++ e) (four_parts old a b c d) ∙ append_assoc old (a ++ b ++ c ++ d) e

-- three parts before two that are empty
pub nothing_after : (old a b c : List ℕ) → old ++ a ++ b ++ c ++ [] ++ [] ≡ old ++ (a ++ b ++ c)
nothing_after old a b c =
    append-nil (old ++ a ++ b ++ c ++ []) ∙ append-nil (old ++ a ++ b ++ c) ∙ three_parts old a b c

-- a sentence between its head and its end
pub said_appended : (old head said words tail a b new : List ℕ) → a ≡ old ++ head → b ≡ a ++ said → said ≡ words → new ≡ b ++ tail → new ≡ old ++ (head ++ words ++ tail)
said_appended old head said words tail a b new first second is third =
    third ∙ ap (λ (t : List ℕ). t ++ tail) (second ∙ ap (λ (t : List ℕ). a ++ t) is ∙ ap (λ (t : List ℕ). t ++ words) first) ∙ three_parts old head words tail
