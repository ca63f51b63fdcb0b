-- A word is its text and its offset.
use Rattle.std.proofs.Common.{◌≡◌, ℕ, List, ap, subst}
use Rattle.std.specs.Prelude.{IsTrue}
use mathlib.Core.Bool.{Bool-set}
use Rattle.bspl_types.specs.Name.{is_name}
use Rattle.bspl_parser.specs.declared.word.Word.{Word}

-- there is one proof that a text is a name
one_proof : (text : List ℕ) (p q : IsTrue (is_name text)) → p ≡ q
one_proof text p q = let prop : IsProp (IsTrue (is_name text)) = hlevel Bool-set in prop p q

-- a word at an equal offset
at_offset : (v : Word) (o : ℕ) → v.offset ≡ o → (p : IsTrue (is_name v.text)) → v ≡ record { text = v.text; offset = o; named = p }
at_offset v o e = subst (λ (o : ℕ). (p : IsTrue (is_name v.text)) → v ≡ record { text = v.text; offset = o; named = p }) e (λ p. ap (λ (n : IsTrue (is_name v.text)). record { text = v.text; offset = v.offset; named = n }) (one_proof v.text v.named p))

-- words of one text and one offset are one
pub Word_same : (v w : Word) → v.text ≡ w.text → v.offset ≡ w.offset → v ≡ w
Word_same v w same_text same_offset =
    subst (λ (t : List ℕ). (p : IsTrue (is_name t)) → v ≡ record { text = t; offset = w.offset; named = p }) same_text (at_offset v w.offset same_offset) w.named
