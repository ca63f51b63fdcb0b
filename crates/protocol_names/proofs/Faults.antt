-- What the faults of names and adornments come to.
use Rattle.std.proofs.Common.{◌≡◌, ℕ, Bool, true, false, List, Option, Some, None, refl, sym, ◌∙◌, subst}
use Rattle.std.specs.Prelude.{◌↔◌, IsTrue, not}
use Rattle.std.specs.List.{Contains}
use Rattle.std.proofs.lemmas.Bool.{false≢true}
use Rattle.bspl_parser.specs.declared.document.Formal.{Formal}
use Rattle.bspl_parser.specs.declared.word.Word.{Word}
use Rattle.protocol_names.specs.declared.fault.DocumentFault.{DocumentFault}
use Rattle.protocol_names.specs.declared.fault.FaultKind.{FaultKind}
use Rattle.protocol_names.specs.declared.fault.FaultKind.TheVariants.{Unknown, ForeignKey}
use Rattle.protocol_names.specs.Fault.{IsForeignKey, foreign, IsUnknown}
use Rattle.protocol_names.specs.FaultOrder.{FindsFirst, FaultIf, holds, HasNone}
use Rattle.protocol_names.proofs.FaultOrderLemmas.{finds_same, holds_same}

-- what the negated test says
pub not_so : {P : Type 0} (b : Bool) → IsTrue b ↔ P → IsTrue (not b) → ¬ P
not_so true iff is = absurd (false≢true is)
not_so false iff is = λ p. false≢true (iff.1 p)

-- and the other way
pub so_not : {P : Type 0} (b : Bool) → IsTrue b ↔ P → ¬ P → IsTrue (not b)
so_not true iff never = absurd (never (iff.0 refl))
so_not false iff never = refl

-- a name is unknown where the test for it fails
pub unknown_found : (declared : List (List ℕ)) (w : Word) (known : Bool) (found : Option DocumentFault) → IsTrue known ↔ Contains declared w.text → FindsFirst (FaultIf (IsTrue (not known)) Unknown w.offset) found → FindsFirst (IsUnknown declared w) found
unknown_found declared w known found tests finds = holds_same (IsTrue (not known)) (¬ Contains declared w.text) Unknown w.offset found (not_so known tests) (so_not known tests) finds

-- without the word `key` there is no fault of it
pub no_key : (keys : List (List ℕ)) (f : Formal) → f.key ≡ None → HasNone (IsForeignKey keys f)
no_key keys f is kind offset (foreign offset_of_key key never) = let differ : None ≡ Some offset_of_key = sym is ∙ key in absurd (cc differ)

-- and with it there is one where the test for the key fails
pub foreign_found : (keys : List (List ℕ)) (f : Formal) (offset_of_key : ℕ) (known : Bool) (found : Option DocumentFault) → f.key ≡ Some offset_of_key → IsTrue known ↔ Contains keys f.name.text → FindsFirst (FaultIf (IsTrue (not known)) ForeignKey offset_of_key) found → FindsFirst (IsForeignKey keys f) found
foreign_found keys f offset_of_key known found is tests finds = finds_same (FaultIf (IsTrue (not known)) ForeignKey offset_of_key) (IsForeignKey keys f) found to from finds
  where
    to : (kind : FaultKind) (offset : ℕ) → FaultIf (IsTrue (not known)) ForeignKey offset_of_key kind offset → IsForeignKey keys f kind offset
    to kind offset (holds fact) = foreign offset_of_key is (not_so known tests fact)

    from : (kind : FaultKind) (offset : ℕ) → IsForeignKey keys f kind offset → FaultIf (IsTrue (not known)) ForeignKey offset_of_key kind offset
    from kind offset (foreign other key never) = let same : offset_of_key ≡ other = cc (is, key) in subst (λ o. FaultIf (IsTrue (not known)) ForeignKey offset_of_key ForeignKey o) same (holds (so_not known tests never))
