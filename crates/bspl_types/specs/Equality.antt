-- The tests of equality decide it.
use Rattle.std.proofs.Common.{◌≡◌, Bool, List, ap, refl, sym}
use Rattle.std.proofs.lemmas.Bool.Decides.{Decides-eqb, Decides-like, same_from_decides}
use Rattle.std.proofs.lemmas.Slice.Eq.{slice_eq-Decides}
use Rattle.std.specs.Bool.{Decides}
use Rattle.std.specs.Cmp.{IsEquivalence}
use Rattle.std.specs.Prelude.{nat_eq, ◌==◌}
use lib.Pointwise.{pointwise}
use Rattle.bspl_types.specs.declared.value.Value.{Value}
use Rattle.bspl_types.specs.declared.value.Value.TheVariants.{Number, Text}
use Rattle.bspl_types.specs.Value.{same_value, equal_values}

-- two values are the same exactly if they are one
pub same_value_decides : (a b : Value) → Decides (same_value a b) (a ≡ b)
same_value_decides (Number a) (Number b) =
    Decides-like (a == b) (λ same. ap Number same) (λ same. cc) (Decides-eqb a b)
same_value_decides (Text a) (Text b) =
    Decides-like (pointwise nat_eq a b) (λ same. ap Text same) (λ same. cc)
    (slice_eq-Decides Decides-eqb a b (pointwise nat_eq a b) refl)
same_value_decides (Number a) (Text b) = (λ no. absurd (cc), λ same. absurd (cc))
same_value_decides (Text a) (Number b) = (λ no. absurd (cc), λ same. absurd (cc))

-- two lists of values are equal exactly if they are one
pub equal_values_decides : (xs ys : List Value) → Decides (equal_values xs ys) (xs ≡ ys)
equal_values_decides xs ys = slice_eq-Decides same_value_decides xs ys (equal_values xs ys) refl

-- a test that decides equality is an equivalence
decided_laws : {X : Type 0} (E : X → X → Bool)
    → ((x y : X) → Decides (E x y) (x ≡ y)) → IsEquivalence E
decided_laws E decides =
    record {
      refl = λ x. (decides x x).1 refl;
      symm = λ x y. same_from_decides (E x y) (E y x) (decides x y)
          (λ same. sym ((decides y x).0 same), λ same. (decides y x).1 (sym same));
      congr = λ x y z same. ap (λ w. E w z) ((decides x y).0 same);
    }

pub same_value_laws : IsEquivalence same_value
same_value_laws = decided_laws same_value same_value_decides

pub equal_values_laws : IsEquivalence equal_values
equal_values_laws = decided_laws equal_values equal_values_decides
