-- The faults of a reference, by what its protocol declares.
use Rattle.std.proofs.Common.{◌≡◌, ℕ, List, Option, Some, None, refl, subst, inr, arith}
use Rattle.std.specs.List.{zip}
use Rattle.bspl_parser.specs.declared.document.Declaration.{Declaration}
use Rattle.bspl_parser.specs.declared.document.Reference.{Reference as SpecReference}
use Rattle.protocol_names.specs.declared.fault.DocumentFault.{DocumentFault}
use Rattle.protocol_names.specs.declared.fault.FaultKind.{FaultKind}
use Rattle.protocol_names.specs.declared.fault.FaultKind.TheVariants.{Unknown, Arity}
use Rattle.protocol_names.specs.Fault.{AdornmentDiffers, IsReferenceFault, unknown_protocol, other_arity, other_adornment}
use Rattle.protocol_names.specs.FaultOrder.{FindsFirst, IsFirst, IsNotAfter, OfSome}
use Rattle.protocol_names.specs.Names.{IsSameArity, protocol_of}
use Rattle.protocol_names.proofs.FaultOrderLemmas.{finds_same}

-- one declaration at most is found
one_found : (found : Option Declaration) (p q : Declaration) → found ≡ Some p → found ≡ Some q → p ≡ q
one_found found p q is_p is_q = cc (is_p, is_q)

-- and none is no declaration
none_found : (found : Option Declaration) (q : Declaration) → found ≡ None → found ≡ Some q → ⊥
none_found found q is_none is_q = cc (is_none, is_q)

-- there is no protocol of the name
pub no_such_protocol : (protocols : List Declaration) (r : SpecReference) → protocol_of protocols r.protocol.text ≡ None → IsFirst (IsReferenceFault protocols r) (record { kind = Unknown; offset = r.protocol.offset })
no_such_protocol protocols r missing = record { fault = unknown_protocol missing; least = only }
  where
    only : (kind : FaultKind) (offset : ℕ) → IsReferenceFault protocols r kind offset → IsNotAfter (record { kind = Unknown; offset = r.protocol.offset }) kind offset
    only kind offset (unknown_protocol is) = inr (refl, omega arith)
    only kind offset (other_arity q is other) = absurd (none_found _ q missing is)
    only kind offset (other_adornment q k o is same other) = absurd (none_found _ q missing is)

-- the protocol declares another number
pub not_the_arity : (protocols : List Declaration) (r : SpecReference) (q : Declaration) → protocol_of protocols r.protocol.text ≡ Some q → ¬ IsSameArity r q → IsFirst (IsReferenceFault protocols r) (record { kind = Arity; offset = r.protocol.offset })
not_the_arity protocols r q is_q differs = record { fault = other_arity q is_q differs; least = only }
  where
    only : (kind : FaultKind) (offset : ℕ) → IsReferenceFault protocols r kind offset → IsNotAfter (record { kind = Arity; offset = r.protocol.offset }) kind offset
    only kind offset (unknown_protocol is) = absurd (none_found _ q is is_q)
    only kind offset (other_arity p is other) = inr (refl, omega arith)
    only kind offset (other_adornment p k o is same other) = absurd (differs (subst (IsSameArity r) (one_found _ p q is is_q) same))

-- the numbers agree
pub by_adornments : (protocols : List Declaration) (r : SpecReference) (q : Declaration) (found : Option DocumentFault) → protocol_of protocols r.protocol.text ≡ Some q → IsSameArity r q → FindsFirst (OfSome AdornmentDiffers (zip r.params q.public)) found → FindsFirst (IsReferenceFault protocols r) found
by_adornments protocols r q found is_q same finds = finds_same (OfSome AdornmentDiffers (zip r.params q.public)) (IsReferenceFault protocols r) found (λ kind offset other. other_adornment q kind offset is_q same other) back finds
  where
    back : (kind : FaultKind) (offset : ℕ) → IsReferenceFault protocols r kind offset → OfSome AdornmentDiffers (zip r.params q.public) kind offset
    back kind offset (unknown_protocol is) = absurd (none_found _ q is is_q)
    back kind offset (other_arity p is differs) = absurd (differs (subst (IsSameArity r) (one_found _ q p is_q is) same))
    back kind offset (other_adornment p k o is same_p other) = subst (λ (d : Declaration). OfSome AdornmentDiffers (zip r.params d.public) k o) (one_found _ p q is is_q) other
