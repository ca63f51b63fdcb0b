-- What a bound on the depth leaves of a flat protocol.
use Rattle.std.proofs.Common.{◌≡◌, ℕ, ◌≤◌, List, length, min, Ok, Err, Result, sym, subst, ap, ◌∙◌, arith, inl, inr}
use Rattle.std.specs.Prelude.{IfOk}
use Rattle.std.specs.List.{AllZip, flat_map}
use Rattle.std.proofs.lemmas.Bool.{cases_lt}
use Rattle.list_base.specs.declared.memory.NoMemory.{NoMemory}
use Rattle.bspl_parser.specs.declared.document.Declaration.{Declaration}
use Rattle.protocol_paths.specs.declared.flat_protocol.FlatProtocol.{FlatProtocol}
use Rattle.protocol_paths.specs.FlatProtocol.{as_declaration}
use Rattle.protocol_paths.specs.Flat.{IsFlat, IsFlatTo, IsImageItem, privates_at}
use Rattle.protocol_paths.specs.ReferencePath.{IsWithinDepth}
use Rattle.protocol_paths.specs.Scope.{scope_at, start}
use Rattle.protocol_paths.proofs.DepthLemmas.{same_messages, same_paths}

-- a bound that no path exceeds may be any longer one
longer_flat : (n m : ℕ) (protocols : List Declaration) (top p : Declaration) → IsWithinDepth protocols top n → n ≤ m → IsFlatTo n protocols top p → IsFlatTo m protocols top p
longer_flat n m protocols top p within less flat = record {
  name = flat.name;
  roles = flat.roles;
  public = flat.public;
  private = flat.private ∙ ap (flat_map (λ path. privates_at (scope_at (start top) path))) (sym (same_paths n m protocols top within less));
  body = subst (λ found. AllZip (IsImageItem (start top)) found p.body) (sym (same_messages n m protocols top within less)) flat.body;
}

-- the lesser of the depth and the number of protocols is enough
pub flat_within : (limit depth : ℕ) (protocols : List Declaration) (top p : Declaration) → limit ≡ min depth (length protocols) → IsWithinDepth protocols top depth → IsFlatTo limit protocols top p → IsFlat protocols top p
flat_within limit depth protocols top p is within flat = elim (cases_lt depth (length protocols)) [
  | inl below ↦
      let same : limit ≡ depth = is ∙ omega (arith, below) in
      longer_flat depth (length protocols) protocols top p within (omega (arith, below)) (subst (λ n. IsFlatTo n protocols top p) same flat)
  | inr above ↦
      let same : limit ≡ length protocols = is ∙ omega (arith, above) in
      subst (λ n. IsFlatTo n protocols top p) same flat
]

-- the same of an answer
pub flat_answer : (limit depth : ℕ) (protocols : List Declaration) (top : Declaration) (result : Result FlatProtocol NoMemory) → limit ≡ min depth (length protocols) → IsWithinDepth protocols top depth → IfOk result (λ p. IsFlatTo limit protocols top (as_declaration p)) → IfOk result (λ p. IsFlat protocols top (as_declaration p))
flat_answer limit depth protocols top (Ok p) is within flat = flat_within limit depth protocols top (as_declaration p) is within flat
flat_answer limit depth protocols top (Err e) is within flat = tt
