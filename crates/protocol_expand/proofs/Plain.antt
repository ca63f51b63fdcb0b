-- In a document of one plain protocol, the protocol's expansion is its own.
use Rattle.std.proofs.Common.{◌≡◌, List, [], ◌∷◌, Some, refl, sym, ◌∙◌, subst, arith}
use Rattle.std.specs.Prelude.{slice_get}
use Rattle.list_base.proofs.OwnIndex.{own_index}
use Rattle.bspl_types.specs.declared.expanded.Expanded.{Expanded}
use Rattle.bspl_parser.specs.declared.document.Declaration.{Declaration}
use Rattle.bspl_parser.specs.declared.document.Document.{Document}
use Rattle.bspl_parser.specs.Alike.{WordsAreEqual}
use Rattle.protocol_names.specs.Fault.{IsDuplicate, IsFaultIn}
use Rattle.protocol_names.specs.FaultOrder.{EitherFault, HasNone, OfSome}
use Rattle.protocol_names.specs.Laws.{FaultsHaveCauses}
use Rattle.protocol_names.specs.Names.{protocol_words}
use Rattle.protocol_paths.specs.Flat.{IsFlat}
use Rattle.protocol_paths.specs.Laws.{PathsByItems, PlainProtocolsAreFlat}
use Rattle.reference_graph.specs.Laws.{WeightsAddUp}
use Rattle.protocol_limits.specs.Graph.{protocol_number}
use Rattle.protocol_limits.specs.Laws.{ReferencesAreAGraph}
use Rattle.protocol_limits.specs.Limits.{AreWithinLimits}
use Rattle.protocol_limits.specs.Survey.{IsUnrolled}
use Rattle.protocol_expand.specs.FlatExpansion.{IsExpansionOf}
use Rattle.protocol_expand.specs.FlatLaws.{ExpansionsKeepNames}
use Rattle.protocol_expand.specs.Expansion.{Expands, IsExpansion, IsPlain}
use Rattle.protocol_expand.proofs.OneFlat.{one_flat}
use Rattle.protocol_expand.proofs.PlainCounts.{within_limits}
use Rattle.protocol_expand.proofs.PlainFaults.{without_fault}
use Rattle.protocol_expand.proofs.PlainGraph.{unrolled}

-- the laws of the crates below that this rests on
pub record PlainLaws : Type 0 where
  pub words : WordsAreEqual
  pub causes : FaultsHaveCauses
  pub paths : PathsByItems
  pub flat : PlainProtocolsAreFlat
  pub adds : WeightsAddUp
  pub graphs : ReferencesAreAGraph
  pub names : ExpansionsKeepNames

-- the one protocol has the first number
first_number : (p : Declaration) → protocol_number (p ∷ []) p.name.text ≡ Some 0
first_number p = own_index (λ (q : Declaration). q.name.text) (p ∷ []) 0 p (λ i j d before within same. omega (arith, before, within)) (omega arith) refl

-- a plain protocol alone in a document expands to its own expansion
pub plain_expands : PlainLaws → (d : Document) (p : Declaration) (x : Expanded) → d.protocols ≡ p ∷ [] → IsPlain p → IsExpansionOf p x → Expands d p.name.text x
plain_expands laws d p x alone plain expands =
    let found = subst (λ (ps : List Declaration). protocol_number ps p.name.text ≡ Some 0) (sym alone) (first_number p) in
    record {
      faultless = subst (λ (ps : List Declaration). HasNone (EitherFault (IsDuplicate (protocol_words ps)) (OfSome (IsFaultIn ps) ps))) (sym alone) (without_fault laws.causes laws.names p x plain expands);
      within = record {
        number = 0;
        found = found;
        within = subst (λ (ps : List Declaration). AreWithinLimits ps 0) (sym alone) (within_limits laws.graphs laws.adds laws.paths laws.names p x plain expands);
      };
      expansion = record {
        flat = p;
        flattens = record {
          number = 0;
          top = p;
          declared = record {
            found = found;
            stands = subst (λ (ps : List Declaration). slice_get ps 0 ≡ Some p) (sym alone) refl;
          };
          acyclic = subst (λ (ps : List Declaration). IsUnrolled ps 0) (sym alone) (unrolled laws.graphs p plain);
          flattened = laws.flat d.protocols p plain;
        };
        expands = expands;
      };
    }

-- and to no other
pub plain_alone : PlainLaws → (d : Document) (p : Declaration) (x : Expanded) → d.protocols ≡ p ∷ [] → IsPlain p → IsExpansion d p.name.text x → IsExpansionOf p x
plain_alone laws d p x alone plain is =
    let at = is.flattens in
    let number : Some 0 ≡ Some at.number = sym (first_number p) ∙ subst (λ (ps : List Declaration). protocol_number ps p.name.text ≡ Some at.number) alone at.declared.found in
    let here : at.number ≡ 0 = cc in
    let there : slice_get (p ∷ []) 0 ≡ Some at.top = subst (λ (ps : List Declaration). slice_get ps 0 ≡ Some at.top) alone (subst (λ n. slice_get d.protocols n ≡ Some at.top) here at.declared.stands) in
    let top : at.top ≡ p = cc in
    let flattened : IsFlat d.protocols p is.flat = subst (λ (q : Declaration). IsFlat d.protocols q is.flat) top at.flattened in
    subst (λ (q : Declaration). IsExpansionOf q x) (one_flat laws.words d.protocols p is.flat p flattened (laws.flat d.protocols p plain)) is.expands
