-- What is found of the protocol of a name, and what that says of its expansion.
use Rattle.std.proofs.Common.{◌≡◌, ℕ, ◌<◌, ◌^◌, Bool, List, [], ◌∷◌, length, get_or, Option, Some, Result, Ok, Err, inr, sym, ◌∙◌, ap, subst}
use Rattle.std.specs.Prelude.{IfOk, IfErr}
use Rattle.std.specs.List.{position}
use Rattle.std.specs.Str.{bytes_eq}
use Rattle.std.proofs.lemmas.Option.{get_or_from_slice_get, slice_get-get_or, slice_get_within}
use Rattle.bspl_types.specs.declared.expanded.Expanded.{Expanded}
use Rattle.bspl_types.specs.declared.refusals.Refusal.{Refusal}
use Rattle.bspl_types.specs.declared.refusals.Refusal.TheVariants as refusal
use Rattle.bspl_types.specs.declared.refusals.What.{What}
use Rattle.bspl_parser.specs.declared.document.Declaration.{Declaration}
use Rattle.bspl_parser.specs.declared.document.Document.{Document}
use Rattle.protocol_names.specs.Fault.{HasNoFault}
use Rattle.protocol_names.specs.Names.{protocol_words, texts}
use Rattle.reference_graph.specs.declared.edge.Edge.{Edge}
use Rattle.reference_graph.specs.Cycle.{IsFirstCycle}
use Rattle.reference_graph.specs.Graph.{IsGraph, successors}
use Rattle.reference_graph.specs.Path.{IsPath, last_node}
use Rattle.protocol_paths.specs.Flat.{IsFlat}
use Rattle.protocol_limits.specs.declared.outcome.Survey.{Survey}
use Rattle.protocol_limits.specs.declared.outcome.Survey.TheVariants.{Cycle, Over, Within}
use Rattle.protocol_limits.specs.Graph.{graph_of, protocol_number}
use Rattle.protocol_limits.specs.Survey.{IsSurvey}
use Rattle.protocol_paths.specs.ReferencePath.{IsWithinDepth}
use Rattle.protocol_limits.specs.Laws.{NumbersAreOfProtocols, ReferencesAreAGraph}
use Rattle.protocol_expand.specs.Expansion.{Expands}
use Rattle.protocol_expand.specs.Refusals.{HasCycle, HasEqualNames, ExceedsLimit, IsNotExpanded}
use Rattle.protocol_expand.specs.Repeats.{RepeatsName}
use Rattle.protocol_expand.specs.inner.Flat.{ExpandsFlat, RefusesTop}
use Rattle.protocol_expand.proofs.Requested.{IsFlatRequest, IsRequested, declared, flattening_of, limits_of}

-- the test for a name
abbrev pub named : List ℕ → List ℕ → Bool
named name n = bytes_eq n name

-- the index of the name is the number of its protocol
pub number_found : NumbersAreOfProtocols → (protocols lent : List Declaration) (name : List ℕ) (names : List (List ℕ)) (found : Option ℕ) → lent ≡ protocols → names ≡ texts (protocol_words lent) → found ≡ position (named name) names → found ≡ protocol_number protocols name
number_found numbers protocols lent name names found same in_order is_found = is_found ∙ numbers.by_names lent names name in_order ∙ ap (λ (ps : List Declaration). protocol_number ps name) same

-- the document has no fault, the name has a protocol, and the survey is that of the protocol
pub record IsSurveyed (d : Document) (name : List ℕ) (number : ℕ) (s : Survey) : Type 0 where
  pub faultless : HasNoFault d
  pub found : protocol_number d.protocols name ≡ Some number
  pub survey : IsSurvey d.protocols number s

-- what was found was surveyed
pub surveyed : (d : Document) (name : List ℕ) (lent : List Declaration) (number : ℕ) (s t : Survey) → HasNoFault d → lent ≡ d.protocols → protocol_number d.protocols name ≡ Some number →
    s ≡ t → IsSurvey lent number s → IsSurveyed d name number t
surveyed d name lent number s t faultless same found is_t is_survey = record {
  faultless = faultless;
  found = found;
  survey = subst (λ ps. IsSurvey ps number t) same (subst (IsSurvey lent number) is_t is_survey);
}

-- a number that was found is that of a protocol
request_of : NumbersAreOfProtocols → (d : Document) (name : List ℕ) (number : ℕ) → HasNoFault d → protocol_number d.protocols name ≡ Some number → (top : Declaration) × IsRequested d name number top
request_of numbers d name number faultless found =
    let at = numbers.declared d.protocols name number found in
    (at.0, record { faultless = faultless; found = found; stands = at.2 })

-- a path from a node leads to a node
end_within : (g : List (List ℕ)) (a : ℕ) (path : List Edge) → IsGraph g → a < length g → IsPath g a path → last_node a path < length g
end_within g a [] graph within is_path = within
end_within g a (s ∷ path) graph within is_path =
    let next : s.node < length g = subst (λ b. b < length g) (get_or_from_slice_get (successors g a) s.index s.node 0 is_path.0)
    (graph.referred a [] within s.index 0 (slice_get_within (successors g a) s.index s.node is_path.0)) in
    end_within g s.node path graph next is_path.1

-- the first cycle ends at a protocol
pub cycle_within : NumbersAreOfProtocols → ReferencesAreAGraph → (d : Document) (name : List ℕ) (top node : ℕ) → length d.protocols < 2 ^ 32 → IsSurveyed d name top (Cycle node) → node < length d.protocols
cycle_within numbers graphs d name top node few surveyed =
    let cycle : IsFirstCycle (graph_of d.protocols) top node = surveyed.survey in
    let long = graphs.nodes d.protocols in
    let at = numbers.declared d.protocols name top surveyed.found in
    subst (λ n. n < length d.protocols) cycle.ends (subst (λ n. last_node top cycle.path < n) long
    (end_within (graph_of d.protocols) top cycle.path (graphs.graph d.protocols few) (subst (λ n. top < n) (sym long) (slice_get_within d.protocols top at.0 at.2)) cycle.is_path))

-- there is a cycle
pub has_cycle : NumbersAreOfProtocols → ReferencesAreAGraph → (d : Document) (name met : List ℕ) (number node : ℕ) (p : Declaration) → length d.protocols < 2 ^ 32 → IsSurveyed d name number (Cycle node) → met ≡ (get_or d.protocols node p).name.text → HasCycle d name met
has_cycle numbers graphs d name met number node p few surveyed is_name =
    let top = request_of numbers d name number surveyed.faultless surveyed.found in
    let within = cycle_within numbers graphs d name number node few surveyed in
    record { faultless = surveyed.faultless; number = number; top = top.0; declared = declared d name number top.0 top.1; node = node; cycle = surveyed.survey; protocol = get_or d.protocols node p; stands = slice_get-get_or d.protocols node p within; named = sym is_name }

-- a count is over its limit
pub has_too_many : NumbersAreOfProtocols → (d : Document) (name : List ℕ) (number : ℕ) (what : What) (count : ℕ) → IsSurveyed d name number (Over what count) → ExceedsLimit d name what count
has_too_many numbers d name number what count surveyed =
    let top = request_of numbers d name number surveyed.faultless surveyed.found in
    record { faultless = surveyed.faultless; number = number; top = top.0; declared = declared d name number top.0 top.1; too_large = surveyed.survey }

-- the protocol at the number is the one that is lent
lent_top : NumbersAreOfProtocols → (d : Document) (name : List ℕ) (number : ℕ) (top : Declaration) (items : List Declaration) → HasNoFault d → protocol_number d.protocols name ≡ Some number → items ≡ d.protocols → top ≡ get_or items number top → IsRequested d name number top
lent_top numbers d name number top items faultless found same stands =
    let at = numbers.declared d.protocols name number found in
    let is_top : get_or d.protocols number top ≡ top = sym (stands ∙ ap (λ (ps : List Declaration). get_or ps number top) same) in
    record { faultless = faultless; found = found; stands = slice_get-get_or d.protocols number top (slice_get_within d.protocols number at.0 at.2) ∙ ap Some is_top }

-- no path from it has more references than the depth
pub deep_enough : NumbersAreOfProtocols → (d : Document) (name : List ℕ) (number depth : ℕ) (top : Declaration) (lent items : List Declaration) (messages privates : List Bool) → IsSurveyed d name number (Within depth messages privates) →
    lent ≡ items → items ≡ d.protocols → top ≡ get_or items number top → IsWithinDepth lent top depth
deep_enough numbers d name number depth top lent items messages privates surveyed same_lent same stands =
    let there = lent_top numbers d name number top items surveyed.faultless surveyed.found same stands in
    subst (λ (ps : List Declaration). IsWithinDepth ps top depth) (sym (same_lent ∙ same)) (surveyed.survey.deep top there.stands)

-- the protocol of messages alone that was made
pub flat_for : NumbersAreOfProtocols → (d : Document) (name : List ℕ) (number depth : ℕ) (top flat : Declaration) (lent items : List Declaration) (messages privates : List Bool) → IsSurveyed d name number (Within depth messages privates) →
    lent ≡ items → items ≡ d.protocols → top ≡ get_or items number top → IsFlat lent top flat → IsFlatRequest d name flat
flat_for numbers d name number depth top flat lent items messages privates surveyed same_lent same stands is_flat = record {
  number = number;
  top = top;
  requested = lent_top numbers d name number top items surveyed.faultless surveyed.found same stands;
  acyclic = surveyed.survey.unrolled;
  within = surveyed.survey.within;
  flattened = subst (λ (ps : List Declaration). IsFlat ps top flat) (same_lent ∙ same) is_flat;
}

-- the expansion of the flat protocol is that of the protocol of the name
pub expands_for : NumbersAreOfProtocols → (d : Document) (name : List ℕ) (number depth : ℕ) (top : Declaration) (lent items : List Declaration) (messages privates : List Bool) (result : Result Expanded Refusal) → IsSurveyed d name number (Within depth messages privates) →
    lent ≡ items → items ≡ d.protocols → top ≡ get_or items number top → IfOk result (ExpandsFlat lent top) → IfOk result (Expands d name)
expands_for numbers d name number depth top lent items messages privates (Ok x) surveyed same_lent same stands made =
    let is = flat_for numbers d name number depth top made.flat lent items messages privates surveyed same_lent same stands made.is_flat in
    record {
      faultless = is.requested.faultless;
      within = limits_of d name made.flat is;
      expansion = record { flat = made.flat; flattens = flattening_of d name made.flat is; expands = made.expands };
    }
expands_for numbers d name number depth top lent items messages privates (Err r) surveyed same_lent same stands made = tt

-- and if two of its names are equal, that is why there is none
equal_names : (d : Document) (name : List ℕ) (flat : Declaration) (offset : ℕ) → IsFlatRequest d name flat → RepeatsName flat offset → HasEqualNames d name offset
equal_names d name flat offset is repeats = record { faultless = is.requested.faultless; within = limits_of d name flat is; flat = flat; flattens = flattening_of d name flat is; repeats = repeats }

-- the same of what was answered
pub refuses_for : NumbersAreOfProtocols → (d : Document) (name : List ℕ) (number depth : ℕ) (top : Declaration) (lent items : List Declaration) (messages privates : List Bool) (result : Result Expanded Refusal) → IsSurveyed d name number (Within depth messages privates) →
    lent ≡ items → items ≡ d.protocols → top ≡ get_or items number top → IfErr result (RefusesTop lent top) → IfErr result (IsNotExpanded d name)
refuses_for numbers d name number depth top lent items messages privates (Ok x) surveyed same_lent same stands refused = tt
refuses_for numbers d name number depth top lent items messages privates (Err (refusal.Duplicate offset)) surveyed same_lent same stands refused =
    inr (equal_names d name refused.0 offset (flat_for numbers d name number depth top refused.0 lent items messages privates surveyed same_lent same stands refused.1) refused.2)
refuses_for numbers d name number depth top lent items messages privates (Err refusal.NoMemory) surveyed same_lent same stands refused = tt
refuses_for numbers d name number depth top lent items messages privates (Err r) surveyed same_lent same stands refused = absurd refused
