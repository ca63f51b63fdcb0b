-- The ways to answer for a name, the last one first: only one of them holds.
use Rattle.std.proofs.Common.{◌≡◌, ℕ, List, ◌⊎◌, Result, Ok, Err, refl, sym, ◌∙◌, ap, subst, inl, inr}
use Rattle.bspl_types.specs.declared.expanded.Expanded.{Expanded}
use Rattle.bspl_types.specs.declared.refusals.Refusal.{Refusal}
use Rattle.bspl_types.specs.declared.refusals.Refusal.TheVariants.{NoProtocol, Duplicate, Recursion, Limit}
use Rattle.bspl_types.specs.declared.refusals.What.{What}
use Rattle.bspl_parser.specs.declared.document.Declaration.{Declaration}
use Rattle.bspl_parser.specs.declared.document.Document.{Document}
use Rattle.protocol_names.specs.declared.fault.DocumentFault.{DocumentFault}
use Rattle.protocol_names.specs.Fault.{HasNoFault, IsDocumentFault, IsFirstFault}
use Rattle.protocol_limits.specs.Survey.{IsUnrolled}
use Rattle.protocol_expand.specs.FlatExpansion.{IsExpansionOf}
use Rattle.bspl_parser.specs.Alike.{WordsAreEqual}
use Rattle.reference_graph.specs.Laws.{CyclesAreOne}
use Rattle.protocol_expand.specs.FlatLaws as flat_laws
use Rattle.protocol_expand.specs.Request.{IsDeclaredAs}
use Rattle.protocol_expand.specs.Expansion.{Expands, IsExpansion}
use Rattle.protocol_expand.specs.Refusals.{HasCycle, HasEqualNames, ExceedsLimit, NamesNoProtocol, refusal_at}
use Rattle.protocol_expand.specs.Repeats.{RepeatsName}
use Rattle.protocol_expand.proofs.OneRequest.{not_cyclic, not_missing, not_over, one_count, one_cycle, one_equal, one_flat_for}
use Rattle.protocol_expand.proofs.OneFirst.{one_first}
use Rattle.protocol_expand.proofs.OwnNames.{none_repeats}
use Rattle.protocol_expand.proofs.Requested.{IsFlatRequest, declared, flat_request}

-- the laws of the crates below that the answers rest on
pub record LowerLaws : Type 0 where
  pub words : WordsAreEqual
  pub cycles : CyclesAreOne
  pub unique : flat_laws.FlatExpansionsAreUnique
  pub names : flat_laws.ExpansionsKeepNames

-- an expansion, or why there is none
abbrev pub Answer : Type 0
Answer = Result Expanded Refusal

-- the answer is given for something that holds
pub record IsGiven {K : Type 0} (give : K → Answer) (Holds : K → Type 0) (a : Answer) : Type 0 where
  pub key : K
  pub is : a ≡ give key
  pub holds : Holds key

-- what holds of one thing gives one answer
given_once : {K : Type 0} (give : K → Answer) (Holds : K → Type 0) → ((k l : K) → Holds k → Holds l → k ≡ l) → (a b : Answer) → IsGiven give Holds a → IsGiven give Holds b → a ≡ b
given_once give Holds once a b one other = one.is ∙ ap give (once one.key other.key one.holds other.holds) ∙ sym other.is

-- of two ways to answer that are never both open, one answer comes
joined : (One Other : Answer → Type 0) → ((a b : Answer) → One a → One b → a ≡ b) → ((a b : Answer) → Other a → Other b → a ≡ b) → ((a b : Answer) → One a → Other b → ⊥) → (a b : Answer) → One a ⊎ Other a → One b ⊎ Other b → a ≡ b
joined One Other once again apart a b (inl one) (inl two) = once a b one two
joined One Other once again apart a b (inl one) (inr two) = absurd (apart a b one two)
joined One Other once again apart a b (inr one) (inl two) = absurd (apart b a two one)
joined One Other once again apart a b (inr one) (inr two) = again a b one two

-- there is one expansion at most
pub expands_once : LowerLaws → (d : Document) (name : List ℕ) (x y : Expanded) → IsExpansion d name x → IsExpansion d name y → x ≡ y
expands_once laws d name x y is_x is_y =
    laws.unique is_y.flat x y (subst (λ (p : Declaration). IsExpansionOf p x) (one_flat_for laws.words d name is_x.flat is_y.flat is_x.flattens is_y.flattens) is_x.expands) is_y.expands

-- the expansion
abbrev pub IsExpanded : Document → List ℕ → Answer → Type 0
IsExpanded d name = IsGiven Ok (Expands d name)

-- or two equal names
abbrev pub HasEqual : Document → List ℕ → Answer → Type 0
HasEqual d name = IsGiven (λ offset. Err (Duplicate offset)) (HasEqualNames d name)

-- the flat protocol has been made
abbrev pub IsFlattened : Document → List ℕ → Answer → Type 0
IsFlattened d name a = HasEqual d name a ⊎ IsExpanded d name a

-- of the protocol of the name
flat_of : (d : Document) (name : List ℕ) (a : Answer) → IsFlattened d name a → (flat : Declaration) × IsFlatRequest d name flat
flat_of d name a (inl equal) = (equal.holds.flat, flat_request d name equal.holds.flat equal.holds.faultless equal.holds.within equal.holds.flattens)
flat_of d name a (inr expanded) =
    let x = expanded.holds.expansion in
    (x.flat, flat_request d name x.flat expanded.holds.faultless expanded.holds.within x.flattens)

-- one of the two comes
flattened_once : LowerLaws → (d : Document) (name : List ℕ) (a b : Answer) → IsFlattened d name a → IsFlattened d name b → a ≡ b
flattened_once laws d name = joined (HasEqual d name) (IsExpanded d name) (given_once _ _ (one_equal laws.words d name)) (given_once _ _ (λ x y one other. expands_once laws d name x y one.expansion other.expansion)) (λ a b equal expanded.
    let x = expanded.holds.expansion in
    let same = one_flat_for laws.words d name equal.holds.flat x.flat equal.holds.flattens x.flattens in
    none_repeats laws.names x.flat expanded.key equal.key x.expands (subst (λ (p : Declaration). RepeatsName p equal.key) same equal.holds.repeats))

-- a count over its limit, before that
abbrev pub HasMany : Document → List ℕ → Answer → Type 0
HasMany d name = IsGiven {K = What × ℕ} (λ (what, count). Err (Limit what count)) (λ (what, count). ExceedsLimit d name what count)

-- no path is a cycle
abbrev pub IsUnrolledTo : Document → List ℕ → Answer → Type 0
IsUnrolledTo d name a = HasMany d name a ⊎ IsFlattened d name a

-- none from the protocol of the name
unrolled_of : (d : Document) (name : List ℕ) (a : Answer) → IsUnrolledTo d name a → (number : ℕ) × (top : Declaration) × IsDeclaredAs d name number top × IsUnrolled d.protocols number
unrolled_of d name a (inl many) = (many.holds.number, many.holds.top, many.holds.declared, many.holds.too_large.unrolled)
unrolled_of d name a (inr later) = let flat = flat_of d name a later in (flat.1.number, flat.1.top, declared d name flat.1.number flat.1.top flat.1.requested, flat.1.acyclic)

-- one of the three comes
unrolled_once : LowerLaws → (d : Document) (name : List ℕ) (a b : Answer) → IsUnrolledTo d name a → IsUnrolledTo d name b → a ≡ b
unrolled_once laws d name = joined (HasMany d name) (IsFlattened d name)
    (given_once _ _ (λ k l one other. let same = one_count d name k.0 l.0 k.1 l.1 one other in λ i. (same.0 i, same.1 i))) (flattened_once laws d name)
    (λ a b many later. let flat = flat_of d name b later in not_over d name many.key.0 many.key.1 flat.0 many.holds flat.1)

-- the first cycle, before that
abbrev pub IsRecursive : Document → List ℕ → Answer → Type 0
IsRecursive d name = IsGiven (λ met. Err (Recursion met)) (HasCycle d name)

-- a protocol has the name
abbrev pub IsFound : Document → List ℕ → Answer → Type 0
IsFound d name a = IsRecursive d name a ⊎ IsUnrolledTo d name a

-- the one of the number
asked_of : (d : Document) (name : List ℕ) (a : Answer) → IsFound d name a → (number : ℕ) × (top : Declaration) × IsDeclaredAs d name number top
asked_of d name a (inl recursive) = (recursive.holds.number, recursive.holds.top, recursive.holds.declared)
asked_of d name a (inr later) = let unrolled = unrolled_of d name a later in (unrolled.0, unrolled.1, unrolled.2)

-- one of the four comes
found_once : LowerLaws → (d : Document) (name : List ℕ) (a b : Answer) → IsFound d name a → IsFound d name b → a ≡ b
found_once laws d name = joined (IsRecursive d name) (IsUnrolledTo d name) (given_once _ _ (one_cycle laws.cycles d name)) (unrolled_once laws d name)
    (λ a b recursive later. let unrolled = unrolled_of d name b later in not_cyclic d name recursive.key unrolled.0 unrolled.1 recursive.holds unrolled.2 unrolled.3)

-- no protocol of the name, before that
abbrev pub IsAbsent : Document → List ℕ → Answer → Type 0
IsAbsent d name = IsGiven {K = Unit {0}} (λ u. Err (NoProtocol name)) (λ u. NamesNoProtocol d name)

-- the document has no fault
abbrev pub IsFaultless : Document → List ℕ → Answer → Type 0
IsFaultless d name a = IsAbsent d name a ⊎ IsFound d name a

-- that it has none
faultless_of : (d : Document) (name : List ℕ) (a : Answer) → IsFaultless d name a → HasNoFault d
faultless_of d name a (inl absent) = absent.holds.faultless
faultless_of d name a (inr (inl recursive)) = recursive.holds.faultless
faultless_of d name a (inr (inr (inl many))) = many.holds.faultless
faultless_of d name a (inr (inr (inr (inl equal)))) = equal.holds.faultless
faultless_of d name a (inr (inr (inr (inr expanded)))) = expanded.holds.faultless

-- one of the five comes
faultless_once : LowerLaws → (d : Document) (name : List ℕ) (a b : Answer) → IsFaultless d name a → IsFaultless d name b → a ≡ b
faultless_once laws d name = joined (IsAbsent d name) (IsFound d name) (given_once _ _ (λ u v one other. refl)) (found_once laws d name)
    (λ a b absent later. let asked = asked_of d name b later in not_missing d name asked.0 asked.1 absent.holds asked.2)

-- a fault of the document, first of all
abbrev pub IsAtFault : Document → Answer → Type 0
IsAtFault d = IsGiven (λ (f : DocumentFault). Err (refusal_at f.kind f.offset)) (IsFirstFault d)

-- all ways to answer
abbrev pub IsAnswer : Document → List ℕ → Answer → Type 0
IsAnswer d name a = IsAtFault d a ⊎ IsFaultless d name a

-- one of the six comes
pub answered_once : LowerLaws → (d : Document) (name : List ℕ) (a b : Answer) → IsAnswer d name a → IsAnswer d name b → a ≡ b
answered_once laws d name = joined (IsAtFault d) (IsFaultless d name) (given_once _ _ (one_first (IsDocumentFault d))) (faultless_once laws d name)
    (λ a b fault later. faultless_of d name b later fault.key.kind fault.key.offset fault.holds.fault)
