-- A plain protocol that has an expansion is without fault.
use Rattle.std.proofs.Common.{◌≡◌, ◌≢◌, ℕ, false, List, [], ◌∷◌, get_or, map, Some, None, refl, sym, ◌∙◌, ap, subst, arith, ⊎_elim}
use Rattle.std.specs.Prelude.{is_some}
use Rattle.std.specs.List.{All, Contains}
use Rattle.std.specs.Str.{bytes_eq}
use Rattle.std.proofs.lemmas.List.{get_or-map, length-map}
use Rattle.std.proofs.lemmas.List.Elements.{All-nil, All-cons, All-contains}
use Rattle.std.proofs.lemmas.List.Quantifiers.{position-Some}
use Rattle.std.proofs.lemmas.Slice.Eq.{bytes_eq-Decides}
use Rattle.bspl_types.specs.declared.expanded.Expanded.{Expanded}
use Rattle.bspl_types.specs.declared.protocol.Carried.{Carried}
use Rattle.bspl_types.specs.declared.protocol.Message.{Message}
use Rattle.bspl_types.specs.declared.protocol.ParamInfo.{ParamInfo}
use Rattle.bspl_parser.specs.declared.document.Declaration.{Declaration}
use Rattle.bspl_parser.specs.declared.document.Formal.{Formal}
use Rattle.bspl_parser.specs.declared.document.Item.{Item}
use Rattle.bspl_parser.specs.declared.document.Item.TheVariants as item
use Rattle.bspl_parser.specs.declared.word.Word.{Word}
use Rattle.protocol_names.specs.declared.fault.FaultKind.{FaultKind}
use Rattle.protocol_names.specs.Fault.{IsDuplicate, IsFaultIn, IsForeignKey, IsItemFault, IsNamedTwice, IsParamFault, IsUnknown, IsUnsupported, IsTargetFault, repeated}
use Rattle.protocol_names.specs.FaultOrder.{EitherFault, HasNone, OfSome}
use Rattle.protocol_names.specs.Names.{message_words, names_of, param_words, protocol_words, texts}
use Rattle.list_base.proofs.FirstIndex.{has_index}
use Rattle.protocol_expand.specs.FlatExpansion.{adornment_of, param_index, role_index, IsCarried, IsExpansionOf, IsMessageOfItem}
use Rattle.protocol_names.specs.Plain.{IsUnkeyed}
use Rattle.protocol_expand.specs.WellScoped.{AreDistinct}
use Rattle.protocol_names.specs.Laws.{FaultsHaveCauses}
use Rattle.protocol_expand.specs.FlatLaws.{ExpansionsKeepNames}
use Rattle.protocol_expand.specs.Expansion.{IsPlain}
use Rattle.protocol_expand.proofs.PlainPairs.{firsts}
use Rattle.protocol_expand.proofs.OwnNames.{names_apart, own_names}
use Rattle.protocol_expand.proofs.OneFirst.{not_distinct}
use Rattle.protocol_expand.proofs.PlainParts.{public_adorned}

-- there is no fault of either sort
none_of_two : (One Other : FaultKind → ℕ → Type 0) → HasNone One → HasNone Other → HasNone (EitherFault One Other)
none_of_two One Other no_one no_other = λ kind offset either. ⊎_elim (no_one kind offset) (no_other kind offset) either

-- there is none of any item
none_of_all : {X : Type 0} (Fault : X → FaultKind → ℕ → Type 0) (xs : List X) → All (λ x. HasNone (Fault x)) xs → HasNone (OfSome Fault xs)
none_of_all {X} Fault xs each = λ kind offset some. All-contains (λ (x : X). HasNone (Fault x)) xs some.item each some.among kind offset some.has

-- distinct words have no duplicate
none_twice : (words : List Word) → AreDistinct words → HasNone (IsDuplicate words)
none_twice words distinct kind offset (repeated w again) = not_distinct words again.before again.after w again.parts distinct again.repeats

-- one word is distinct
one_distinct : (w : Word) → AreDistinct (w ∷ [])
one_distinct w = record { distinct = λ i j d before within same. omega (arith, before, within) }

-- an adornment of an expansion is supported
supported : FaultsHaveCauses → (f : Formal) → adornment_of f.adorn ≢ None → HasNone (IsUnsupported f)
supported causes f adorned = causes.supported f (λ is_any. adorned (ap adornment_of is_any)) (λ is_opt. adorned (ap adornment_of is_opt))

-- a role that has an index is declared
known_role : FaultsHaveCauses → (roles : List (List ℕ)) (p : Declaration) (w : Word) (k : ℕ) → roles ≡ texts p.roles → role_index roles w.text ≡ Some k → HasNone (IsUnknown (texts p.roles) w)
known_role causes roles p w k role_names found =
    let known : Contains roles w.text = (has_index roles w.text).0 (ap is_some found) in
    causes.known (texts p.roles) w (subst (λ names. Contains names w.text) role_names known)

-- and so is a parameter
known_param : FaultsHaveCauses → (params : List ParamInfo) (p : Declaration) (w : Word) (k : ℕ) → map (λ q. q.name) params ≡ texts (param_words p) → param_index params w.text ≡ Some k → HasNone (IsUnknown (texts (param_words p)) w)
known_param causes params p w k param_names found =
    let name_of = λ (q : ParamInfo). q.name in
    let none : ParamInfo = record { name = w.text; adornment = None; key = false } in
    let at = position-Some (λ (q : ParamInfo). bytes_eq q.name w.text) params k none found in
    let known : Contains (map name_of params) w.text = (k, omega (arith, at.0, length-map params name_of), get_or-map name_of params k none w.text at.0 ∙ (bytes_eq-Decides (get_or params k none).name w.text).0 at.1) in
    causes.known (texts (param_words p)) w (subst (λ names. Contains names w.text) param_names known)

-- a parameter of a message is without fault
good_param : FaultsHaveCauses → (params : List ParamInfo) (p : Declaration) → map (λ q. q.name) params ≡ texts (param_words p) → (f : Formal) (c : Carried) → f.key ≡ None → IsCarried params f c → HasNone (IsParamFault (names_of p) f)
good_param causes params p param_names f c bare carries =
    none_of_two (IsUnknown (names_of p).params f.name) (EitherFault (IsUnsupported f) (IsForeignKey (names_of p).keys f)) (known_param causes params p f.name c.param param_names carries.indexed)
    (none_of_two (IsUnsupported f) (IsForeignKey (names_of p).keys f) (supported causes f (λ none. let never : Some c.adornment ≡ None = sym carries.adorned ∙ none in cc)) (causes.keyed (names_of p).keys f bare))

-- a message is without fault
good_item : FaultsHaveCauses → (protocols : List Declaration) (roles : List (List ℕ)) (params : List ParamInfo) (p : Declaration) → roles ≡ texts p.roles → map (λ q. q.name) params ≡ texts (param_words p) → (i : Item) (m : Message) → IsUnkeyed i → IsMessageOfItem roles params i m → HasNone (IsItemFault protocols (names_of p) i)
good_item causes protocols roles params p role_names param_names (item.Reference r) m bare image = absurd bare
good_item causes protocols roles params p role_names param_names (item.Message s) m bare image =
    let role_faults = IsUnknown (names_of p).roles in
    let param_faults = IsParamFault (names_of p) in
    let no_use : HasNone (IsTargetFault protocols (item.Message s)) = λ kind offset fault. fault in
    none_of_two (OfSome role_faults (s.sender ∷ s.receiver ∷ [])) (EitherFault (OfSome param_faults s.params) (IsTargetFault protocols (item.Message s)))
    (none_of_all role_faults (s.sender ∷ s.receiver ∷ [])
    (All-cons (λ (w : Word). HasNone (role_faults w)) s.sender (s.receiver ∷ []) (known_role causes roles p s.sender m.sender role_names image.sent)
    (All-cons (λ (w : Word). HasNone (role_faults w)) s.receiver [] (known_role causes roles p s.receiver m.receiver role_names image.received) (All-nil (λ (w : Word). HasNone (role_faults w))))))
    (none_of_two (OfSome param_faults s.params) (IsTargetFault protocols (item.Message s))
    (none_of_all param_faults s.params (firsts (λ (f : Formal). f.key ≡ None) (IsCarried params) (λ (f : Formal). HasNone (param_faults f)) (good_param causes params p param_names) s.params m.carried bare image.carries))
    no_use)

-- no two names of the protocol are one
good_names : ExpansionsKeepNames → (p : Declaration) (x : Expanded) → IsExpansionOf p x → HasNone (IsNamedTwice p)
good_names keep p x expands =
    none_of_two (IsDuplicate p.roles) (EitherFault (IsDuplicate (param_words p)) (IsDuplicate (message_words p)))
    (none_twice p.roles (names_apart (λ name. name) x.roles p.roles (map_itself x.roles ∙ expands.roles) x.shape.role_names.distinct))
    (none_of_two (IsDuplicate (param_words p)) (IsDuplicate (message_words p))
    (none_twice (param_words p) (own_names keep p x expands).params)
    (none_twice (message_words p) (own_names keep p x expands).messages))
  where
    map_itself : (names : List (List ℕ)) → map (λ name. name) names ≡ names
    map_itself [] = refl
    map_itself (n ∷ names) = ap (λ rest. n ∷ rest) (map_itself names)

-- the document of the protocol alone is without fault
pub without_fault : FaultsHaveCauses → ExpansionsKeepNames → (p : Declaration) (x : Expanded) → IsPlain p → IsExpansionOf p x → HasNone (EitherFault (IsDuplicate (protocol_words (p ∷ []))) (OfSome (IsFaultIn (p ∷ [])) (p ∷ [])))
without_fault causes keep p x plain expands =
    let faults = IsFaultIn (p ∷ []) in
    let item_faults = IsItemFault (p ∷ []) (names_of p) in
    let inside : HasNone (faults p) =
    none_of_two (IsNamedTwice p) (EitherFault (OfSome IsUnsupported p.public) (OfSome item_faults p.body)) (good_names keep p x expands)
    (none_of_two (OfSome IsUnsupported p.public) (OfSome item_faults p.body)
    (none_of_all IsUnsupported p.public (λ k e within. supported causes (get_or p.public k e) (public_adorned p x expands k e within)))
    (none_of_all item_faults p.body (firsts IsUnkeyed (IsMessageOfItem x.roles x.params) (λ (i : Item). HasNone (item_faults i)) (good_item causes (p ∷ []) x.roles x.params p expands.roles (keep.params p x expands)) p.body x.messages plain expands.images))) in
    none_of_two (IsDuplicate (protocol_words (p ∷ []))) (OfSome faults (p ∷ [])) (none_twice (p.name ∷ []) (one_distinct p.name))
    (none_of_all faults (p ∷ []) (All-cons (λ (q : Declaration). HasNone (faults q)) p [] inside (All-nil (λ (q : Declaration). HasNone (faults q)))))
