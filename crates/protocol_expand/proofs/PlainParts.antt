-- The parts of a protocol of messages alone, by its expansion.
use Rattle.std.proofs.Common.{◌≡◌, ◌≢◌, length, map, take, drop, None, sym, ◌∙◌, subst}
use Rattle.std.specs.List.{All}
use Rattle.std.proofs.lemmas.List.{length-map}
use Rattle.std.proofs.lemmas.List.Elements.{All-weaker}
use Rattle.std.proofs.Math.Seq.{take-append_seam, drop-append_seam}
use Rattle.bspl_types.specs.declared.expanded.Expanded.{Expanded}
use Rattle.bspl_types.specs.declared.protocol.ParamInfo.{ParamInfo}
use Rattle.bspl_parser.specs.declared.document.Declaration.{Declaration}
use Rattle.bspl_parser.specs.declared.document.Item.{Item}
use Rattle.bspl_parser.specs.declared.document.Item.TheVariants as item
use Rattle.protocol_names.specs.Plain.{IsMessage}
use Rattle.protocol_expand.specs.FlatExpansion.{adornment_of, public_param, private_param, IsExpansionOf}
use Rattle.protocol_names.specs.Plain.{IsUnkeyed}
use Rattle.list_base.proofs.Mapped.{all_of_mapped}
use Rattle.protocol_expand.specs.Expansion.{IsPlain}

-- an item with no `key` is a message
item_alone : (i : Item) → IsUnkeyed i → IsMessage i
item_alone (item.Message s) bare = tt
item_alone (item.Reference r) bare = bare

-- a plain protocol has messages alone
pub messages_alone : (p : Declaration) → IsPlain p → All IsMessage p.body
messages_alone p plain = All-weaker IsUnkeyed IsMessage item_alone p.body plain

-- its public parameters are the first ones
pub public_part : (p : Declaration) (x : Expanded) → IsExpansionOf p x → map public_param p.public ≡ take x.public x.params
public_part p x expands =
    let long : length (map public_param p.public) ≡ x.public = length-map p.public public_param ∙ sym expands.public in
    sym (take-append_seam (map public_param p.public) (map private_param p.private))
    ∙ (λ i. take (long i) (sym expands.params i))

-- and its private ones the others
pub private_part : (p : Declaration) (x : Expanded) → IsExpansionOf p x → map private_param p.private ≡ drop x.public x.params
private_part p x expands =
    let long : length (map public_param p.public) ≡ x.public = length-map p.public public_param ∙ sym expands.public in
    sym (drop-append_seam (map public_param p.public) (map private_param p.private))
    ∙ (λ i. drop (long i) (sym expands.params i))

-- each public parameter is adorned as one of an expansion
pub public_adorned : (p : Declaration) (x : Expanded) → IsExpansionOf p x → All (λ f. adornment_of f.adorn ≢ None) p.public
public_adorned p x expands =
    all_of_mapped (λ (q : ParamInfo). q.adornment ≢ None) public_param p.public
    (subst (All (λ (q : ParamInfo). q.adornment ≢ None)) (sym (public_part p x expands)) x.shape.declared.public_adorned)
