-- A well-scoped protocol has an expansion, and what was made has its shape.
use Rattle.std.proofs.Common.{◌≡◌, ◌∙◌, List, ap, map, sym, subst}
use Rattle.bspl_types.specs.Shape.{IsWellFormed, key_indices}
use Rattle.bspl_parser.specs.declared.document.Item.TheVariants as item
use Rattle.bspl_parser.specs.declared.document.Schema.{Schema}
use Rattle.bspl_parser.specs.declared.word.Word.{Word}
use Rattle.protocol_names.specs.Names.{texts}
use Rattle.protocol_paths.specs.FlatProtocol.{as_declaration}
use Rattle.protocol_expand.specs.FlatExpansion.{params_of}
use Rattle.protocol_expand.proofs.ExpansionLemmas.{images_are, params_are, shape_made}
use Rattle.protocol_expand.proofs.KnownNamesLemmas.{item_images, known_messages}
use Rattle.protocol_expand.proofs.WellScopedLemmas.{expands, few_params, few_roles}
use Rattle.protocol_expand.proofs.flat_expansion.expansion_of_well_scoped.Goals as goal

pub messages_of-requires : goal.messages_of-requires
messages_of-requires c =
    let d = as_declaration c.args.p.now in
    let is_roles : c.as_slice-4.result.now ≡ texts d.roles = c.as_slice-4.ensures ∙ c.in_ok-roles.ensures ∙ ap (map (λ (w : Word). w.text)) c.as_slice.ensures in
    let is_params : c.as_slice-5.result.now ≡ params_of d = c.as_slice-5.ensures ∙ params_are _ _ _ _ _ c.in_ok-params.ensures c.as_slice-2.ensures c.as_slice-3.ensures in
    record {
      few_roles = few_roles d _ c.requires is_roles;
      few_params = few_params d _ c.requires is_params;
      known = known_messages d _ _ c.as_slice-6.result.now (ap (λ (ss : List Schema). map item.Message ss) (sym c.as_slice-6.ensures)) is_roles is_params c.requires.messages;
    }

pub key_indices-requires : goal.key_indices-requires
key_indices-requires c =
    few_params (as_declaration c.args.p.now) _ c.requires (c.as_slice-7.ensures ∙ params_are _ _ _ _ _ c.in_ok-params.ensures c.as_slice-2.ensures c.as_slice-3.ensures)

pub invariant_of-result : goal.invariant_of-result
invariant_of-result c =
    let d = as_declaration c.args.p.now in
    let made = expands d c.requires in
    record {
      shape = subst (λ keys. IsWellFormed c.in_ok-name.name c.in_ok-roles.roles c.in_ok-params.params c.len.result keys c.in_ok-messages.messages) (sym (c.in_ok-keys.ensures ∙ ap key_indices c.as_slice-7.ensures))
          (shape_made d made.0 c.in_ok-name.name c.in_ok-roles.roles c.in_ok-params.params c.len.result c.in_ok-messages.messages made.1
          (c.in_ok-name.ensures ∙ c.as_slice-8.ensures)
          (c.in_ok-roles.ensures ∙ ap (map (λ (w : Word). w.text)) c.as_slice.ensures)
          (params_are _ _ _ _ _ c.in_ok-params.ensures c.as_slice-2.ensures c.as_slice-3.ensures)
          c.len.ensures
          (images_are _ _ _ _ _ _ c.in_ok-messages.messages c.as_slice-4.ensures c.as_slice-5.ensures (ap (λ (ss : List Schema). map item.Message ss) c.as_slice-6.ensures) (item_images _ _ _ _ c.in_ok-messages.ensures)));
    }

pub returns : goal.returns
returns c = record {
  named = c.in_ok-name.ensures ∙ c.as_slice-8.ensures;
  roles = c.in_ok-roles.ensures ∙ ap (map (λ (w : Word). w.text)) c.as_slice.ensures;
  params = params_are _ _ _ _ _ c.in_ok-params.ensures c.as_slice-2.ensures c.as_slice-3.ensures;
  public = c.len.ensures;
  images = images_are _ _ _ _ _ _ c.in_ok-messages.messages c.as_slice-4.ensures c.as_slice-5.ensures (ap (λ (ss : List Schema). map item.Message ss) c.as_slice-6.ensures) (item_images _ _ _ _ c.in_ok-messages.ensures);
}
