-- By the lists of names.
use Rattle.std.proofs.Common.{◌∙◌, length, map, ap}
use Rattle.bspl_types.specs.declared.protocol.ParamInfo.{ParamInfo}
use Rattle.bspl_types.specs.Shape.{key_indices}
use Rattle.protocol_expand.proofs.ShapeLemmas.{as_many_keys, message_texts, param_texts}
use Rattle.protocol_expand.proofs.laws.expansions_keep_names.Goals as goal

pub returns : goal.returns
returns c = record {
  params = λ d x expands. ap (map (λ (p : ParamInfo). p.name)) expands.params ∙ param_texts d.public d.private;
  messages = λ d x expands. message_texts x.roles x.params d d.body x.messages expands.images;
  keys = λ d x expands.
      ap length (x.shape.key_list ∙ ap key_indices expands.params) ∙ as_many_keys 0 d.public d.private;
}
