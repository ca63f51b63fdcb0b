-- What has an expansion has names of its own.
use Rattle.std.proofs.Common.{◌≡◌, ◌≢◌, ℕ, List, map, subst, inl, inr}
use Rattle.std.specs.List.{AllPairs}
use Rattle.bspl_types.specs.declared.expanded.Expanded.{Expanded}
use Rattle.bspl_types.specs.declared.protocol.Message.{Message}
use Rattle.bspl_types.specs.declared.protocol.ParamInfo.{ParamInfo}
use Rattle.bspl_parser.specs.declared.document.Declaration.{Declaration}
use Rattle.bspl_parser.specs.declared.word.Word.{Word}
use Rattle.protocol_names.specs.Names.{message_words, param_words, texts}
use Rattle.protocol_expand.specs.FlatExpansion.{IsExpansionOf}
use Rattle.protocol_expand.specs.WellScoped.{AreDistinct}
use Rattle.list_base.proofs.Mapped.{mapped_pairs, pairs_of_mapped}
use Rattle.protocol_expand.specs.Repeats.{AreNamesDistinct, RepeatsName}
use Rattle.protocol_expand.proofs.OneFirst.{none_repeated}
use Rattle.protocol_expand.specs.FlatLaws.{ExpansionsKeepNames}

-- words are apart where what is named so is
pub names_apart : {X : Type 0} (name : X → List ℕ) (xs : List X) (words : List Word) → map name xs ≡ texts words → AllPairs (λ a b. name a ≢ name b) xs → AreDistinct words
names_apart name xs words same apart = record {
  distinct = pairs_of_mapped (λ a b. a ≢ b) (λ (w : Word). w.text) words (subst (AllPairs (λ a b. a ≢ b)) same (mapped_pairs (λ a b. a ≢ b) name xs apart));
}

-- its messages have names of their own, and so have its parameters
pub own_names : ExpansionsKeepNames → (d : Declaration) (x : Expanded) → IsExpansionOf d x → AreNamesDistinct d
own_names keep d x expands = record {
  messages = names_apart (λ (m : Message). m.name) x.messages (message_words d) (keep.messages d x expands) x.shape.message_names.distinct;
  params = names_apart (λ (p : ParamInfo). p.name) x.params (param_words d) (keep.params d x expands) x.shape.param_names.distinct;
}

-- so no name is repeated
pub none_repeats : ExpansionsKeepNames → (d : Declaration) (x : Expanded) (offset : ℕ) → IsExpansionOf d x → RepeatsName d offset → ⊥
none_repeats keep d x offset expands (inl message) = none_repeated (message_words d) offset (own_names keep d x expands).messages message
none_repeats keep d x offset expands (inr param) = none_repeated (param_words d) offset (own_names keep d x expands).params param.param
