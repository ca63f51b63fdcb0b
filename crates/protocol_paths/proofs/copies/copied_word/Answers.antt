-- The copy has the word's text and offset.
use Rattle.std.proofs.Common.{◌∙◌, refl}
use Rattle.protocol_paths.proofs.copies.copied_word.Goals as goal

pub returns : goal.returns
returns c = c.equal_words.ensures _ c.args.word.now (c.lent.ensures ∙ c.as_slice.ensures) refl
