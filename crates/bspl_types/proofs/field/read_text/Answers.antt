-- What was read is the text, or the beginning of each text that the field may spell.
use Rattle.std.proofs.Common.{ℕ, List, [], ◌∷◌, ◌++◌, MatchOption, ap, sym, subst, ◌∙◌, arith}
use Rattle.std.proofs.lemmas.Bool.{iff_false}
use Rattle.bspl_types.specs.inner.Spelling.{spelled_bytes, SpellsText}
use Rattle.bspl_types.proofs.SpellingLemmas.{no_text_left, no_room_left}
use Rattle.bspl_types.proofs.field.read_text.Goals as goal

pub returns-then-is_closing_quote : goal.returns-then-is_closing_quote
returns-then-is_closing_quote c =
    let is_text = c.of.ensures.text in
    record {
      text = is_text;
      spelled = c.bytes.invariant.0 ∙ ap (λ rest. spelled_bytes c.bytes.text ++ rest) (c.is_closing_quote.ensures.0 c.if-is_closing_quote.true) ∙ ap (λ text. spelled_bytes text ++ 34 ∷ []) (sym (c.of.ensures.bytes ∙ c.as_slice.ensures));
    }

pub returns-in_err-byte : goal.returns-in_err-byte
returns-in_err-byte c =
    subst (λ r. MatchOption r ((text : List ℕ) → ¬ SpellsText c.args.field.now text) (SpellsText c.args.field.now)) (sym c.from_residual.ensures)
    (no_text_left c.args.field.now c.bytes.text c.bytes.rest.now c.bytes.invariant.0 (iff_false c.is_closing_quote.ensures c.if-is_closing_quote.false) c.in_err-byte.ensures)

pub returns-then-len-eq32 : goal.returns-then-len-eq32
returns-then-len-eq32 c = no_room_left c.args.field.now c.bytes.text c.bytes.rest.now c.bytes.invariant.0 (iff_false c.is_closing_quote.ensures c.if-is_closing_quote.false) (omega (arith, c.len.ensures, c.if-len-eq32.true))
