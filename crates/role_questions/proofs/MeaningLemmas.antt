-- What texts mean as a key.
use Rattle.std.proofs.Common.{◌≡◌, ℕ, List, length, sym, ap, subst, ◌∙◌}
use Rattle.std.specs.Borrow.{Bor}
use Rattle.std.specs.List.{AllZip}
use Rattle.std.proofs.lemmas.List.{length-map}
use Rattle.serde_json.specs.declared.value.Value.{Value as Json}
use Rattle.list_base.proofs.Mapped.{as_long}
use Rattle.bspl_types.specs.declared.expanded.Expanded.{Expanded}
use Rattle.bspl_types.specs.declared.value.Value.{Value}
use Rattle.bspl_types.specs.ValueSpelling.{SpellsValue}
use Rattle.wire_form.specs.Texts.{text_in, texts_in, texts_of}
use Rattle.role_questions.specs.declared.question.Question.{Question}
use Rattle.role_questions.specs.Meaning.{HasWholeKey}
use Rattle.role_questions.specs.Questions.{ask_enabled, ask_known}
use Rattle.role_questions.specs.inner.Found.{IsKeyOf, IsMeantBy}

-- the texts of the values are as many as these
pub as_many_texts : (texts : List (Bor (List ℕ))) (items : List Json) → texts_of texts ≡ texts_in items → length texts ≡ length items
as_many_texts texts items same = sym (length-map texts (λ (t : Bor (List ℕ)). t.now)) ∙ ap (length {A = List ℕ}) same ∙ length-map items text_in

-- texts that spell a key are as many as its values
pub as_many_values : (items : List Json) (key : List Value) → AllZip SpellsValue (texts_in items) key → length key ≡ length items
as_many_values items key spells = as_long SpellsValue (texts_in items) key spells ∙ length-map items text_in

module _ (x : Expanded) (texts : List (List ℕ)) (none : (key : List Value) → ¬ IsKeyOf x texts key) (q : Question) where
  -- what may be sent is not asked of a key that is not spelled
  pub enabled_of_none : ¬ IsMeantBy x (ask_enabled texts) q
  enabled_of_none meant = none meant.means.0 (record { spelled = meant.means.1; whole = subst (HasWholeKey x) meant.means.2 meant.whole })

  -- nor is what is known
  pub known_of_none : ¬ IsMeantBy x (ask_known texts) q
  known_of_none meant = none meant.means.0 (record { spelled = meant.means.1; whole = subst (HasWholeKey x) meant.means.2 meant.whole })
