-- How the words of a refusal are put together.
use Rattle.std.proofs.Common.{◌≡◌, ◌∙◌, ◌++◌, ℕ, List, [], Option, Some, ap, append_assoc, refl, sym}
use Rattle.std.proofs.lemmas.List.{append-nil}
use Rattle.bspl_parser.specs.declared.document.Document.{Document}
use Rattle.bspl_parser.specs.Judgement.{IsText}
use Rattle.tool_input.specs.declared.rejection.Rejection.{Rejection}
use Rattle.tool_input.specs.Rejection.{rejection_line}
use Rattle.answer_words.specs.declared.fault.Fault.{Fault}
use Rattle.answer_words.specs.inner.Added.{Adds}
use Rattle.answer_words.specs.Detail.{IsDetail, IsOfDocument}
use Rattle.answer_words.specs.PartLines.{near_line_text}
use Rattle.answer_words.specs.Place.{Spot, spot_text}
use Rattle.answer_words.specs.Refusal.{IsFaultText, advice_at, place_text, sentence}
use Rattle.answer_words.specs.RefusedPlace.{field_place, name_of, number_of}
use Rattle.answer_words.specs.Sentences.{wrong}
use Rattle.answer_words.proofs.TextLemmas.{four_parts}
use Rattle.answer_words.specs.declared.wording.TheConstants as wording
use Rattle.answer_words.specs.declared.wording.details.TheConstants as details

-- a text that is appended as it is wanted is added
pub said_added : (said old new : List ℕ) → new ≡ old ++ said → Adds (λ (added : List ℕ). added ≡ said) old new
said_added said old new grown = record { added = said; grown = grown; holds = refl }

-- what was said of the document that the text spells is added
pub of_document : (text old new : List ℕ) (Said : Document → List ℕ → Type 0) (d : Document) → IsText text d → Adds (Said d) old new → Adds (IsOfDocument text Said) old new
of_document text old new Said d is adds = record { added = adds.added; grown = adds.grown; holds = IsOfDocument.spelled d adds.added is adds.holds }

-- of a text that spells none nothing is said
pub of_no_document : (text old : List ℕ) (Said : Document → List ℕ → Type 0) → ((d : Document) → ¬ IsText text d) → Adds (IsOfDocument text Said) old old
of_no_document text old Said none = record { added = []; grown = sym (append-nil old); holds = IsOfDocument.misspelled none }

-- a place after its label
pub placed : (old label mid new : List ℕ) (spot there : Spot) → mid ≡ old ++ label → spot ≡ there → new ≡ mid ++ spot_text spot → new ≡ old ++ (label ++ spot_text there)
placed old label mid new spot there labelled is grown =
    grown ∙ ap (λ (t : List ℕ). t ++ spot_text spot) labelled ∙ append_assoc old label (spot_text spot) ∙ ap (λ (s : Spot). old ++ (label ++ spot_text s)) is

-- the nearest line, after its head
pub nearest_said : (old mid new : List ℕ) (spot : Spot) (found : Option Spot) → found ≡ Some spot → mid ≡ old ++ details.NEAREST_LINE.now → new ≡ mid ++ spot_text spot → new ≡ old ++ near_line_text found
nearest_said old mid new spot found is headed grown =
    grown ∙ ap (λ (t : List ℕ). t ++ spot_text spot) headed ∙ append_assoc old details.NEAREST_LINE.now (spot_text spot) ∙ ap (λ (o : Option Spot). old ++ near_line_text o) (sym is)

-- the line, the place, what is wrong, the detail and what to do one after the other
pub fault_words : (input : List ℕ) (r : Rejection) (fault : Fault) (place : Option Spot) (lined placed faulted detailed new : List ℕ) → place ≡ field_place input r.code r.first → lined ≡ rejection_line r → placed ≡ lined ++ place_text place → faulted ≡ placed ++ sentence wording.WHAT_IS_WRONG.now (wrong fault (name_of r.first) (name_of r.second)) → Adds (IsDetail input fault r) faulted detailed → new ≡ detailed ++ sentence wording.WHAT_TO_DO.now (advice_at input fault (number_of r.first) place) → IsFaultText input r fault new
fault_words input r fault place lined placed faulted detailed new is line at_place said detail to_do = record {
  detail = detail.added;
  is_detail = detail.holds;
  text =
      let shown = field_place input r.code r.first in
      let what = sentence wording.WHAT_IS_WRONG.now (wrong fault (name_of r.first) (name_of r.second)) in
      let todo = sentence wording.WHAT_TO_DO.now (advice_at input fault (number_of r.first) shown) in
      let parts = four_parts (rejection_line r) (place_text shown) what detail.added todo in
      rw (detail.grown, said, at_place, is, line, parts) at to_do;
}
