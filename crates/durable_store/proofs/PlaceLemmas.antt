-- A place of an image holds one entry at most.
use Rattle.std.proofs.Common.{◌≡◌, ℕ, ◌+◌, ◌<◌, ◌≤◌, List, ◌++◌, length, take, drop, get_or, Some, sym, ap, ◌∙◌, arith}
use Rattle.std.specs.Prelude.{slice_get}
use Rattle.std.proofs.lemmas.List.{get_or_default, get_or-take, length-take-le, same_lists, take-append-drop}
use Rattle.std.proofs.lemmas.Option.{slice_get-get_or}
use Rattle.bspl_types.specs.declared.expanded.Expanded.{Expanded}
use Rattle.bspl_types.specs.Admission.{IsAdmitted}
use Rattle.stamped_history.specs.declared.entry.Entry.{Entry}
use Rattle.role_journal.specs.EntryBody.{BodiesAreDistinct, BodiesAreWhole, entry_body}
use Rattle.role_journal.specs.Image.{HasBytes}
use Rattle.role_journal.specs.Journal.{gate_of}
use Rattle.durable_store.specs.Alien.{HoldsEntry}

-- so many bytes at one offset are these alone
pub same_bytes : (image : List ℕ) (at : ℕ) (bytes others : List ℕ) → length bytes ≡ length others → HasBytes image at bytes → HasBytes image at others → bytes ≡ others
same_bytes image at bytes others size has also = same_lists bytes others size (λ k d less.
    let more : k < length others = omega (arith, less, size) in
    get_or_default bytes k d 0 less ∙ sym (has k less) ∙ also k more ∙ get_or_default others k 0 d more)

-- each of the first places holds its entry
abbrev pub HoldEach : Expanded → List ℕ → List Entry → Type 0
HoldEach x image entries = (place : ℕ) (e : Entry) → slice_get entries place ≡ Some e → HoldsEntry x image place e

module _ (distinct : BodiesAreDistinct) (whole : BodiesAreWhole) (x : Expanded) (image : List ℕ) (admitted : IsAdmitted x) where
  pub one_entry : (place : ℕ) (e f : Entry) → HoldsEntry x image place e → HoldsEntry x image place f → e ≡ f
  one_entry place e f one other = distinct x e f admitted one.entry other.entry
      (same_bytes image (gate_of place + 1) (entry_body e) (entry_body f) (whole x e one.entry ∙ sym (whole x f other.entry)) one.body other.body)

  -- the entries of fewer places are the first ones
  pub first_entries : (es fs : List Entry) → length es ≤ length fs → HoldEach x image es → HoldEach x image fs → es ≡ take (length es) fs
  first_entries es fs few one other = same_lists es (take (length es) fs) (sym (length-take-le (length es) fs few)) (λ k d less.
      one_entry k (get_or es k d) (get_or fs k d) (one k (get_or es k d) (slice_get-get_or es k d less)) (other k (get_or fs k d) (slice_get-get_or fs k d (omega (arith, less, few))))
      ∙ sym (get_or-take (length es) fs k d less))

  pub entries_split : (es fs : List Entry) → length es ≤ length fs → HoldEach x image es → HoldEach x image fs → fs ≡ es ++ drop (length es) fs
  entries_split es fs few one other = sym (take-append-drop (length es) fs) ∙ ap (λ (l : List Entry). l ++ drop (length es) fs) (sym (first_entries es fs few one other))
