-- What may stand after a text, and how a list of it grows.
use Rattle.std.proofs.Common.{◌≡◌, ◌∙◌, inl, inr, ℕ, ◌≤◌, List, [], ◌∷◌, ◌++◌, length, sym, ap, subst, append_assoc, arith}
use Rattle.std.proofs.lemmas.List.{append-nil}
use Rattle.bspl_parser.specs.declared.document.Document.{Document}
use Rattle.bspl_parser.specs.Judgement.{AreExclusive, IsBadSyntax, IsText}
use Rattle.bspl_parser.specs.Tokens.{IsBadByte}
use Rattle.answer_words.specs.Choices.{IsRefusedWithin, ListsChoices, signs}
use Rattle.answer_words.specs.inner.Added.{Adds}
use Rattle.answer_words.specs.inner.Choice.{IsChoice}

-- what was appended, with a list of the signs that are left, lists all
pub record HasListed (before : List ℕ) (left : List (List ℕ)) (old new : List ℕ) : Type 0 where
  pub listed : List ℕ
  pub grown : new ≡ old ++ listed
  pub all : (more : List ℕ) → ListsChoices before left more → ListsChoices before signs (listed ++ more)

-- one sign more
pub one_more : (before sign old mid new : List ℕ) (rest left : List (List ℕ)) → left ≡ sign ∷ rest → HasListed before left old mid → IsChoice before sign mid new → HasListed before rest old new
one_more before sign old mid new rest left is h (inl (may, grown)) = record {
  listed = h.listed ++ 32 ∷ sign;
  grown = grown ∙ ap (λ (t : List ℕ). t ++ 32 ∷ sign) h.grown ∙ append_assoc old h.listed (32 ∷ sign);
  all = λ more lists. rw append_assoc (h.all (32 ∷ (sign ++ more)) (rw is (ListsChoices.may sign rest more may lists)));
}
one_more before sign old mid new rest left is h (inr (may_not, same)) = record {
  listed = h.listed;
  grown = same ∙ h.grown;
  all = λ more lists. h.all more (rw is (ListsChoices.may_not sign rest more may_not lists));
}

-- nothing is left: the list is whole
pub all_listed : (before old new : List ℕ) (left : List (List ℕ)) → left ≡ [] → HasListed before left old new → Adds (ListsChoices before signs) old new
all_listed before old new left none h = record {
  added = h.listed;
  grown = h.grown;
  holds = subst (ListsChoices before signs) (append-nil h.listed) (h.all [] (rw none ListsChoices.none));
}

-- nothing is listed yet
pub none_listed : (before old new : List ℕ) → new ≡ old → HasListed before signs old new
none_listed before old new same = record { listed = []; grown = same ∙ sym (append-nil old); all = λ more lists. lists }

-- three facts of a text exclude one another
abbrev pub Exclusive : Type 0
Exclusive = (text : List ℕ) (a b : ℕ) (d : Document) → AreExclusive (IsText text d) (IsBadByte text a) (IsBadSyntax text b)

-- a document has nothing that is refused
pub text_is_free : Exclusive → (text : List ℕ) (d : Document) → IsText text d → ¬ IsRefusedWithin text
text_is_free exclusive text d is r =
    elim r.refused [
      | inl bad ↦ (exclusive text r.offset r.offset d).first is bad
      | inr bad ↦ (exclusive text r.offset r.offset d).second is bad
    ]

-- nor has a text whose one error comes later
pub later_syntax : Exclusive → ((text : List ℕ) (a b : ℕ) → IsBadSyntax text a → IsBadSyntax text b → a ≡ b) → (text : List ℕ) (offset : ℕ) → IsBadSyntax text offset → length text ≤ offset → ¬ IsRefusedWithin text
later_syntax exclusive once text offset is late r =
    let within = r.within in
    elim r.refused [
      | inl bad ↦ (exclusive text r.offset offset (record { protocols = [] })).third bad is
      | inr bad ↦ let same : r.offset ≡ offset = once text r.offset offset bad is in omega (arith, same, late, within)
    ]

pub later_byte : Exclusive → ((text : List ℕ) (a b : ℕ) → IsBadByte text a → IsBadByte text b → a ≡ b) → (text : List ℕ) (offset : ℕ) → IsBadByte text offset → length text ≤ offset → ¬ IsRefusedWithin text
later_byte exclusive once text offset is late r =
    let within = r.within in
    elim r.refused [
      | inl bad ↦ let same : r.offset ≡ offset = once text r.offset offset bad is in omega (arith, same, late, within)
      | inr bad ↦ (exclusive text offset r.offset (record { protocols = [] })).third is bad
    ]
