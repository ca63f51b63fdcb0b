-- The lines of the messages that produce a parameter, one after the other.
use Rattle.std.proofs.Common.{◌≡◌, ◌∙◌, inl, inr, ℕ, ◌+◌, ◌<◌, List, [], ◌∷◌, ◌++◌, length, drop, get_or, sym, ap, subst, append_assoc, add-one, drop-cons}
use Rattle.std.proofs.lemmas.List.{append-nil}
use Rattle.bspl_types.specs.declared.event.Event.{Event}
use Rattle.bspl_types.specs.declared.expanded.Expanded.{Expanded}
use Rattle.bspl_types.specs.declared.protocol.Message.{Message}
use Rattle.bspl_types.specs.Expansion.{no_message}
use Rattle.answer_words.specs.Producers.{ListsProducers}
use Rattle.answer_words.specs.inner.Producer.{AddsProducer}

-- what was written, with a list for the messages that are left, lists all
pub record HasListed (x : Expanded) (run : List Event) (p : ℕ) (left : List Message) (text : List ℕ) : Type 0 where
  pub all : (more : List ℕ) → ListsProducers x run p left more → ListsProducers x run p x.messages (text ++ more)

-- nothing is written yet
pub none_listed : (x : Expanded) (run : List Event) (p : ℕ) → HasListed x run p x.messages []
none_listed x run p = record { all = λ more lists. lists }

-- one message more
pub one_more : (x : Expanded) (run : List Event) (p : ℕ) (m : Message) (left rest : List Message) (old new : List ℕ) → left ≡ m ∷ rest → HasListed x run p left old → AddsProducer x run p m old new → HasListed x run p rest new
one_more x run p m left rest old new is h (inl (adorned, adds)) = record {
  all = λ more lists.
      let line = adds.added in
      let whole = h.all (line ++ more) (rw is (ListsProducers.producer m rest line more adorned adds.holds lists)) in
      subst (ListsProducers x run p x.messages) (sym (ap (λ (t : List ℕ). t ++ more) adds.grown ∙ append_assoc old line more)) whole;
}
one_more x run p m left rest old new is h (inr (other, same)) = record {
  all = λ more lists.
      subst (λ (t : List ℕ). ListsProducers x run p x.messages (t ++ more)) (sym same) (h.all more (rw is (ListsProducers.other m rest more other lists)));
}

-- nothing is left: the list is whole
pub all_listed : (x : Expanded) (run : List Event) (p : ℕ) (left : List Message) (text : List ℕ) → left ≡ [] → HasListed x run p left text → ListsProducers x run p x.messages text
all_listed x run p left text none h =
    subst (ListsProducers x run p x.messages) (append-nil text) (h.all [] (rw none ListsProducers.none))

-- the messages that are left begin with the next one
pub next_message : (xs : List Message) (m : ℕ) → m < length xs → drop m xs ≡ get_or xs m no_message ∷ drop (m + 1) xs
next_message xs m within = rw (add-one, drop-cons xs m no_message)
