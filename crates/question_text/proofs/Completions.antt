-- Whatever has been read, some words complete it to a question.
use Rattle.std.proofs.Common.{◌≡◌, ℕ, List, [], ◌∷◌, ◌++◌, refl, sym, ◌∙◌, append_assoc, codes}
use Rattle.std.proofs.lemmas.List.{append-nil}
use Rattle.std.proofs.lemmas.List.Elements.{All-push}
use Rattle.bspl_types.specs.Name.{is_name}
use Rattle.question_text.specs.declared.part.Link.TheVariants as link
use Rattle.question_text.specs.declared.part.Place.{Place}
use Rattle.question_text.specs.declared.part.Place.TheVariants.{First, Second}
use Rattle.question_text.specs.declared.tree.Said.{Said}
use Rattle.question_text.specs.declared.tree.Said.TheVariants as said
use Rattle.question_text.specs.inner.Pending.{Awaiting, question_with}
use Rattle.question_text.specs.inner.Piece.{Piece, Nothing, Linked, Verbed, Knowing, KnowingRole, Once, MayBe, Resting, ButFor, Whole, words_before, said_of, linked}
use Rattle.question_text.specs.inner.Progress.{Progress}
use Rattle.question_text.specs.Levels.{HasLevel, HasNames, IsName, QuestionLevel, FactorLevel}
use Rattle.question_text.specs.Tree.{Phrase, Happened, Can, Rest, Bracketed, words_of_phrase, words_of_said}
use Rattle.question_text.proofs.Forms.{PlaceNames, IsFormed, Awaits, AllAwait, Follows, question_formed, said_names}
use Rattle.question_text.proofs.ReadWords.{piece_words, awaiting_words, words_around, progress_words}
use Rattle.question_text.proofs.WordLemmas.{question_words, verb_words, rest_words}

-- some words after these make a question
pub record Completes (words : List (List ℕ)) : Type 0 where
  pub more : List (List ℕ)
  pub question : Phrase
  pub is : words_of_phrase question ≡ words ++ more
  pub formed : HasLevel QuestionLevel question

-- some words after these make a factor
record CompletesFactor (words : List (List ℕ)) : Type 0 where
  more : List (List ℕ)
  factor : Phrase
  is : words_of_phrase factor ≡ words ++ more
  formed : HasLevel FactorLevel factor

-- after a factor the brackets that are open are closed
brackets_close : (o : List Awaiting) (w : Awaiting) (q : Phrase) → AllAwait o → Awaits w → HasLevel FactorLevel q → Completes (words_around w o ++ words_of_phrase q)
brackets_close [] w q b a f =
    record { more = []; question = question_with w q; is = question_words w q ∙ sym (append-nil (awaiting_words w ++ words_of_phrase q)); formed = question_formed w q a f }
brackets_close (v ∷ o) w q b a f =
    let outer = brackets_close o v (Bracketed (question_with w q)) b.1 b.0 (question_formed w q a f) in
    record {
      more = codes ")" ∷ outer.more;
      question = outer.question;
      is = outer.is ∙ rw question_words (simp append_assoc);
      formed = outer.formed;
    }

-- a name
abbrev some_name : List ℕ
some_name = codes "a"

is_a_name : IsName some_name
unfolding is_name
is_a_name = refl

-- a happening at its place
abbrev placed_factor : Place → Said → Phrase
placed_factor First h = Happened h
placed_factor (Second link one) h = linked link one h

factor_words : (place : Place) (h : Said) → words_of_phrase (placed_factor place h) ≡ words_before place ++ words_of_said h
factor_words First h = refl
factor_words (Second link.Before one) h = sym (append_assoc (words_of_said one) (codes "before" ∷ []) (words_of_said h))
factor_words (Second link.After one) h = sym (append_assoc (words_of_said one) (codes "after" ∷ []) (words_of_said h))

factor_formed : (place : Place) (h : Said) → PlaceNames place → HasNames h → HasLevel FactorLevel (placed_factor place h)
factor_formed First h p n = n
factor_formed (Second link.Before one) h p n = (p, n)
factor_formed (Second link.After one) h p n = (p, n)

-- each piece is completed to a factor
piece_completes : (p : Piece) → IsFormed p → CompletesFactor (piece_words p)
piece_completes Nothing f =
    record { more = codes "can" ∷ some_name ∷ []; factor = Can some_name; is = refl; formed = is_a_name }
piece_completes (Linked link one) f =
    record {
      more = codes "sent" ∷ some_name ∷ [];
      factor = placed_factor (Second link one) (said.Sent some_name);
      is = factor_words (Second link one) (said.Sent some_name);
      formed = factor_formed (Second link one) (said.Sent some_name) f is_a_name;
    }
piece_completes (Verbed place verb) f =
    record {
      more = some_name ∷ [];
      factor = placed_factor place (said_of verb some_name);
      is = factor_words place (said_of verb some_name) ∙ rw verb_words (simp append_assoc);
      formed = factor_formed place (said_of verb some_name) f (said_names verb some_name is_a_name);
    }
piece_completes (Knowing place) f =
    record {
      more = some_name ∷ some_name ∷ [];
      factor = placed_factor place (said.Knows some_name some_name);
      is = factor_words place (said.Knows some_name some_name) ∙ simp append_assoc;
      formed = factor_formed place (said.Knows some_name some_name) f (is_a_name, is_a_name);
    }
piece_completes (KnowingRole place role) f =
    record {
      more = some_name ∷ [];
      factor = placed_factor place (said.Knows role some_name);
      is = factor_words place (said.Knows role some_name) ∙ simp append_assoc;
      formed = factor_formed place (said.Knows role some_name) f.0 (f.1, is_a_name);
    }
piece_completes (Once h) f =
    record { more = []; factor = Happened h; is = sym (append-nil (words_of_said h)); formed = f }
piece_completes MayBe f = record { more = some_name ∷ []; factor = Can some_name; is = refl; formed = is_a_name }
piece_completes (Resting excused) f =
    record { more = []; factor = Rest excused; is = sym (append-nil (words_of_phrase (Rest excused))); formed = f }
piece_completes (ButFor excused) f =
    record {
      more = some_name ∷ [];
      factor = Rest (excused ++ some_name ∷ []);
      is = rest_words excused some_name;
      formed = All-push IsName excused some_name f is_a_name;
    }
piece_completes (Whole q) f = record { more = []; factor = q; is = sym (append-nil (words_of_phrase q)); formed = f }

-- all that has been read is completed
pub progress_completes : (r : Progress) → Follows r → Completes (progress_words r)
progress_completes r f =
    let p = piece_completes r.piece f.piece in
    let c = brackets_close r.outside r.inside p.factor f.outside f.inside p.formed in
    record {
      more = p.more ++ c.more;
      question = c.question;
      is = c.is ∙ rw p.is (simp append_assoc);
      formed = c.formed;
    }
