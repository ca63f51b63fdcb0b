-- What has been read follows the grammar.
use Rattle.std.proofs.Common.{◌≡◌, ℕ, zero, suc, Bool, true, false, List, [], ◌∷◌, ◌++◌, Option, Some, None, refl}
use Rattle.std.specs.Prelude.{IfSome}
use Rattle.std.specs.List.{All}
use Rattle.std.proofs.lemmas.List.Elements.{All-nil, All-push}
use Rattle.std.proofs.Math.Bool.{cond}
use Rattle.bspl_types.specs.Name.{is_name}
use Rattle.question_text.specs.declared.keyword.Keyword.{Keyword}
use Rattle.question_text.specs.declared.keyword.Keyword.TheVariants as keyword
use Rattle.question_text.specs.declared.part.Link.TheVariants as link
use Rattle.question_text.specs.declared.part.Place.{Place}
use Rattle.question_text.specs.declared.part.Place.TheVariants.{First, Second}
use Rattle.question_text.specs.declared.part.Verb.{Verb}
use Rattle.question_text.specs.declared.part.Verb.TheVariants as verb
use Rattle.question_text.specs.declared.tree.Said.{Said}
use Rattle.question_text.specs.declared.tree.Said.TheVariants as said
use Rattle.question_text.specs.inner.Keyword.{keyword_of}
use Rattle.question_text.specs.inner.Pending.{Awaiting, under_nots, with_conjunct, with_disjunct, term_with, question_with}
use Rattle.question_text.specs.inner.Piece.{Piece, Nothing, Linked, Verbed, Knowing, KnowingRole, Once, MayBe, Resting, ButFor, Whole, said_of, placed}
use Rattle.question_text.specs.inner.Progress.{Progress, with_piece}
use Rattle.question_text.specs.inner.Step.{begin_said, after_factor, if_name, begin_factor, after_said, after_rest, step_from}
use Rattle.question_text.specs.Levels.{HasLevel, HasNames, IsName, QuestionLevel, TermLevel, FactorLevel}
use Rattle.question_text.specs.Tree.{Phrase, Happened, Before, After, Can, Rest, Not, And, Or, Bracketed}

-- the names before a happening are names
abbrev pub PlaceNames : Place → Type 0
PlaceNames First = Unit {0}
PlaceNames (Second link one) = HasNames one

-- the piece follows the grammar
abbrev pub IsFormed : Piece → Type 0
IsFormed Nothing = Unit {0}
IsFormed (Linked link one) = HasNames one
IsFormed (Verbed place verb) = PlaceNames place
IsFormed (Knowing place) = PlaceNames place
IsFormed (KnowingRole place role) = PlaceNames place × IsName role
IsFormed (Once h) = HasNames h
IsFormed MayBe = Unit {0}
IsFormed (Resting excused) = All IsName excused
IsFormed (ButFor excused) = All IsName excused
IsFormed (Whole q) = HasLevel FactorLevel q

-- so does what waits
pub record Awaits (w : Awaiting) : Type 0 where
  pub disjunct : IfSome w.disjunct (HasLevel QuestionLevel)
  pub conjunct : IfSome w.conjunct (HasLevel TermLevel)

-- and what waits outside of the brackets
abbrev pub AllAwait : List Awaiting → Type 0
AllAwait [] = Unit {0}
AllAwait (w ∷ o) = Awaits w × AllAwait o

-- all of it does
pub record Follows (r : Progress) : Type 0 where
  pub piece : IsFormed r.piece
  pub inside : Awaits r.inside
  pub outside : AllAwait r.outside

-- a factor is a term, and a term a question
pub factor_is_term : (q : Phrase) → HasLevel FactorLevel q → HasLevel TermLevel q
factor_is_term (Happened h) f = f
factor_is_term (Before one other) f = f
factor_is_term (After one other) f = f
factor_is_term (Can message) f = f
factor_is_term (Rest excused) f = f
factor_is_term (Not q) f = f
factor_is_term (And q r) f = absurd f.0
factor_is_term (Or q r) f = absurd f.0
factor_is_term (Bracketed q) f = f

pub term_is_question : (q : Phrase) → HasLevel TermLevel q → HasLevel QuestionLevel q
term_is_question (Happened h) f = f
term_is_question (Before one other) f = f
term_is_question (After one other) f = f
term_is_question (Can message) f = f
term_is_question (Rest excused) f = f
term_is_question (Not q) f = f
term_is_question (And q r) f = (tt, f.1, f.2)
term_is_question (Or q r) f = absurd f.0
term_is_question (Bracketed q) f = f

nots_formed : (n : ℕ) (q : Phrase) → HasLevel FactorLevel q → HasLevel FactorLevel (under_nots n q)
nots_formed zero q f = f
nots_formed (suc n) q f = nots_formed n q f

conjunct_formed : (c : Option Phrase) (q : Phrase) → IfSome c (HasLevel TermLevel) → HasLevel FactorLevel q → HasLevel TermLevel (with_conjunct c q)
conjunct_formed None q h f = factor_is_term q f
conjunct_formed (Some t) q h f = (tt, h, f)

disjunct_formed : (d : Option Phrase) (q : Phrase) → IfSome d (HasLevel QuestionLevel) → HasLevel TermLevel q → HasLevel QuestionLevel (with_disjunct d q)
disjunct_formed None q h f = term_is_question q f
disjunct_formed (Some t) q h f = (tt, h, f)

-- what a factor completes
pub term_formed : (w : Awaiting) (q : Phrase) → Awaits w → HasLevel FactorLevel q → HasLevel TermLevel (term_with w q)
term_formed w q a f = conjunct_formed w.conjunct (under_nots w.nots q) a.conjunct (nots_formed w.nots q f)

pub question_formed : (w : Awaiting) (q : Phrase) → Awaits w → HasLevel FactorLevel q → HasLevel QuestionLevel (question_with w q)
question_formed w q a f = disjunct_formed w.disjunct (term_with w q) a.disjunct (term_formed w q a f)

-- what was read follows the grammar
abbrev Keeps : Option Progress → Type 0
Keeps result = IfSome result Follows

piece_kept : (w : Awaiting) (o : List Awaiting) (p : Option Piece) → Awaits w → AllAwait o → IfSome p IsFormed → Keeps (with_piece w o p)
piece_kept w o None a b h = tt
piece_kept w o (Some p) a b h = record { piece = h; inside = a; outside = b }

factor_kept : (w : Awaiting) (o : List Awaiting) (q : Phrase) (k : Option Keyword) → Awaits w → AllAwait o → HasLevel FactorLevel q → Keeps (after_factor w o q k)
factor_kept w o q (Some keyword.And) a b f =
    record { piece = tt; inside = record { disjunct = a.disjunct; conjunct = term_formed w q a f }; outside = b }
factor_kept w o q (Some keyword.Or) a b f =
    record { piece = tt; inside = record { disjunct = question_formed w q a f; conjunct = tt }; outside = b }
factor_kept w [] q (Some keyword.Close) a b f = tt
factor_kept w (v ∷ o) q (Some keyword.Close) a b f =
    record { piece = question_formed w q a f; inside = b.0; outside = b.1 }
factor_kept w o q k a b f = tt

said_kept : (w : Awaiting) (o : List Awaiting) (place : Place) (k : Option Keyword) → Awaits w → AllAwait o → PlaceNames place → Keeps (with_piece w o (begin_said place k))
said_kept w o place (Some keyword.Sent) a b n = record { piece = n; inside = a; outside = b }
said_kept w o place (Some keyword.Received) a b n = record { piece = n; inside = a; outside = b }
said_kept w o place (Some keyword.Bound) a b n = record { piece = n; inside = a; outside = b }
said_kept w o place (Some keyword.Knows) a b n = record { piece = n; inside = a; outside = b }
said_kept w o place k a b n = tt

begin_kept : (w : Awaiting) (o : List Awaiting) (k : Option Keyword) → Awaits w → AllAwait o → Keeps (begin_factor w o k)
begin_kept w o (Some keyword.Not) a b =
    record { piece = tt; inside = record { disjunct = a.disjunct; conjunct = a.conjunct }; outside = b }
begin_kept w o (Some keyword.Open) a b =
    record { piece = tt; inside = record { disjunct = tt; conjunct = tt }; outside = (a, b) }
begin_kept w o (Some keyword.Rest) a b = record { piece = All-nil IsName; inside = a; outside = b }
begin_kept w o (Some keyword.Can) a b = record { piece = tt; inside = a; outside = b }
begin_kept w o k a b = said_kept w o First k a b tt

after_said_kept : (w : Awaiting) (o : List Awaiting) (h : Said) (k : Option Keyword) → Awaits w → AllAwait o → HasNames h → Keeps (after_said w o h k)
after_said_kept w o h (Some keyword.Before) a b n = record { piece = n; inside = a; outside = b }
after_said_kept w o h (Some keyword.After) a b n = record { piece = n; inside = a; outside = b }
after_said_kept w o h k a b n = factor_kept w o (Happened h) k a b n

rest_kept : (w : Awaiting) (o : List Awaiting) (excused : List (List ℕ)) (k : Option Keyword) → Awaits w → AllAwait o → All IsName excused → Keeps (after_rest w o excused k)
rest_kept w o excused (Some keyword.But) a b n = record { piece = n; inside = a; outside = b }
rest_kept w o excused k a b n = factor_kept w o (Rest excused) k a b n

name_kept : (w : Awaiting) (o : List Awaiting) (word : List ℕ) (p : Piece) → Awaits w → AllAwait o → (IsName word → IsFormed p) → Keeps (with_piece w o (if_name word p))
name_kept w o word p a b h = piece_kept w o (if_name word p) a b (go (is_name word) refl)
  where
    go : (c : Bool) → is_name word ≡ c → IfSome (cond c (Some p) None) IsFormed
    go true e = h e
    go false e = tt

pub said_names : (verb : Verb) (name : List ℕ) → IsName name → HasNames (said_of verb name)
said_names verb.Sent name h = h
said_names verb.Received name h = h
said_names verb.Bound name h = h

placed_formed : (place : Place) (h : Said) → PlaceNames place → HasNames h → IsFormed (placed place h)
placed_formed First h p n = n
placed_formed (Second link.Before one) h p n = (p, n)
placed_formed (Second link.After one) h p n = (p, n)

-- each step keeps to the grammar
pub step_follows : (r : Progress) (word : List ℕ) → Follows r → Keeps (step_from r.inside r.outside r.piece word)
step_follows r word f = go r.piece f.piece
  where
    go : (p : Piece) → IsFormed p → Keeps (step_from r.inside r.outside p word)
    go Nothing h = begin_kept r.inside r.outside (keyword_of word) f.inside f.outside
    go (Linked link one) h = said_kept r.inside r.outside (Second link one) (keyword_of word) f.inside f.outside h
    go (Verbed place verb) h = name_kept r.inside r.outside word (placed place (said_of verb word)) f.inside f.outside (λ n. placed_formed place (said_of verb word) h (said_names verb word n))
    go (Knowing place) h = name_kept r.inside r.outside word (KnowingRole place word) f.inside f.outside (λ n. (h, n))
    go (KnowingRole place role) h = name_kept r.inside r.outside word (placed place (said.Knows role word)) f.inside f.outside (λ n. placed_formed place (said.Knows role word) h.0 (h.1, n))
    go (Once h') h = after_said_kept r.inside r.outside h' (keyword_of word) f.inside f.outside h
    go MayBe h = name_kept r.inside r.outside word (Whole (Can word)) f.inside f.outside (λ n. n)
    go (Resting excused) h = rest_kept r.inside r.outside excused (keyword_of word) f.inside f.outside h
    go (ButFor excused) h = name_kept r.inside r.outside word (Resting (excused ++ word ∷ [])) f.inside f.outside (λ n. All-push IsName excused word h n)
    go (Whole q) h = factor_kept r.inside r.outside q (keyword_of word) f.inside f.outside h
