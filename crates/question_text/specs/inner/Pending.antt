-- What has been read of a question before the last factor.
use Rattle.std.specs.Prelude.{ℕ, zero, suc, List, [], ◌∷◌, Option, Some, None}
use Rattle.std.specs.Option.{option_map}
use Rattle.question_text.specs.declared.pending.Outer.{Outer}
use Rattle.question_text.specs.declared.pending.Outer.TheVariants as outer
use Rattle.question_text.specs.declared.pending.Pending.{Pending}
use Rattle.question_text.specs.Tree.{Phrase, Not, And, Or, phrase_of}

-- the question before `or`, the term before `and`, and the number of `not`s
pub record Awaiting : Type 0 where
  pub disjunct : Option Phrase
  pub conjunct : Option Phrase
  pub nots : ℕ

-- the same as `Pending`, wherever its trees lie in memory
abbrev pub awaiting_of : Pending → Awaiting
awaiting_of p = record {
  disjunct = option_map phrase_of p.disjunct;
  conjunct = option_map phrase_of p.conjunct;
  nots = p.nots;
}

-- what waits outside of each pair of brackets that is open, the innermost first
abbrev pub awaiting_outside : Outer → List Awaiting
awaiting_outside outer.Nothing = []
awaiting_outside (outer.Within' p _ o) = awaiting_of p ∷ awaiting_outside o

-- nothing
abbrev pub nothing_awaits : Awaiting
nothing_awaits = record { disjunct = None; conjunct = None; nots = 0 }

-- the factor with that number of `not`s before it
abbrev pub under_nots : ℕ → Phrase → Phrase
under_nots zero q = q
under_nots (suc n) q = Not (under_nots n q)

-- the term that the factor completes
abbrev pub with_conjunct : Option Phrase → Phrase → Phrase
with_conjunct None q = q
with_conjunct (Some t) q = And t q

-- the question that the term completes
abbrev pub with_disjunct : Option Phrase → Phrase → Phrase
with_disjunct None q = q
with_disjunct (Some r) q = Or r q

-- the term that the factor completes
abbrev pub term_with : Awaiting → Phrase → Phrase
term_with w q = with_conjunct w.conjunct (under_nots w.nots q)

-- the question that the factor completes
abbrev pub question_with : Awaiting → Phrase → Phrase
question_with w q = with_disjunct w.disjunct (term_with w q)
