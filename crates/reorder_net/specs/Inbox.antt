-- What an inbox is seen as, and what putting and taking make of it.
use Rattle.std.specs.Prelude.{ℕ, ◌-◌, ◌==◌, if◌then◌else◌, List, [], ◌∷◌, ◌++◌, slice_set, remove}
use Rattle.bspl_types.specs.declared.envelope.Envelope.{Envelope}

-- the envelopes that are held, in order, and for how many puts there is room
pub record Inbox : Type 0 where
  pub envelopes : List Envelope
  pub spare : ℕ

-- the envelope comes last; one without copies is dropped
abbrev pub put_last : List Envelope → Envelope → List Envelope
put_last held e = if e.copies == 0 then held else held ++ e ∷ []

-- the envelope e at the index has one copy less; with its last copy it leaves, and the rest stay
abbrev pub after_spending : List Envelope → ℕ → Envelope → List Envelope
after_spending held i e =
    if e.copies == 1 then remove held i
    else slice_set held i (record e { copies = e.copies - 1 })
