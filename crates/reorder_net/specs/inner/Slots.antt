-- How an inbox keeps its envelopes: each in a slot, which is free once it has no copies.
use Rattle.std.specs.Prelude.{Bool, nat_lt, List, [], map}
use Rattle.std.specs.List.{filter}
use Rattle.bspl_types.specs.declared.envelope.Envelope.{Envelope}

-- an envelope without copies, which no inbox holds
abbrev pub no_envelope : Envelope
no_envelope = record {
  to = 0;
  from = 0;
  message = record {
    instance = record { message = 0; key = []; values = [] };
    stamp = 0;
    number = 0;
  };
  copies = 0;
}

-- the envelope is held
abbrev pub has_copies : Envelope → Bool
has_copies e = nat_lt 0 e.copies

-- the envelopes that are held, in the order of their slots
abbrev pub held : List Envelope → List Envelope
held slots = filter has_copies slots

-- for each slot whether its envelope is held
abbrev pub marks_of : List Envelope → List Bool
marks_of slots = map has_copies slots

-- what a mark says
abbrev pub is_held : Bool → Bool
is_held mark = mark
