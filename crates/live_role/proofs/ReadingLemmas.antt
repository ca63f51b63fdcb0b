-- What is read until the line comes.
use Rattle.std.proofs.Common.{◌≡◌, ◌<◌, ◌≤◌, ◌+◌, ℕ, List, [], ◌++◌, Option, Some, None, Result, Ok, Err, IfErr, IsErrAnd, drop, length, refl, sym, subst, arith, append-nil, length-append}
use Rattle.std.proofs.KnownBytes.{Consumes-kept, Consumes-trans}
use Rattle.std.specs.Io.KnownBytes.{Consumes, IsAtEnd, Keeps}
use Rattle.bspl_io.specs.declared.source.ReadRefusal.{ReadRefusal}
use Rattle.bspl_io.specs.declared.source.ReadRefusal.TheVariants.{ReadFault}
use Rattle.bspl_types.specs.Limits.{input_limit}
use Rattle.live_role.specs.declared.opening.Opening.{Opening}
use Rattle.live_role.specs.Opening.{EndsUnopened, IsUnopenedTooLong, TakesOpening, TakesUnopened}
use Rattle.live_role.specs.inner.Opening.{HasRead, StopsUnopened, TakesPiece}
use Rattle.live_role.proofs.OpeningLemmas.{fresh_taken, unopened}

takes_nothing : (r : Option (List ℕ)) → Consumes r r []
takes_nothing None = tt
takes_nothing (Some xs) = refl

-- nothing was read yet
pub read_none : (r : Option (List ℕ)) (o : Opening) → o ≡ record { text = []; begun = [] } → HasRead r r 0 o
read_none r o fresh = record { bytes = []; taken = takes_nothing r; counted = refl; short = omega arith; has = fresh_taken o fresh }

module _ (r0 r1 r2 : Option (List ℕ)) (count : ℕ) (o : Opening) (is : HasRead r0 r1 count o) where
  -- one piece more, without the line
  pub read_more : (piece : List ℕ) (new : Opening) → Consumes r1 r2 piece → count + length piece ≤ input_limit → TakesPiece o piece new None → HasRead r0 r2 (count + length piece) new
  read_more piece new taken short takes = record {
    bytes = is.bytes ++ piece;
    taken = Consumes-trans r0 r1 r2 is.bytes piece is.taken taken;
    counted = omega (arith, is.counted, length-append is.bytes piece);
    short = short;
    has = takes.takes is.bytes is.has;
  }

  -- the line comes in the piece
  pub read_wire : (piece : List ℕ) (new : Opening) (at : ℕ) → Consumes r1 r2 piece → count + length piece ≤ input_limit → TakesPiece o piece new (Some at) → TakesOpening new.text (drop at piece) r0 r2
  read_wire piece new at taken short takes = record {
    bytes = is.bytes ++ piece;
    taken = Consumes-trans r0 r1 r2 is.bytes piece is.taken taken;
    short = omega (arith, is.counted, length-append is.bytes piece, short);
    opens = (takes.takes is.bytes is.has).1;
  }

  -- no more comes
  read_no_more : Consumes r0 r2 is.bytes → TakesUnopened r0 r2
  read_no_more taken = record {
    bytes = is.bytes;
    taken = taken;
    short = omega (arith, is.counted, is.short);
    unopened = unopened is.bytes o is.has;
  }

  -- the input ends
  pub read_end : Consumes r1 r2 [] → IsAtEnd r2 → EndsUnopened r0 r2
  read_end taken at_end = record {
    takes = read_no_more (subst (Consumes r0 r2) (append-nil is.bytes) (Consumes-trans r0 r1 r2 is.bytes [] is.taken taken));
    at_end = at_end;
  }

  -- reading fails
  pub read_fails : Keeps r1 r2 → TakesUnopened r0 r2
  read_fails kept = read_no_more (Consumes-kept r0 r1 r2 is.bytes is.taken kept)

  -- too many bytes come
  pub read_long : (piece : List ℕ) → Consumes r1 r2 piece → length piece ≤ 4096 → input_limit < count + length piece → IsUnopenedTooLong r0 r2
  read_long piece taken one long = record {
    bytes = is.bytes;
    last = piece;
    taken = Consumes-trans r0 r1 r2 is.bytes piece is.taken taken;
    short = omega (arith, is.counted, is.short);
    piece = one;
    long = omega (arith, is.counted, length-append is.bytes piece, long);
    unopened = unopened is.bytes o is.has;
  }

-- a fault of reading is the answer
pub stops_read : {X : Type 0} (old new : Option (List ℕ)) (result : Result X ReadRefusal) → IsErrAnd result (λ refusal. refusal ≡ ReadFault) → TakesUnopened old new → IfErr result (StopsUnopened old new)
stops_read old new (Ok x) is takes = tt
stops_read old new (Err refusal) is takes = subst (StopsUnopened old new) (sym is) takes
