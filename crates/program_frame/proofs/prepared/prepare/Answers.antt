-- The input is taken whole if it is asked for, and not touched if not; one that is too long has its reply.
use Rattle.std.proofs.Common.{◌≤◌, Err, ap, inl, inr, refl, ◌∙◌, ◌<◌, length, subst, arith}
use Rattle.std.proofs.lemmas.Bool.{both_ways}
use Rattle.bspl_io.specs.declared.source.ReadRefusal.{ReadRefusal}
use Rattle.program_frame.proofs.Replies.{read_whole, too_long}
use Rattle.program_frame.proofs.prepared.prepare.Goals as goal

pub returns-then-not-asks_input-clause-known : goal.returns-then-not-asks_input-clause-known
returns-then-not-asks_input-clause-known g c =
    let empty = c.new.ensures in record {
      requested = c.in-Ok.ensures;
      short = rw empty (omega arith);
      taken = inr (λ asks. both_ways c.asks_input.result c.if-not-asks_input.true ((c.asks_input.ensures.exact _ c.in-Ok.ensures).1 asks), refl);
      unasked = c.asks_input.ensures.unasked _;
    }

pub returns-in-Ok-read_all-clause-known : goal.returns-in-Ok-read_all-clause-known
returns-in-Ok-read_all-clause-known g c =
    let asked = (c.asks_input.ensures.exact _ c.in-Ok.ensures).0 c.if-not-asks_input.false in
    let read = c.in-Ok-read_all.ensures.all in record {
      requested = c.in-Ok.ensures;
      short = subst (λ limit. length c.in-Ok-read_all.input ≤ limit) c.input_limit.ensures read.within;
      taken = inl (asked, read_whole _ _ _ _ _ read c.read_all.ensures.taken);
      unasked = c.asks_input.ensures.unasked _;
    }

pub returns-in-Ok-too_long-clause-known : goal.returns-in-Ok-too_long-clause-known
returns-in-Ok-too_long-clause-known g c =
    let asks = (c.asks_input.ensures.exact _ c.in-Ok.ensures).0 c.if-not-asks_input.false in
    let takes = c.read_all.ensures.taken in
    let past = takes.2.0 (c.in-Err-TooLong.is ∙ ap (λ (e : ReadRefusal). Err e) c.in-Err-TooLong.field-0-is) in
    let long = subst (λ limit. limit < length takes.0) c.input_limit.ensures past in
    too_long _ _ _ _ _ c.in-Ok-too_long.reply asks (takes.0, takes.1, long) (c.in-Ok-too_long.ensures _ c.in-Ok.ensures asks)
