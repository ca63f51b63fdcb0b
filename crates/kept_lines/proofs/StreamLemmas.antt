-- How far the lines of a stream are answered by the lines of one piece more.
use Rattle.std.proofs.Common.{◌≡◌, ◌<◌, ◌≤◌, ◌+◌, ℕ, List, [], ◌++◌, Option, Some, None, Ok, Err, length, take, refl, sym, ap, subst, ◌∙◌, inl, inr, append-nil}
use Rattle.std.proofs.KnownBytes.{Appends-nil, Appends-trans, Consumes-nil, Keeps-refl}
use Rattle.std.proofs.Math.Seq.{take-append-add, take-length}
use Rattle.std.specs.Io.KnownBytes.{Appends, Consumes, Keeps}
use Rattle.bspl_io.specs.Sink.{AppendsPrefix}
use Rattle.kept_lines.specs.Answers.{LineRule, StartsWithLines}
use Rattle.kept_lines.specs.Passage.{Passage}
use Rattle.kept_lines.specs.Flow.{Flow}
use Rattle.kept_lines.specs.Stream.{AnswersSome, CutsAnswers, StopsAnswering}
use Rattle.kept_lines.specs.StreamEnd.{stream_refusal}
use Rattle.kept_lines.specs.declared.answer.AnswerRefusal.{AnswerRefusal}
use Rattle.kept_lines.specs.declared.answer.AnswerRefusal.TheVariants as answer
use Rattle.kept_lines.specs.declared.stream_refusal.StreamRefusal.TheVariants as refusal
use Rattle.kept_lines.specs.inner.Coming.{AnswersPiece, HasAnswered, IsAnsweredSoFar, PassesPiece, passed, unanswered}
use Rattle.kept_lines.proofs.AnswerLemmas.{starts_longer}
use Rattle.kept_lines.proofs.PieceLemmas.{fresh}

-- what passes through a source, a sink and a journal
abbrev pub flow : (r0 r1 c0 c1 k0 k1 : Option (List ℕ)) → Flow
flow r0 r1 c0 c1 k0 k1 = record {
  remaining = r0;
  remaining_after = r1;
  contents = c0;
  contents_after = c1;
  kept = k0;
  kept_after = k1;
}

-- and through a journal and a sink alone
abbrev pub passage : (c0 c1 k0 k1 : Option (List ℕ)) → Passage
passage c0 c1 k0 k1 = record { kept = k0; kept_after = k1; contents = c0; contents_after = c1 }

-- what was written whole, and a prefix of what is written after it
pub prefix_after : (c0 c1 c2 : Option (List ℕ)) (out more : List ℕ) → Appends c0 c1 out
    → AppendsPrefix c1 c2 more → AppendsPrefix c0 c2 (out ++ more)
prefix_after c0 c1 c2 out more whole cut =
    (length out + cut.0, subst (Appends c0 c2) (sym (take-append-add out more cut.0)) (Appends-trans c0 c1 c2 out (take cut.0 more) whole cut.1))

-- what was written whole is a prefix of itself
prefix_whole : (c0 c1 : Option (List ℕ)) (out : List ℕ) → Appends c0 c1 out → AppendsPrefix c0 c1 out
prefix_whole c0 c1 out whole = (length out, subst (Appends c0 c1) (sym (take-length out)) whole)

-- what was appended stays
appends_kept : (k0 k1 k2 : Option (List ℕ)) (acts : List ℕ) → Appends k0 k1 acts → Keeps k1 k2
    → Appends k0 k2 acts
appends_kept None k1 k2 acts whole same = tt
appends_kept (Some x) None k2 acts whole same = absurd whole
appends_kept (Some x) (Some y) None acts whole same = absurd same
appends_kept (Some x) (Some y) (Some z) acts whole same = same ∙ whole

module _ {S : Type 0} (answers : LineRule S) (s : S) (ahead : List ℕ) (limit : ℕ) where
  -- bytes came before a piece, and each whole line of them is answered
  module _ (r0 r2 c0 c1 c2 k0 k1 k2 : Option (List ℕ)) (all bytes piece out acts : List ℕ) (now : S) (begun : List ℕ)
      (has : HasAnswered answers s all out acts now begun) (written : Appends c0 c1 out) (kept : Appends k0 k1 acts)
      (joined : all ++ piece ≡ ahead ++ bytes) (taken : Consumes r0 r2 bytes) where
    -- nothing of the piece passes
    pub stays : Keeps k1 k2 → c2 ≡ c1 → (some : AnswersSome answers s ahead (flow r0 r2 c0 c2 k0 k2)) × (some.flowed.bytes ≡ bytes)
    stays same none = (
      record {
        flowed = record {
          bytes = bytes;
          taken = taken;
          lines = has.up_to.lines;
          out = out;
          acts = acts;
          now = now;
          answered = has.up_to.answered;
          acts_kept = appends_kept k0 k1 k2 acts kept same;
        };
        rest = has.rest ++ piece;
        first = subst (λ (b : List ℕ). StartsWithLines b has.up_to.lines (has.rest ++ piece)) joined (starts_longer all has.rest piece has.up_to.lines has.up_to.first);
        written = subst (λ (c : Option (List ℕ)). Appends c0 c out) (sym none) written;
      },
      refl,
    )

    -- of the replies before it none is cut
    stays_cut : length (ahead ++ bytes) ≤ limit → Keeps k1 k2 → c2 ≡ c1 → CutsAnswers answers s ahead limit (flow r0 r2 c0 c2 k0 k2)
    unfolding stays
    stays_cut short same none =
        let some : AnswersSome answers s ahead (flow r0 r2 c0 c2 k0 k2) = (stays same none).0 in
        record {
          flowed = some.flowed;
          short = short;
          first = inl (some.rest, some.first);
          written = prefix_whole c0 c2 out some.written;
        }

    module _ (new : S) (begun_new : List ℕ) where
      -- the piece is answered too
      more : (o a : List ℕ) → AnswersPiece answers now begun piece new begun_new o a → HasAnswered answers s (ahead ++ bytes) (out ++ o) (acts ++ a) new begun_new
      more o a is = subst (λ (b : List ℕ). HasAnswered answers s b (out ++ o) (acts ++ a) new begun_new) joined (is.answers_more s all out acts has)

      -- its replies are cut short
      cut : (o a : List ℕ) → length (ahead ++ bytes) ≤ limit → AnswersPiece answers now begun piece new begun_new o a → Appends k1 k2 a → AppendsPrefix c1 c2 o → CutsAnswers answers s ahead limit (flow r0 r2 c0 c2 k0 k2)
      cut o a short is held prefix =
          let then = more o a is in
          record {
            flowed = record {
              bytes = bytes;
              taken = taken;
              lines = then.up_to.lines;
              out = out ++ o;
              acts = acts ++ a;
              now = new;
              answered = then.up_to.answered;
              acts_kept = Appends-trans k0 k1 k2 acts a kept held;
            };
            short = short;
            first = inl (then.rest, then.up_to.first);
            written = prefix_after c0 c1 c2 out o written prefix;
          }

      -- the piece does not pass whole
      pub piece_stops : (w : AnswerRefusal) → length (ahead ++ bytes) ≤ limit → PassesPiece answers now begun piece new begun_new (passage c1 c2 k1 k2) (Err w) → StopsAnswering answers s ahead limit (flow r0 r2 c0 c2 k0 k2) (stream_refusal w)
      unfolding stays
      piece_stops answer.JournalFault short (passed o a is order) = ((stays order.0 order.1).0, short)
      piece_stops answer.JournalFault short (unanswered none is) = absurd (cc)
      piece_stops answer.WriteFault short (passed o a is order) = cut o a short is order.0 order.1
      piece_stops answer.WriteFault short (unanswered none is) = absurd (cc)
      piece_stops answer.NoMemory short (passed o a is (inl none)) = stays_cut short none.0 none.1
      piece_stops answer.NoMemory short (passed o a is (inr some)) = cut o a short is some.0 some.1
      piece_stops answer.NoMemory short (unanswered none is) = stays_cut short none.0 none.1

      -- the piece passes whole
      pub piece_passes : (count : ℕ) → count ≡ length (ahead ++ bytes) → count ≤ limit → PassesPiece answers now begun piece new begun_new (passage c1 c2 k1 k2) (Ok tt) → IsAnsweredSoFar answers s ahead limit (flow r0 r2 c0 c2 k0 k2) count new begun_new
      piece_passes count counted short (unanswered none is) = absurd (cc)
      piece_passes count counted short (passed o a is order) =
          let then = more o a is in
          record {
            some = record {
              flowed = record {
                bytes = bytes;
                taken = taken;
                lines = then.up_to.lines;
                out = out ++ o;
                acts = acts ++ a;
                now = new;
                answered = then.up_to.answered;
                acts_kept = Appends-trans k0 k1 k2 acts a kept order.0;
              };
              rest = then.rest;
              first = then.up_to.first;
              written = Appends-trans c0 c1 c2 out o written order.1;
            };
            counted = counted;
            short = short;
            unended = then.unended;
            held = then.held;
            state = refl;
          }

  -- the bytes that were taken ahead do not pass whole
  pub first_stops : (r c0 c1 k0 k1 : Option (List ℕ)) (new : S) (begun_new : List ℕ) (w : AnswerRefusal) → length ahead ≤ limit → PassesPiece answers s [] ahead new begun_new (passage c0 c1 k0 k1) (Err w) → StopsAnswering answers s ahead limit (flow r r c0 c1 k0 k1) (stream_refusal w)
  first_stops r c0 c1 k0 k1 new begun_new w short is =
      piece_stops r r c0 c0 c1 k0 k0 k1 [] [] ahead [] [] s [] (fresh answers s) (Appends-nil c0) (Appends-nil k0) (sym (append-nil ahead)) (Consumes-nil r) new begun_new w
      (subst (λ (b : List ℕ). length b ≤ limit) (sym (append-nil ahead)) short) is

  -- they pass whole
  pub first_passes : (r c0 c1 k0 k1 : Option (List ℕ)) (new : S) (begun_new : List ℕ) → length ahead ≤ limit → PassesPiece answers s [] ahead new begun_new (passage c0 c1 k0 k1) (Ok tt) → IsAnsweredSoFar answers s ahead limit (flow r r c0 c1 k0 k1) (length ahead) new begun_new
  first_passes r c0 c1 k0 k1 new begun_new short is =
      piece_passes r r c0 c0 c1 k0 k0 k1 [] [] ahead [] [] s [] (fresh answers s) (Appends-nil c0) (Appends-nil k0) (sym (append-nil ahead)) (Consumes-nil r) new begun_new (length ahead)
      (ap (λ (b : List ℕ). length b) (sym (append-nil ahead))) short is

  -- they are too many
  pub first_too_many : (r c k : Option (List ℕ)) → limit < length ahead → StopsAnswering answers s ahead limit (flow r r c c k k) refusal.TooLong
  first_too_many r c k long =
      let some = stays r r c c c k k k [] [] ahead [] [] s [] (fresh answers s) (Appends-nil c) (Appends-nil k) (sym (append-nil ahead)) (Consumes-nil r) (Keeps-refl k) refl in
      (some.0, subst (λ (b : List ℕ). limit < length (ahead ++ b)) (sym some.1) (subst (λ (b : List ℕ). limit < length b) (sym (append-nil ahead)) long))
