-- How far the lines of a stream are answered, from one read to the next.
use Rattle.std.proofs.Common.{◌≡◌, ◌<◌, ◌≤◌, ◌+◌, ℕ, List, [], ◌++◌, Option, Ok, Err, length, refl, sym, ap, subst, ◌∙◌, arith, inr, append-nil, append_assoc, length-append}
use Rattle.std.proofs.KnownBytes.{Appends-trans, Consumes-kept, Consumes-trans, Keeps-refl}
use Rattle.std.specs.Io.KnownBytes.{Appends, Consumes, IsAtEnd, Keeps}
use Rattle.bspl_io.specs.Sink.{AppendsPrefix}
use Rattle.list_base.specs.Lines.{lines_of}
use Rattle.kept_lines.specs.Answers.{AnswersLines, LeavesUnread, LineRule}
use Rattle.kept_lines.specs.Stream.{AnswersAll, CutsAnswers, HasFlowed, StopsAnswering}
use Rattle.kept_lines.specs.StreamEnd.{stream_refusal}
use Rattle.kept_lines.specs.declared.answer.AnswerRefusal.{AnswerRefusal}
use Rattle.kept_lines.specs.declared.stream_refusal.StreamRefusal.TheVariants as refusal
use Rattle.kept_lines.specs.inner.Coming.{HasAnswered, IsAnsweredSoFar, PassesPiece, begun_limit, last_unread}
use Rattle.kept_lines.proofs.AnswerLemmas.{lines_end}
use Rattle.kept_lines.proofs.PieceLemmas.{last_same}
use Rattle.kept_lines.proofs.StreamLemmas.{flow, passage, piece_passes, piece_stops, prefix_after, stays}

-- so many bytes with one piece more
longer : (ahead bytes piece : List ℕ) → length (ahead ++ (bytes ++ piece)) ≡ length (ahead ++ bytes) + length piece
longer ahead bytes piece =
    ap (λ (b : List ℕ). length b) (sym (append_assoc ahead bytes piece)) ∙ length-append (ahead ++ bytes) piece

module _ {S : Type 0} (answers : LineRule S) (s : S) (ahead : List ℕ) (limit : ℕ) where
  module _ (r0 r1 r2 c0 c1 k0 k1 : Option (List ℕ)) (count : ℕ) (now : S) (begun : List ℕ) (come : IsAnsweredSoFar answers s ahead limit (flow r0 r1 c0 c1 k0 k1) count now begun) where
    -- the bytes so far, with their answers
    abbrev bytes : List ℕ
    bytes = come.some.flowed.bytes

    abbrev out : List ℕ
    out = come.some.flowed.out

    abbrev acts : List ℕ
    acts = come.some.flowed.acts

    lines_so_far : AnswersLines answers s come.some.flowed.lines out acts now
    lines_so_far = subst (λ (t : S). AnswersLines answers s come.some.flowed.lines out acts t) come.state come.some.flowed.answered

    has_come : HasAnswered answers s (ahead ++ bytes) out acts now begun
    has_come = record {
      rest = come.some.rest;
      unended = come.unended;
      held = come.held;
      up_to = record { lines = come.some.flowed.lines; first = come.some.first; answered = lines_so_far };
    }

    -- they are no more than may come
    are_short : length (ahead ++ bytes) ≤ limit
    are_short = omega (arith, come.counted, come.short)

    -- reading fails
    pub reading_fails : Keeps r1 r2 → StopsAnswering answers s ahead limit (flow r0 r2 c0 c1 k0 k1) refusal.ReadFault
    reading_fails same =
        let flowed : HasFlowed answers s (flow r0 r2 c0 c1 k0 k1) = record {
          bytes = bytes;
          taken = Consumes-kept r0 r1 r2 bytes come.some.flowed.taken same;
          lines = come.some.flowed.lines;
          out = out;
          acts = acts;
          now = now;
          answered = lines_so_far;
          acts_kept = come.some.flowed.acts_kept;
        } in
        (record { flowed = flowed; rest = come.some.rest; first = come.some.first; written = come.some.written }, are_short, come.unended)

    module _ (piece : List ℕ) (taken : Consumes r1 r2 piece) where
      both : Consumes r0 r2 (bytes ++ piece)
      both = Consumes-trans r0 r1 r2 bytes piece come.some.flowed.taken taken

      -- too many bytes come
      pub too_many : limit < count + length piece → StopsAnswering answers s ahead limit (flow r0 r2 c0 c1 k0 k1) refusal.TooLong
      too_many long =
          let some = stays answers s ahead limit r0 r2 c0 c1 c1 k0 k1 k1 (ahead ++ bytes) (bytes ++ piece) piece out acts now begun has_come come.some.written come.some.flowed.acts_kept (append_assoc ahead bytes piece) both (Keeps-refl k1) refl in
          (some.0, subst (λ (b : List ℕ). limit < length (ahead ++ b)) (sym some.1) (omega (arith, longer ahead bytes piece, come.counted, long)))

      module _ (c2 k2 : Option (List ℕ)) (new : S) (begun_new : List ℕ) (short : count + length piece ≤ limit) where
        -- one piece more does not pass whole
        pub more_stops : (w : AnswerRefusal) → PassesPiece answers now begun piece new begun_new (passage c1 c2 k1 k2) (Err w) → StopsAnswering answers s ahead limit (flow r0 r2 c0 c2 k0 k2) (stream_refusal w)
        more_stops w is =
            piece_stops answers s ahead limit r0 r2 c0 c1 c2 k0 k1 k2 (ahead ++ bytes) (bytes ++ piece) piece out acts now begun has_come come.some.written come.some.flowed.acts_kept (append_assoc ahead bytes piece) both new begun_new w
            (omega (arith, longer ahead bytes piece, come.counted, short)) is

        -- it does
        pub more_passes : PassesPiece answers now begun piece new begun_new (passage c1 c2 k1 k2) (Ok tt) → IsAnsweredSoFar answers s ahead limit (flow r0 r2 c0 c2 k0 k2) (count + length piece) new begun_new
        more_passes is =
            piece_passes answers s ahead limit r0 r2 c0 c1 c2 k0 k1 k2 (ahead ++ bytes) (bytes ++ piece) piece out acts now begun has_come come.some.written come.some.flowed.acts_kept (append_assoc ahead bytes piece) both new begun_new (count + length piece)
            (omega (arith, longer ahead bytes piece, come.counted)) short is

    module _ (c2 : Option (List ℕ)) (unread : S → List ℕ) (law : LeavesUnread answers unread) (taken : Consumes r1 r2 []) (at_end : IsAtEnd r2) where
      -- the reply to the line that lacks its LF
      abbrev last : List ℕ
      last = last_unread unread now begun

      ended : HasFlowed answers s (flow r0 r2 c0 c2 k0 k1)
      ended = record {
        bytes = bytes;
        taken = subst (Consumes r0 r2) (append-nil bytes) (Consumes-trans r0 r1 r2 bytes [] come.some.flowed.taken taken);
        lines = lines_of (ahead ++ bytes);
        out = out ++ last;
        acts = acts;
        now = now;
        answered = subst (λ (o : List ℕ). AnswersLines answers s (lines_of (ahead ++ bytes)) (out ++ o) acts now)
            (sym (last_same unread now begun_limit come.some.rest (omega arith)) ∙ ap (last_unread unread now) (sym come.held))
            (lines_end answers unread law s now (ahead ++ bytes) out acts come.some.rest come.some.flowed.lines come.unended come.some.first lines_so_far);
        acts_kept = come.some.flowed.acts_kept;
      }

      -- the input ends
      pub input_ends : Appends c1 c2 last → AnswersAll answers s ahead limit (flow r0 r2 c0 c2 k0 k1) now
      unfolding ended
      input_ends whole = record {
        flowed = ended;
        at_end = at_end;
        short = are_short;
        all = refl;
        written = Appends-trans c0 c1 c2 out last come.some.written whole;
        last = refl;
      }

      -- the input ends, and its last reply is cut short
      pub end_is_cut : AppendsPrefix c1 c2 last → CutsAnswers answers s ahead limit (flow r0 r2 c0 c2 k0 k1)
      unfolding ended
      end_is_cut cut_short = record {
        flowed = ended;
        short = are_short;
        first = inr (refl, at_end);
        written = prefix_after c0 c1 c2 out last come.some.written cut_short;
      }
