-- Lines that are answered one after another.
use Rattle.std.proofs.Common.{◌≡◌, ◌≢◌, ℕ, Bool, true, false, List, [], ◌∷◌, ◌++◌, refl, sym, ap, subst, ◌∙◌, append-nil, append_assoc, inr}
use Rattle.std.specs.List.{AllByRecursion}
use Rattle.list_base.proofs.Separators.{Lacks, lines-open, lines-then}
use Rattle.list_base.specs.Lines.{Line, lines_of}
use Rattle.kept_lines.specs.Answers.{AnswersLines, AnswersNext, LeavesUnread, LineRule, StartsWithLines, kept_of}
use Rattle.kept_lines.specs.Replay.{AnswersJoin, AnswersOnceFrom, EndsWithLf, KeepsOrStays, KeptLinesReplay, LinesHaveOneOutcome}
use Rattle.kept_lines.specs.inner.Coming.{AnsweredUpTo, last_unread}
use Rattle.kept_lines.proofs.LineLemmas.{HasOneLf, first_have_one, lines_have_one}

-- more bytes come
pub starts_longer : (bytes rest piece : List ℕ) (lines : List Line)
    → StartsWithLines bytes lines rest → StartsWithLines (bytes ++ piece) lines (rest ++ piece)
starts_longer bytes rest piece lines first = λ more.
    ap lines_of (append_assoc bytes piece more)
    ∙ first (piece ++ more)
    ∙ ap (λ (tail : List ℕ). lines ++ lines_of tail) (sym (append_assoc rest piece more))

-- one line more comes first
starts_line : (bytes body rest : List ℕ) (lines : List Line) → Lacks 10 body
    → StartsWithLines bytes lines (body ++ 10 ∷ rest)
    → StartsWithLines bytes (lines ++ (body ++ 10 ∷ []) ∷ []) rest
starts_line bytes body rest lines lacks first = λ more.
    first more
    ∙ ap (λ (tail : List Line). lines ++ tail) (ap lines_of (append_assoc body (10 ∷ rest) more) ∙ lines-then body (rest ++ more) lacks)
    ∙ sym (append_assoc lines ((body ++ 10 ∷ []) ∷ []) (lines_of (rest ++ more)))

-- a list with an item is not empty
some_is : (x : ℕ) (xs : List ℕ) → (x ∷ xs) ≢ []
some_is x xs same = cc

module _ {S : Type 0} (answers : LineRule S) where
  -- lines behind lines
  pub later_lines : AnswersJoin answers
  later_lines s mid end [] more out acts later_out later_acts done rest =
      let joined : AnswersLines answers s more later_out later_acts end =
      subst (λ (t : S). AnswersLines answers t more later_out later_acts end) done.2 rest in
      subst (λ (o : List ℕ). AnswersLines answers s more (o ++ later_out) (acts ++ later_acts) end) (sym done.0)
      (subst (λ (a : List ℕ). AnswersLines answers s more later_out (a ++ later_acts) end) (sym done.1) joined)
  later_lines s mid end (first ∷ lines) more out acts later_out later_acts done rest =
      let step : AnswersNext answers s first out acts done.1 done.2 done.0 = done.3 in (
        done.0,
        done.1 ++ later_out,
        done.2 ++ later_acts,
        record {
          reply = step.reply;
          is_kept = step.is_kept;
          answer = step.answer;
          written = ap (λ (o : List ℕ). o ++ later_out) step.written ∙ append_assoc step.reply done.1 later_out;
          kept = ap (λ (a : List ℕ). a ++ later_acts) step.kept ∙ append_assoc (kept_of first step.is_kept) done.2 later_acts;
        },
        later_lines done.0 mid end lines more done.1 done.2 later_out later_acts done.4 rest,
      )

  -- a line alone is answered
  line_alone : (s next : S) (line : Line) (reply : List ℕ) (is_kept : Bool)
      → answers s line reply is_kept next
      → AnswersLines answers s (line ∷ []) reply (kept_of line is_kept) next
  line_alone s next line reply is_kept answer = (
    next,
    [],
    [],
    record {
      reply = reply;
      is_kept = is_kept;
      answer = answer;
      written = sym (append-nil reply);
      kept = sym (append-nil (kept_of line is_kept));
    },
    (refl, refl, refl),
  )

  -- one line more is answered
  pub lines_more : (s mid next : S) (lines : List Line) (line : Line) (out acts reply : List ℕ)
      (is_kept : Bool) → AnswersLines answers s lines out acts mid
      → answers mid line reply is_kept next
      → AnswersLines answers s (lines ++ line ∷ []) (out ++ reply) (acts ++ kept_of line is_kept) next
  lines_more s mid next lines line out acts reply is_kept done answer =
      later_lines s mid next lines (line ∷ []) out acts reply (kept_of line is_kept) done (line_alone mid next line reply is_kept answer)

  -- nothing has come
  pub up_to_none : (s : S) → AnsweredUpTo answers s [] [] [] s []
  up_to_none s = record { lines = []; first = λ more. refl; answered = (refl, refl, refl) }

  -- more bytes come
  pub up_to_longer : (s now : S) (bytes out acts rest piece : List ℕ)
      → AnsweredUpTo answers s bytes out acts now rest
      → AnsweredUpTo answers s (bytes ++ piece) out acts now (rest ++ piece)
  up_to_longer s now bytes out acts rest piece is = record {
    lines = is.lines;
    first = starts_longer bytes rest piece is.lines is.first;
    answered = is.answered;
  }

  -- the line with this body is answered
  pub up_to_line : (s now next : S) (bytes out acts body rest reply : List ℕ) (is_kept : Bool)
      → Lacks 10 body → AnsweredUpTo answers s bytes out acts now (body ++ 10 ∷ rest)
      → answers now (body ++ 10 ∷ []) reply is_kept next
      → AnsweredUpTo answers s bytes (out ++ reply) (acts ++ kept_of (body ++ 10 ∷ []) is_kept) next rest
  up_to_line s now next bytes out acts body rest reply is_kept lacks is answer = record {
    lines = is.lines ++ (body ++ 10 ∷ []) ∷ [];
    first = starts_line bytes body rest is.lines lacks is.first;
    answered = lines_more s now next is.lines (body ++ 10 ∷ []) out acts reply is_kept is.answered answer;
  }

  -- the input ends
  pub lines_end : (unread : S → List ℕ) → LeavesUnread answers unread → (s now : S)
      (bytes out acts rest : List ℕ) (lines : List Line) → Lacks 10 rest
      → StartsWithLines bytes lines rest → AnswersLines answers s lines out acts now
      → AnswersLines answers s (lines_of bytes) (out ++ last_unread unread now rest) acts now
  lines_end unread law s now bytes out acts [] lines lacks first done =
      let whole : lines_of bytes ≡ lines = ap lines_of (sym (append-nil bytes)) ∙ first [] ∙ append-nil lines in
      subst (λ (all : List Line). AnswersLines answers s all (out ++ []) acts now) (sym whole)
      (subst (λ (o : List ℕ). AnswersLines answers s lines o acts now) (sym (append-nil out)) done)
  lines_end unread law s now bytes out acts (x ∷ xs) lines lacks first done =
      let last : lines_of ((x ∷ xs) ++ []) ≡ (x ∷ xs) ∷ [] = ap lines_of (append-nil (x ∷ xs)) ∙ lines-open x xs lacks in
      let whole : lines_of bytes ≡ lines ++ (x ∷ xs) ∷ [] = ap lines_of (sym (append-nil bytes)) ∙ first [] ∙ ap (λ (tail : List Line). lines ++ tail) last in
      let all = lines_more s now now lines (x ∷ xs) out acts (unread now) false done (law now (x ∷ xs) (inr (some_is x xs, lacks))) in
      subst (λ (l : List Line). AnswersLines answers s l (out ++ unread now) acts now) (sym whole)
      (subst (λ (a : List ℕ). AnswersLines answers s (lines ++ (x ∷ xs) ∷ []) (out ++ unread now) a now) (append-nil acts) all)

  -- one line before those that are replayed
  replays_line : KeepsOrStays answers → (s next end : S) (line : Line) (reply again acts later : List ℕ)
      (is_kept : Bool) → HasOneLf line → answers s line reply is_kept next
      → acts ≡ kept_of line is_kept ++ later → AnswersLines answers next (lines_of later) again later end
      → (all : List ℕ) × AnswersLines answers s (lines_of acts) all acts end
  replays_line rule s next end line reply again acts later true one answer is rest =
      let whole : EndsWithLf line = rule.keeps s line reply next answer in
      let first : lines_of (line ++ later) ≡ line ∷ lines_of later =
      ap (λ (l : List ℕ). lines_of (l ++ later)) whole.1
      ∙ ap lines_of (append_assoc whole.0 (10 ∷ []) later)
      ∙ lines-then whole.0 later (one whole.0 whole.1)
      ∙ ap (λ (l : List ℕ). l ∷ lines_of later) (sym whole.1) in
      let all : AnswersLines answers s (line ∷ lines_of later) (reply ++ again) (line ++ later) end =
      (next, again, later, record { reply = reply; is_kept = true; answer = answer; written = refl; kept = refl }, rest) in (
        reply ++ again,
        subst (λ (a : List ℕ). AnswersLines answers s (lines_of a) (reply ++ again) a end) (sym is)
            (subst (λ (l : List Line). AnswersLines answers s l (reply ++ again) (line ++ later) end) (sym first) all),
      )
  replays_line rule s next end line reply again acts later false one answer is rest =
      let same : next ≡ s = rule.stays s line reply next answer in (
        again,
        subst (λ (a : List ℕ). AnswersLines answers s (lines_of a) again a end) (sym is)
            (subst (λ (t : S). AnswersLines answers t (lines_of later) again later end) same rest),
      )

  -- what was kept of lines that are one each leads to the same state
  replays_lines : KeepsOrStays answers → (s : S) (lines : List Line) (out acts : List ℕ) (end : S)
      → AllByRecursion HasOneLf lines → AnswersLines answers s lines out acts end
      → (again : List ℕ) × AnswersLines answers s (lines_of acts) again acts end
  replays_lines rule s [] out acts end ones done =
      ([], subst (λ (a : List ℕ). AnswersLines answers s (lines_of a) [] a end) (sym done.1) (refl, refl, done.2))
  replays_lines rule s (line ∷ lines) out acts end ones done =
      let step : AnswersNext answers s line out acts done.1 done.2 done.0 = done.3 in
      let rest = replays_lines rule done.0 lines done.1 done.2 end ones.1 done.4 in
      replays_line rule s done.0 end line step.reply rest.0 acts done.2 step.is_kept ones.0 step.answer step.kept rest.1

  -- and so does what was kept of the first lines of a text
  pub replays : KeepsOrStays answers → KeptLinesReplay answers
  replays rule s text lines later out acts end split done =
      let ones : AllByRecursion HasOneLf (lines ++ later) = subst (AllByRecursion HasOneLf) split (lines_have_one text) in
      replays_lines rule s lines out acts end (first_have_one lines later ones) done

  -- lines have one outcome
  pub one_outcome : LinesHaveOneOutcome answers
  one_outcome s [] out other acts also_acts end also once one two =
      (one.0 ∙ sym two.0, one.1 ∙ sym two.1, one.2 ∙ sym two.2)
  one_outcome s (line ∷ lines) out other acts also_acts end also once one two =
      let first : AnswersNext answers s line out acts one.1 one.2 one.0 = one.3 in
      let second : AnswersNext answers s line other also_acts two.1 two.2 two.0 = two.3 in
      let same = once [] [] [] s (refl, refl, refl) line first.reply second.reply first.is_kept second.is_kept one.0 two.0 first.answer second.answer in
      let onwards : AnswersOnceFrom answers one.0 =
      λ more o a now there.
      once (line ∷ more) (first.reply ++ o) (kept_of line first.is_kept ++ a) now (one.0, o, a, record { reply = first.reply; is_kept = first.is_kept; answer = first.answer; written = refl; kept = refl }, there) in
      let alike : AnswersLines answers one.0 lines two.1 two.2 also =
      subst (λ (t : S). AnswersLines answers t lines two.1 two.2 also) (sym same.2) two.4 in
      let rest = one_outcome one.0 lines one.1 two.1 one.2 two.2 end also onwards one.4 alike in (
        first.written ∙ ap (λ (r : List ℕ). r ++ one.1) same.0 ∙ ap (λ (m : List ℕ). second.reply ++ m) rest.0 ∙ sym second.written,
        first.kept ∙ ap (λ (k : Bool). kept_of line k ++ one.2) same.1 ∙ ap (λ (m : List ℕ). kept_of line second.is_kept ++ m) rest.1 ∙ sym second.kept,
        rest.2,
      )
