-- A text of kept lines that is answered again.
use Rattle.std.proofs.Common.{◌≡◌, ◌≢◌, ◌+◌, ℕ, true, false, List, [], ◌∷◌, ◌++◌, length, refl, sym, ap, subst, ◌∙◌, arith, append-nil, append_assoc, length-append, inr}
use Rattle.list_base.proofs.Separators.{Lacks, lines-open, lines-then}
use Rattle.list_base.specs.Lines.{Line, lines_of}
use Rattle.kept_lines.specs.Answers.{AnswersLines, LeavesUnread, LineRule}
use Rattle.kept_lines.specs.Restored.{RestoresText, StopsAtLine}
use Rattle.kept_lines.specs.inner.Coming.{RestoresUpTo}
use Rattle.kept_lines.proofs.AnswerLemmas.{lines_more}

-- a text without an LF that is not empty is one line
one_line : (rest : List ℕ) → rest ≢ [] → Lacks 10 rest → lines_of rest ≡ rest ∷ []
one_line [] some lacks = absurd (some refl)
one_line (x ∷ xs) some lacks = lines-open x xs lacks

module _ {S : Type 0} (answers : LineRule S) (s : S) (text : List ℕ) where
  -- nothing of the text is restored yet
  pub restores_none : RestoresUpTo answers s text text s 0
  restores_none = record {
    before = [];
    whole = refl;
    joins = λ more. refl;
    out = [];
    kept = (refl, refl, refl);
    counted = refl;
    few = omega arith;
  }

  module _ (now : S) (rest : List ℕ) (count : ℕ) (is : RestoresUpTo answers s text rest now count) where
    -- all of it is
    pub restores_all : rest ≡ [] → RestoresText answers s text now
    restores_all none =
        let whole : text ≡ is.before = is.whole ∙ ap (λ (r : List ℕ). is.before ++ r) none ∙ append-nil is.before in
        (is.out, subst (λ (t : List ℕ). AnswersLines answers s (lines_of t) is.out t now) (sym whole) is.kept)

    -- a line stops it
    stops_at : (line : Line) (after : List Line) (reply : List ℕ) (next : S)
        → lines_of rest ≡ line ∷ after → answers now line reply false next
        → StopsAtLine answers s text (count + 1)
    stops_at line after reply next lines unkept = record {
      before = is.before;
      line = line;
      after = after;
      whole = ap lines_of is.whole ∙ is.joins rest ∙ ap (λ (tail : List Line). lines_of is.before ++ tail) lines;
      numbered = ap (λ (n : ℕ). n + 1) is.counted;
      at = now;
      kept = (is.out, is.kept);
      reply = reply;
      next = next;
      unkept = unkept;
    }

    -- the last line lacks its LF
    pub stops_unended : (unread : S → List ℕ) → LeavesUnread answers unread → rest ≢ [] → Lacks 10 rest
        → StopsAtLine answers s text (count + 1)
    stops_unended unread law some lacks =
        stops_at rest [] (unread now) now (one_line rest some lacks) (law now rest (inr (some, lacks)))

    module _ (body more reply : List ℕ) (next : S) (parts : rest ≡ body ++ 10 ∷ more) (lacks : Lacks 10 body) where
      -- the line with its LF
      abbrev line : Line
      line = body ++ 10 ∷ []

      -- the line with this body is not kept
      pub stops_unkept : answers now (body ++ 10 ∷ []) reply false next → StopsAtLine answers s text (count + 1)
      stops_unkept unkept =
          stops_at line (lines_of more) reply next (ap lines_of parts ∙ lines-then body more lacks) unkept

      -- the lines with this one
      with_line : lines_of (is.before ++ line) ≡ lines_of is.before ++ line ∷ []
      with_line = is.joins line ∙ ap (λ (tail : List Line). lines_of is.before ++ tail) (lines-then body [] lacks)

      joins_more : (tail : List ℕ) → lines_of ((is.before ++ line) ++ tail) ≡ lines_of (is.before ++ line) ++ lines_of tail
      joins_more tail =
          ap lines_of (append_assoc is.before line tail)
          ∙ is.joins (line ++ tail)
          ∙ ap (λ (l : List Line). lines_of is.before ++ l) (ap lines_of (append_assoc body (10 ∷ []) tail) ∙ lines-then body tail lacks)
          ∙ sym (append_assoc (lines_of is.before) (line ∷ []) (lines_of tail))
          ∙ ap (λ (l : List Line). l ++ lines_of tail) (sym with_line)

      -- it is kept
      pub restores_line : answers now (body ++ 10 ∷ []) reply true next → RestoresUpTo answers s text more next (count + 1)
      restores_line kept =
          let all = lines_more answers s now next (lines_of is.before) line is.out is.before reply true is.kept kept in
          let size : length (lines_of (is.before ++ line)) ≡ length (lines_of is.before) + 1 =
          ap (λ (l : List Line). length l) with_line ∙ length-append (lines_of is.before) (line ∷ []) in
          let left : length rest ≡ length body + length (10 ∷ more) = ap (λ (r : List ℕ). length r) parts ∙ length-append body (10 ∷ more) in
          record {
            before = is.before ++ line;
            whole = is.whole ∙ ap (λ (r : List ℕ). is.before ++ r) (parts ∙ sym (append_assoc body (10 ∷ []) more)) ∙ sym (append_assoc is.before line more);
            joins = joins_more;
            out = is.out ++ reply;
            kept = subst (λ (l : List Line). AnswersLines answers s l (is.out ++ reply) (is.before ++ line) next) (sym with_line) all;
            counted = ap (λ (n : ℕ). n + 1) is.counted ∙ sym size;
            few = omega (arith, left, is.few);
          }
