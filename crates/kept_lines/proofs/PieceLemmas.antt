-- The lines of a piece, behind bytes that came before it.
use Rattle.std.proofs.Common.{◌≡◌, ◌≢◌, ◌<◌, ◌≤◌, ◌+◌, ◌-◌, ℕ, zero, suc, false, List, [], ◌∷◌, ◌++◌, length, take, refl, sym, ap, subst, ◌∙◌, arith, inl, inr, append-nil, append_assoc, length-take}
use Rattle.std.proofs.Math.Seq.{take-append-add}
use Rattle.std.proofs.lemmas.Bool.{cases_lt}
use Rattle.std.proofs.lemmas.List.{take-append-le, length-take-le, take_all}
use Rattle.std.proofs.lemmas.List.Elements.{All-append, All-nil}
use Rattle.list_base.proofs.Separators.{Lacks}
use Rattle.kept_lines.specs.Answers.{LeavesUnread, LineRule, kept_of}
use Rattle.kept_lines.specs.declared.batch.Batch.{Batch}
use Rattle.kept_lines.specs.inner.Coming.{AddsAnswer, AnsweredUpTo, AnswersBody, AnswersPiece, AnswersPieceUpTo, EndsLineOf, HasAnswered, begun_limit, begun_more, last_unread}
use Rattle.kept_lines.proofs.AnswerLemmas.{up_to_line, up_to_longer, up_to_none}

-- the first bytes of two lists joined
pub take_joined : (n : ℕ) (xs ys : List ℕ) → take n xs ++ take (n - length (take n xs)) ys ≡ take n (xs ++ ys)
take_joined n xs ys = elim (cases_lt n (length xs)) [
  | inl less ↦
      let full : length (take n xs) ≡ n = length-take-le n xs (omega (arith, less)) in
      let none : n - length (take n xs) ≡ 0 = omega (arith, full) in
      ap (λ (k : ℕ). take n xs ++ take k ys) none ∙ append-nil (take n xs) ∙ sym (take-append-le n xs ys (omega (arith, less)))
  | inr most ↦
      let sum : length xs + (n - length xs) ≡ n = omega (arith, most) in
      ap (λ (zs : List ℕ). zs ++ take (n - length zs) ys) (take_all n xs most) ∙ sym (take-append-add xs ys (n - length xs)) ∙ ap (λ (k : ℕ). take k (xs ++ ys)) sum
]

-- nothing is held of nothing alone
take_none : (n : ℕ) (xs : List ℕ) → 0 < n → take n xs ≡ [] → xs ≡ []
take_none n [] some none = refl
take_none zero (x ∷ xs) some none = absurd (omega (arith, some))
take_none (suc n) (x ∷ xs) some none = absurd (cc)

-- the first bytes of the first bytes
take_again : (n : ℕ) (xs : List ℕ) → take n (take n xs) ≡ take n xs
take_again n xs = take_all n (take n xs) (omega (arith, length-take n xs))

-- what is held of a begun line gets its reply at the end
pub last_same : {S : Type 0} (unread : S → List ℕ) (s : S) (n : ℕ) (rest : List ℕ) → 0 < n
    → last_unread unread s (take n rest) ≡ last_unread unread s rest
last_same unread s zero rest some = absurd (omega (arith, some))
last_same unread s (suc n) [] some = refl
last_same unread s (suc n) (x ∷ xs) some = refl

module _ {S : Type 0} (answers : LineRule S) where
  -- before the first byte
  pub fresh : (s : S) → HasAnswered answers s [] [] [] s []
  fresh s = record { rest = []; unended = All-nil (λ byte. byte ≢ 10); held = refl; up_to = up_to_none answers s }

  -- a line that is not too long is the only one that begins so
  pub body_answered : (s next : S) (held : List ℕ) (old new : Batch) → length held ≤ 65536
      → AddsAnswer answers s held next old new → AnswersBody answers s held next old new
  body_answered s next held old new short is = record {
    adds = λ body same.
        let shown : take 65537 body ≡ held = same ∙ take_all 65537 held (omega (arith, short)) in
        let whole : length body ≤ 65537 = omega (arith, ap (λ (b : List ℕ). length b) shown, length-take 65537 body, short) in
        subst (λ (b : List ℕ). AddsAnswer answers s b next old new) (sym (sym (take_all 65537 body whole) ∙ shown)) is;
  }

  -- each line that begins so is too long
  pub body_unread : (unread : S → List ℕ) → LeavesUnread answers unread → (s next : S) (held : List ℕ)
      (old new : Batch) → 65536 < length held → next ≡ s → new.replies ≡ old.replies ++ unread s
      → new.acts ≡ old.acts → AnswersBody answers s held next old new
  body_unread unread law s next held old new long stays replies acts = record {
    adds = λ body same.
        let size : length (take 65537 body) ≡ length (take 65537 held) = ap (λ (b : List ℕ). length b) same in
        let is_long : 65536 < length body = omega (arith, size, length-take 65537 body, length-take 65537 held, long) in
        record {
          is_kept = false;
          replies = record {
            reply = unread s;
            answer = subst (λ (t : S). answers s (body ++ 10 ∷ []) (unread s) false t) (sym stays) (law s (body ++ 10 ∷ []) (inl (record { body = body; long = is_long; ended = refl })));
            appended = replies;
          };
          acts = acts ∙ sym (append-nil old.acts);
        };
  }

  -- a line that lies in the piece as a whole
  pub ends_whole : (s next : S) (begun last : List ℕ) (old new : Batch) → begun ≡ []
      → AnswersBody answers s last next old new → EndsLineOf answers s begun last next old new
  ends_whole s next begun last old new none is = record {
    adds = λ rest held. subst (λ (b : List ℕ). AddsAnswer answers s (b ++ last) next old new) (sym (take_none begun_limit rest (omega arith) (sym held ∙ none))) (is.adds last refl);
  }

  -- a line of which the begin was held
  pub ends_held : (s next : S) (begun last line : List ℕ) (old new : Batch)
      → line ≡ begun_more begun last → AnswersBody answers s line next old new
      → EndsLineOf answers s begun last next old new
  ends_held s next begun last line old new is_held is = record {
    adds = λ rest held.
        let whole : line ≡ take begun_limit (rest ++ last) = is_held ∙ ap (λ (b : List ℕ). begun_more b last) held ∙ take_joined begun_limit rest last in
        is.adds (rest ++ last) (sym (ap (take begun_limit) whole ∙ take_again begun_limit (rest ++ last)));
  }

  -- nothing of the piece is answered yet
  pub piece_none : (s : S) (begun piece : List ℕ) → AnswersPieceUpTo answers s begun piece piece s begun [] []
  piece_none s begun piece = record {
    done = [];
    whole = refl;
    answered = record {
      answers_more = λ start bytes before kept has.
          subst (λ (b : List ℕ). HasAnswered answers start b (before ++ []) (kept ++ []) s begun) (sym (append-nil bytes))
          (subst (λ (o : List ℕ). HasAnswered answers start bytes o (kept ++ []) s begun) (sym (append-nil before))
          (subst (λ (a : List ℕ). HasAnswered answers start bytes before a s begun) (sym (append-nil kept)) has));
    };
  }

  -- one line more of it is
  pub piece_line : (s mid next : S) (begun piece rest begun_mid begun_new first more : List ℕ) (old new : Batch)
      → AnswersPieceUpTo answers s begun piece rest mid begun_mid old.replies old.acts
      → rest ≡ first ++ 10 ∷ more → Lacks 10 first → EndsLineOf answers mid begun_mid first next old new
      → begun_new ≡ [] → AnswersPieceUpTo answers s begun piece more next begun_new new.replies new.acts
  piece_line s mid next begun piece rest begun_mid begun_new first more old new is parts lacks ends none =
      let line : List ℕ = first ++ 10 ∷ [] in
      record {
        done = is.done ++ line;
        whole = is.whole
            ∙ ap (λ (tail : List ℕ). is.done ++ tail) (parts ∙ sym (append_assoc first (10 ∷ []) more))
            ∙ sym (append_assoc is.done line more);
        answered = record {
          answers_more = λ start bytes before kept has.
              let mid_has = is.answered.answers_more start bytes before kept has in
              let body : List ℕ = mid_has.rest ++ first in
              let adds : AddsAnswer answers mid body next old new = ends.adds mid_has.rest mid_has.held in
              let act : List ℕ = kept_of (body ++ 10 ∷ []) adds.is_kept in
              let came : List ℕ = (bytes ++ is.done) ++ line in
              let longer : AnsweredUpTo answers start came (before ++ old.replies) (kept ++ old.acts) mid (body ++ 10 ∷ []) =
              subst (λ (r : List ℕ). AnsweredUpTo answers start came (before ++ old.replies) (kept ++ old.acts) mid r) (sym (append_assoc mid_has.rest first (10 ∷ [])))
              (up_to_longer answers start mid (bytes ++ is.done) (before ++ old.replies) (kept ++ old.acts) mid_has.rest line mid_has.up_to) in
              let unended = All-append (λ byte. byte ≢ 10) mid_has.rest first mid_has.unended lacks in
              let one = up_to_line answers start mid next came (before ++ old.replies) (kept ++ old.acts) body [] adds.replies.reply adds.is_kept unended longer adds.replies.answer in
              let replies : (before ++ old.replies) ++ adds.replies.reply ≡ before ++ new.replies =
              append_assoc before old.replies adds.replies.reply ∙ ap (λ (o : List ℕ). before ++ o) (sym adds.replies.appended) in
              let acts : (kept ++ old.acts) ++ act ≡ kept ++ new.acts =
              append_assoc kept old.acts act ∙ ap (λ (a : List ℕ). kept ++ a) (sym adds.acts) in
              record {
                rest = [];
                unended = All-nil (λ byte. byte ≢ 10);
                held = none;
                up_to = subst (λ (b : List ℕ). AnsweredUpTo answers start b (before ++ new.replies) (kept ++ new.acts) next []) (append_assoc bytes is.done line)
                    (subst (λ (o : List ℕ). AnsweredUpTo answers start came o (kept ++ new.acts) next []) replies
                    (subst (λ (a : List ℕ). AnsweredUpTo answers start came ((before ++ old.replies) ++ adds.replies.reply) a next []) acts one));
              };
        };
      }

  -- what is left of it begins a line
  pub piece_all : (s now : S) (begun piece rest begun_mid begun_new out acts : List ℕ)
      → AnswersPieceUpTo answers s begun piece rest now begun_mid out acts → Lacks 10 rest
      → begun_new ≡ begun_more begun_mid rest → AnswersPiece answers s begun piece now begun_new out acts
  piece_all s now begun piece rest begun_mid begun_new out acts is lacks held = record {
    answers_more = λ start bytes before kept has.
        let mid_has = is.answered.answers_more start bytes before kept has in
        let came : (bytes ++ is.done) ++ rest ≡ bytes ++ piece = append_assoc bytes is.done rest ∙ ap (λ (b : List ℕ). bytes ++ b) (sym is.whole) in
        record {
          rest = mid_has.rest ++ rest;
          unended = All-append (λ byte. byte ≢ 10) mid_has.rest rest mid_has.unended lacks;
          held = held ∙ ap (λ (b : List ℕ). begun_more b rest) mid_has.held ∙ take_joined begun_limit mid_has.rest rest;
          up_to = subst (λ (b : List ℕ). AnsweredUpTo answers start b (before ++ out) (kept ++ acts) now (mid_has.rest ++ rest)) came
              (up_to_longer answers start now (bytes ++ is.done) (before ++ out) (kept ++ acts) mid_has.rest rest mid_has.up_to);
        };
  }
