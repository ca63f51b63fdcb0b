-- What an asked role keeps, and its store after a line.
use Rattle.std.proofs.Common.{◌≡◌, ℕ, Bool, true, false, List, [], ◌∷◌, ◌++◌, refl, sym, subst, ◌∙◌}
use Rattle.std.proofs.lemmas.Bool.{true≢false}
use Rattle.kept_lines.specs.Answers.{AnswersLines, kept_of}
use Rattle.kept_lines.specs.Replay.{EndsWithLf}
use Rattle.list_base.specs.Lines.{Line}
use Rattle.local_store.specs.Consistent.{IsConsistent}
use Rattle.local_store.specs.State.{StoreState}
use Rattle.role_server.specs.Live.{LiveReplies}
use Rattle.role_server.specs.LiveLaws.{LiveLinesKeepOrStay, LiveRepliesAreOne}
use Rattle.role_questions.specs.Asked.{AskedReplies, acted, answered, in_vain}
use Rattle.role_questions.specs.AskedLaws.{AskedLinesKeepOrStay, AskedOutcomesAreOne, IsOneOutcome}

module _ (live : LiveLinesKeepOrStay) where
  -- a line that is kept is an act's
  kept_ends : (s : StoreState) (line : Line) (text : List ℕ) (next : StoreState) → AskedReplies s line text true next → EndsWithLf line
  kept_ends s line text next (answered q puts is kept same) = absurd (true≢false kept)
  kept_ends s line text next (in_vain vain is kept same) = absurd (true≢false kept)
  kept_ends s line text next (acted none is) = live.keeps s line text next is

  -- and each other leaves the store
  other_stays : (s : StoreState) (line : Line) (text : List ℕ) (next : StoreState) → AskedReplies s line text false next → next ≡ s
  other_stays s line text next (answered q puts is kept same) = same
  other_stays s line text next (in_vain vain is kept same) = same
  other_stays s line text next (acted none is) = live.stays s line text next is

  pub asked_lines : AskedLinesKeepOrStay
  asked_lines = record { keeps = kept_ends; stays = other_stays }

-- a live role comes to this store
abbrev ComesTo : StoreState → StoreState → Type 0
ComesTo s end = (lines : List Line) × (out : List ℕ) × (acts : List ℕ) × AnswersLines LiveReplies s lines out acts end

-- to its own
comes_here : (s end : StoreState) → end ≡ s → ComesTo s end
comes_here s end same = ([], [], [], (refl, refl, same))

-- and on from a line
comes_after : (s next end : StoreState) (line : Line) (text : List ℕ) (is_kept : Bool) → AskedReplies s line text is_kept next → ComesTo next end → ComesTo s end
comes_after s next end line text is_kept (answered q puts is kept same) later = subst (λ (t : StoreState). ComesTo t end) same later
comes_after s next end line text is_kept (in_vain vain is kept same) later = subst (λ (t : StoreState). ComesTo t end) same later
comes_after s next end line text is_kept (acted none is) later =
    (line ∷ later.0, text ++ later.1, kept_of line is_kept ++ later.2, (next, later.1, later.2, record { reply = text; is_kept = is_kept; answer = is; written = refl; kept = refl }, later.3))

-- where an asked role comes, a live role comes without the questions
comes_to : (lines : List Line) (s : StoreState) (out acts : List ℕ) (end : StoreState) → AnswersLines AskedReplies s lines out acts end → ComesTo s end
comes_to [] s out acts end is = comes_here s end is.2
comes_to (line ∷ lines) s out acts end is = comes_after s is.0 end line is.3.reply is.3.is_kept is.3.answer (comes_to lines is.0 is.1 is.2 end is.4)

-- a line has one outcome, but for the text of an answer
module _ (live : LiveRepliesAreOne) (s : StoreState) (consistent : IsConsistent s) (now : StoreState) (to : ComesTo s now) (line : Line) (text other : List ℕ) (is_kept also_kept : Bool) (next also : StoreState) where
  one_outcome : AskedReplies now line text is_kept next → AskedReplies now line other also_kept also → IsOneOutcome now line text other is_kept also_kept next also
  one_outcome (acted none is) (acted never are) =
      let same = live s consistent to.0 to.1 to.2 now to.3 line text other is_kept also_kept next also is are in
      record { kept = same.1; store = same.2; reply = λ _. same.0 }
  one_outcome (acted none is) (answered q puts are kept same) = absurd (none puts.asked puts.puts)
  one_outcome (acted none is) (in_vain vain are kept same) = absurd (none vain.asked vain.puts)
  one_outcome (answered q puts is kept same) (acted none are) = absurd (none puts.asked puts.puts)
  one_outcome (in_vain vain is kept same) (acted none are) = absurd (none vain.asked vain.puts)
  one_outcome (answered q puts is kept same) (answered r also_puts are stays equal) = record { kept = kept ∙ sym stays; store = same ∙ sym equal; reply = λ none. absurd (none q puts) }
  one_outcome (answered q puts is kept same) (in_vain vain are stays equal) = record { kept = kept ∙ sym stays; store = same ∙ sym equal; reply = λ none. absurd (none q puts) }
  one_outcome (in_vain vain is kept same) (answered r also_puts are stays equal) = record { kept = kept ∙ sym stays; store = same ∙ sym equal; reply = λ none. absurd (none r also_puts) }
  one_outcome (in_vain vain is kept same) (in_vain also_vain are stays equal) = record { kept = kept ∙ sym stays; store = same ∙ sym equal; reply = λ _. is ∙ sym are }

-- wherever lines lead
pub asked_outcomes : LiveRepliesAreOne → AskedOutcomesAreOne
asked_outcomes live s lines out acts now consistent there line text other is_kept also_kept next also is are =
    one_outcome live s consistent now (comes_to lines s out acts now there) line text other is_kept also_kept next also is are
