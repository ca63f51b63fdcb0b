-- An opening over the pieces of an input.
use Rattle.std.proofs.Common.{◌≡◌, ◌≢◌, ◌+◌, ◌-◌, ℕ, List, [], ◌∷◌, ◌++◌, Some, None, drop, length, refl, sym, ap, subst, ◌∙◌, arith, append-nil, append_assoc, length-append}
use Rattle.std.proofs.Math.Seq.{drop-append_seam}
use Rattle.std.proofs.lemmas.List.Elements.{All-append, All-nil, All-push}
use Rattle.list_base.proofs.Separators.{Lacks, lines-then}
use Rattle.list_base.specs.Lines.{Line, lines_of}
use Rattle.live_role.specs.declared.opening.Opening.{Opening}
use Rattle.live_role.specs.Wire.{HasNoWireLine, IsUnopened, IsWireLine, Opens}
use Rattle.live_role.specs.inner.Opening.{HasTaken, TakesPiece, TakesUpTo}

-- before the first byte
pub fresh_taken : (o : Opening) → o ≡ record { text = []; begun = [] } → HasTaken [] o
fresh_taken o fresh = subst (HasTaken []) (sym fresh) (record {
  before = record { lines = []; whole = λ more. refl; other = All-nil (λ line. ¬ IsWireLine line) };
  unended = All-nil (λ byte. byte ≢ 10);
  whole = refl;
})

-- one line more stands before the line
before_more : (text begun : List ℕ) → Lacks 10 begun → ¬ IsWireLine (begun ++ 10 ∷ []) → HasNoWireLine text → HasNoWireLine (text ++ (begun ++ 10 ∷ []))
before_more text begun lacks other before = record {
  lines = before.lines ++ (begun ++ 10 ∷ []) ∷ [];
  whole = λ more. ap lines_of (append_assoc text (begun ++ 10 ∷ []) more) ∙ before.whole ((begun ++ 10 ∷ []) ++ more) ∙ ap (λ (tail : List Line). before.lines ++ tail) (ap lines_of (append_assoc begun (10 ∷ []) more) ∙ lines-then begun more lacks) ∙ sym (append_assoc before.lines ((begun ++ 10 ∷ []) ∷ []) (lines_of more));
  other = All-push (λ line. ¬ IsWireLine line) before.lines (begun ++ 10 ∷ []) before.other other;
}

-- bytes without an LF are added to the begun line
taken_more : (bytes first : List ℕ) (o new : Opening) → HasTaken bytes o → Lacks 10 first → new ≡ record o { begun = o.begun ++ first } → HasTaken (bytes ++ first) new
taken_more bytes first o new has lacks is = subst (HasTaken (bytes ++ first)) (sym is) (record {
  before = has.before;
  unended = All-append (λ byte. byte ≢ 10) o.begun first has.unended lacks;
  whole = ap (λ (all : List ℕ). all ++ first) has.whole ∙ append_assoc o.text o.begun first;
})

-- the begun line is ended
taken_line : (bytes : List ℕ) (o new : Opening) → HasTaken bytes o → ¬ IsWireLine (o.begun ++ 10 ∷ []) → new ≡ record { text = o.text ++ (o.begun ++ 10 ∷ []); begun = [] } → HasTaken (bytes ++ 10 ∷ []) new
taken_line bytes o new has other is = subst (HasTaken (bytes ++ 10 ∷ [])) (sym is) (record {
  before = before_more o.text o.begun has.unended other has.before;
  unended = All-nil (λ byte. byte ≢ 10);
  whole = ap (λ (all : List ℕ). all ++ 10 ∷ []) has.whole ∙ append_assoc o.text o.begun (10 ∷ []) ∙ sym (append-nil (o.text ++ (o.begun ++ 10 ∷ [])));
})

-- nothing of the piece was taken yet
pub takes_none : (o : Opening) (piece : List ℕ) → TakesUpTo o piece piece o
takes_none o piece = record { done = []; whole = refl; takes = λ bytes has. subst (λ (all : List ℕ). HasTaken all o) (sym (append-nil bytes)) has }

module _ (old mid begun : Opening) (piece rest first : List ℕ) (is : TakesUpTo old piece rest mid) (lacks : Lacks 10 first) (added : begun ≡ record mid { begun = mid.begun ++ first }) where
  -- with the first bytes of the rest
  with_first : (bytes : List ℕ) → HasTaken bytes old → HasTaken ((bytes ++ is.done) ++ first) begun
  with_first bytes has = taken_more (bytes ++ is.done) first mid begun (is.takes bytes has) lacks added

  -- they are all of the rest
  pub takes_all : rest ≡ first → TakesPiece old piece begun None
  takes_all last = record {
    takes = λ bytes has. subst (λ (all : List ℕ). HasTaken all begun) (append_assoc bytes is.done first ∙ ap (λ (all : List ℕ). bytes ++ all) (sym (is.whole ∙ ap (λ (tail : List ℕ). is.done ++ tail) last))) (with_first bytes has);
  }

  -- what was taken of the piece when the line is ended, and what is left
  front : (more : List ℕ) → rest ≡ first ++ 10 ∷ more → piece ≡ (is.done ++ (first ++ 10 ∷ [])) ++ more
  front more parts = is.whole ∙ ap (λ (tail : List ℕ). is.done ++ tail) (parts ∙ sym (append_assoc first (10 ∷ []) more)) ∙ sym (append_assoc is.done (first ++ 10 ∷ []) more)

  -- the line is ended, and is another
  pub takes_line : (new : Opening) (more : List ℕ) → rest ≡ first ++ 10 ∷ more → ¬ IsWireLine (begun.begun ++ 10 ∷ []) → new ≡ record { text = begun.text ++ (begun.begun ++ 10 ∷ []); begun = [] } → TakesUpTo old piece more new
  takes_line new more parts other ends = record {
    done = is.done ++ (first ++ 10 ∷ []);
    whole = front more parts;
    takes = λ bytes has. subst (λ (all : List ℕ). HasTaken all new) (append_assoc (bytes ++ is.done) first (10 ∷ []) ∙ append_assoc bytes is.done (first ++ 10 ∷ [])) (taken_line ((bytes ++ is.done) ++ first) begun new (with_first bytes has) other ends);
  }

  -- it is the line
  pub takes_wire : (more : List ℕ) (at : ℕ) → rest ≡ first ++ 10 ∷ more → IsWireLine (begun.begun ++ 10 ∷ []) → at ≡ length piece - length more → TakesPiece old piece begun (Some at)
  takes_wire more at parts wire place =
      let done : List ℕ = is.done ++ (first ++ 10 ∷ []) in
      let long : length piece ≡ length done + length more = ap length (front more parts) ∙ length-append done more in
      let at_done : length done ≡ at = omega (arith, long, place) in
      let rest_is : drop at piece ≡ more = ap (drop at) (front more parts) ∙ ap (λ (n : ℕ). drop n (done ++ more)) (sym at_done) ∙ drop-append_seam done more in
      record {
        takes = λ bytes has.
            let taken = with_first bytes has in
            let line : bytes ++ done ≡ begun.text ++ (begun.begun ++ 10 ∷ []) =
            sym (append_assoc (bytes ++ is.done) first (10 ∷ []) ∙ append_assoc bytes is.done (first ++ 10 ∷ [])) ∙ ap (λ (all : List ℕ). all ++ 10 ∷ []) taken.whole ∙ append_assoc begun.text begun.begun (10 ∷ []) in
            let whole : bytes ++ piece ≡ (begun.text ++ (begun.begun ++ 10 ∷ [])) ++ more =
            ap (λ (all : List ℕ). bytes ++ all) (front more parts) ∙ sym (append_assoc bytes done more) ∙ ap (λ (all : List ℕ). all ++ more) line in
            let opens : Opens (bytes ++ piece) begun.text more = record { before = taken.before; line = begun.begun ++ 10 ∷ []; is_wire = wire; whole = whole } in
            (omega (arith, long, place), subst (Opens (bytes ++ piece) begun.text) (sym rest_is) opens);
      }

-- what came has not the line
pub unopened : (bytes : List ℕ) (o : Opening) → HasTaken bytes o → IsUnopened bytes
unopened bytes o has = record { text = o.text; before = has.before; begun = o.begun; unended = has.unended; whole = has.whole }
