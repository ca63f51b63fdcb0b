-- The bytes that were passed are the first part, and those after the blank the rest.
use Rattle.std.proofs.Common.{◌≡◌, ℕ, ◌+◌, ◌<◌, false, List, ◌∷◌, ◌++◌, length, get_or, take, drop, All, sym, ap, subst, ◌∙◌}
use Rattle.std.specs.List.{slice_split}
use Rattle.std.proofs.lemmas.List.{take-append-drop, drop_more, take_all, take_more, take_rest}
use Rattle.std.proofs.lemmas.List.Elements.{All-push}
use Rattle.std.proofs.lemmas.List.Splits.{slice_split_none, slice_split_at}
use Rattle.dimacs.specs.Dimacs.{parts_words}
use Rattle.dimacs.proofs.words.cut_at_blank.Goals as goal

-- a list at a place
split_there : (xs : List ℕ) (i : ℕ) → i < length xs → xs ≡ take i xs ++ get_or xs i 0 ∷ drop (i + 1) xs
split_there xs i short = sym (take-append-drop i xs) ∙ ap (λ (ys : List ℕ). take i xs ++ ys) (drop_more xs i 0 short)

pub returns-then-parts_words : goal.returns-then-parts_words
returns-then-parts_words c =
    let bytes = c.args.bytes.now in
    let i = c.loop-index.index in
    let b = get_or bytes i 0 in
    ap (slice_split parts_words) (split_there bytes i c.loop-index-test.true)
    ∙ slice_split_at parts_words (take i bytes) b (drop (i + 1) bytes) c.loop-index.invariant (sym c.parts_words.ensures ∙ c.if-parts_words.true)
    ∙ ap (λ (rest : List ℕ). take i bytes ∷ slice_split parts_words rest) (sym (take_rest bytes (i + 1)))

pub returns : goal.returns
returns c =
    slice_split_none parts_words c.args.bytes.now (subst (All (λ byte. parts_words byte ≡ false)) (take_all c.loop-index.index c.args.bytes.now c.loop-index-test.false) c.loop-index.invariant)

pub loop-index-preserved : goal.loop-index-preserved
loop-index-preserved c =
    let bytes = c.args.bytes.now in
    let i = c.loop-index.index in
    subst (All (λ byte. parts_words byte ≡ false)) (sym (take_more bytes i 0 c.loop-index-test.true)) (All-push (λ byte. parts_words byte ≡ false) (take i bytes) (get_or bytes i 0) c.loop-index.invariant (sym c.parts_words.ensures ∙ c.if-parts_words.false))
