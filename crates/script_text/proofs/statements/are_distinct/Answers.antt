-- Numbers are different as long as none stands among those before it.
use Rattle.std.proofs.Common.{◌≢◌, ℕ, ◌+◌, ◌<◌, List, length, take, get_or, refl, sym, subst, ◌∙◌}
use Rattle.std.specs.List.{AllPairs, Contains}
use Rattle.std.proofs.lemmas.Bool.{true≢false}
use Rattle.std.proofs.lemmas.List.{take_more, take_all}
use Rattle.std.proofs.lemmas.List.Elements.{Contains-get_or}
use Rattle.std.proofs.lemmas.List.Quantifiers.{all_pairs_push}
use Rattle.std.proofs.lemmas.Option.{get_or_from_slice_get}
use Rattle.list_base.proofs.Membership.{early_index}
use Rattle.script_text.proofs.statements.are_distinct.Goals as goal

-- one that stands before itself is no different
repeated : (numbers : List ℕ) (index : ℕ) → index < length numbers → Contains (take index numbers) (get_or numbers index 0) → AllPairs (λ m n. m ≢ n) numbers → ⊥
repeated numbers index within among distinct =
    let early = early_index numbers index (get_or numbers index 0) among in
    distinct early.0 index 0 early.1 within (get_or_from_slice_get numbers early.0 (get_or numbers index 0) 0 early.2)

one_more : (numbers : List ℕ) (index : ℕ) → index < length numbers → ¬ Contains (take index numbers) (get_or numbers index 0) → AllPairs (λ m n. m ≢ n) (take index numbers) → AllPairs (λ m n. m ≢ n) (take (index + 1) numbers)
one_more numbers index within new distinct =
    let front = take index numbers in
    let next = get_or numbers index 0 in
    rw (take_more numbers index 0 within) (all_pairs_push (λ m n. m ≢ n) front next distinct (λ k d before same. new (subst (Contains front) same (Contains-get_or front k d before))))

pub returns-then-is_among : goal.returns-then-is_among
returns-then-is_among c = (
  λ none. absurd (true≢false (sym none)),
  λ distinct. absurd (repeated c.args.numbers.now c.loop-index.index c.loop-index-test.true (c.is_among.ensures.0 c.if-is_among.true) distinct),
)

pub loop-index-preserved : goal.loop-index-preserved
loop-index-preserved c = one_more c.args.numbers.now c.loop-index.index c.loop-index-test.true (λ among. true≢false (sym (c.is_among.ensures.1 among) ∙ c.if-is_among.false)) c.loop-index.invariant

pub returns : goal.returns
returns c =
    let all = take_all c.loop-index.index c.args.numbers.now c.loop-index-test.false in
    (λ _. subst (λ (ns : List ℕ). AllPairs (λ m n. m ≢ n) ns) all c.loop-index.invariant, λ _. refl)
