-- Entries lead to one ledger, and a part of them to one on the way.
use Rattle.std.proofs.Common.{◌≡◌, ℕ, zero, suc, ◌+◌, ◌<◌, Some, List, [], ◌∷◌, ◌++◌, length, get_or, take, drop, slice_get, refl, sym, ap, ap₂, ◌∙◌, arith}
use Rattle.std.proofs.lemmas.List.{take_more}
use Rattle.std.proofs.lemmas.Option.{slice_get-get_or}
use Rattle.clause_core.specs.declared.literal.Lit.{Lit}
use Rattle.clause_core.specs.Resolvent.{ResolventsAgree}
use Rattle.refutation_log.specs.declared.refutation.Entry.{Entry}
use Rattle.refutation_log.specs.declared.refutation.Entry.TheVariants.{Step, Drop}
use Rattle.clause_core.specs.Numbering.{live}
use Rattle.refutation_log.specs.Ledger.{Ledger, without, without_all, AllRemoved, IsLive}
use Rattle.refutation_log.specs.Resolution.{Runs}
use Rattle.log_checker.specs.FirstFailure.{LacksLive}
use Rattle.log_checker.proofs.Folding.{derives_one}

-- the entries derive one list of clauses, and lead to one ledger
pub runs_one : ResolventsAgree → (ledger first second : Ledger) (log : List Entry) (derived other : List (List Lit)) → Runs IsLive ledger log derived first → Runs IsLive ledger log other second → (derived ≡ other) × (first ≡ second)
runs_one agree ledger first second [] derived other one two = (one.0 ∙ sym two.0, one.1 ∙ sym two.1)
runs_one agree ledger first second (Step chain ∷ log) [] other one two = absurd one
runs_one agree ledger first second (Step chain ∷ log) (c ∷ derived) [] one two = absurd two
runs_one agree ledger first second (Step chain ∷ log) (c ∷ derived) (d ∷ other) one two =
    let same : c ≡ d = derives_one agree (live ledger) chain c d one.0 two.0 in
    let rest = runs_one agree (ledger ++ Some d ∷ []) first second log derived other (rw same at one.1) two.1 in
    (ap₂ (λ x xs. x ∷ xs) same rest.0, rest.1)
runs_one agree ledger first second (Drop numbers ∷ log) derived other one two = runs_one agree (without_all ledger numbers) first second log derived other one.1 two.1

-- the entries before lead to a ledger from which the entries after go on
pub record Splits (first : Ledger) (before after : List Entry) (derived : List (List Lit)) (last : Ledger) : Type 0 where
  pub front : List (List Lit)
  pub rest : List (List Lit)
  pub middle : Ledger
  pub runs_front : Runs IsLive first before front middle
  pub runs_rest : Runs IsLive middle after rest last

pub runs_split : (first last : Ledger) (before after : List Entry) (derived : List (List Lit)) → Runs IsLive first (before ++ after) derived last → Splits first before after derived last
runs_split first last [] after derived runs = record { front = []; rest = derived; middle = first; runs_front = (refl, refl); runs_rest = runs }
runs_split first last (Step chain ∷ before) after [] runs = absurd runs
runs_split first last (Step chain ∷ before) after (clause ∷ derived) runs =
    let split = runs_split (first ++ Some clause ∷ []) last before after derived runs.1 in
    record { front = clause ∷ split.front; rest = split.rest; middle = split.middle; runs_front = (runs.0, split.runs_front); runs_rest = split.runs_rest }
runs_split first last (Drop numbers ∷ before) after derived runs =
    let split = runs_split (without_all first numbers) last before after derived runs.1 in
    record { front = split.front; rest = split.rest; middle = split.middle; runs_front = (runs.0, split.runs_front); runs_rest = split.runs_rest }

-- ---- numbers that are removed one after the other

-- each of the numbers that were removed was live
pub removed_pass : (ledger : Ledger) (numbers : List ℕ) (n index number : ℕ) → index < n → slice_get numbers index ≡ Some number → AllRemoved IsLive ledger (take n numbers) → IsLive (without_all ledger (take index numbers)) number
removed_pass ledger [] n index number before next all = absurd cc
removed_pass ledger (first ∷ numbers) zero index number before next all = absurd (omega (arith, before))
removed_pass ledger (first ∷ numbers) (suc n) zero number before next all = let same : first ≡ number = cc in rw same at all.0
removed_pass ledger (first ∷ numbers) (suc n) (suc index) number before next all = removed_pass (without ledger first) numbers n index number (omega (arith, before)) next all.1

-- one number more
pub removed_push : (ledger : Ledger) (numbers : List ℕ) (number : ℕ) → AllRemoved IsLive ledger numbers → IsLive (without_all ledger numbers) number → AllRemoved IsLive ledger (numbers ++ number ∷ [])
removed_push ledger [] number all next = (next, tt)
removed_push ledger (first ∷ numbers) number all next = (all.0, removed_push (without ledger first) numbers number all.1 next)

pub without_push : (ledger : Ledger) (numbers : List ℕ) (number : ℕ) → without_all ledger (numbers ++ number ∷ []) ≡ without (without_all ledger numbers) number
without_push ledger [] number = refl
without_push ledger (first ∷ numbers) number = without_push (without ledger first) numbers number

-- ---- the walk along the numbers

pub removed_next : (ledger : Ledger) (numbers : List ℕ) (index d : ℕ) → index < length numbers → AllRemoved IsLive ledger (take index numbers) → IsLive (without_all ledger (take index numbers)) (get_or numbers index d) → AllRemoved IsLive ledger (take (index + 1) numbers)
removed_next ledger numbers index d within removed is = rw (take_more numbers index d within) (removed_push ledger (take index numbers) (get_or numbers index d) removed is)

pub without_next : (ledger : Ledger) (numbers : List ℕ) (index d : ℕ) → index < length numbers → without_all ledger (take (index + 1) numbers) ≡ without (without_all ledger (take index numbers)) (get_or numbers index d)
without_next ledger numbers index d within = ap (without_all ledger) (take_more numbers index d within) ∙ without_push ledger (take index numbers) (get_or numbers index d)

-- the number at the index is not live
pub lacks_there : (ledger : Ledger) (numbers : List ℕ) (index d : ℕ) → index < length numbers → AllRemoved IsLive ledger (take index numbers) → (IsLive (without_all ledger (take index numbers)) (get_or numbers index d) → ⊥) → LacksLive ledger numbers (index + 1)
lacks_there ledger numbers index d within removed dead = record {
  index = index;
  counted = refl;
  number = get_or numbers index d;
  next = slice_get-get_or numbers index d within;
  before = removed;
  lacks = λ clause named. dead (record { clause = clause; named = named });
}

-- ---- two cuts of one list

-- the longer front goes on with the rest of the shorter one
pub overlap : (a b c d : List Entry) → a ++ b ≡ c ++ d → length a < length c → (x : Entry) × (xs : List Entry) × (ys : List Entry) × (b ≡ x ∷ xs) × (c ≡ a ++ x ∷ ys)
overlap a b [] d e short = absurd (omega arith)
overlap [] b (y ∷ c) d e short = (y, c ++ d, c, e, refl)
overlap (x ∷ a) b (y ∷ c) d e short =
    let rest = overlap a b c d (ap (drop 1) e) (omega arith) in
    let tails : c ≡ a ++ rest.0 ∷ rest.2 = rest.4 in
    let heads : y ≡ x = cc in
    (rest.0, rest.1, rest.2, rest.3, cc)

pub same_cut : (a b c d : List Entry) → a ++ b ≡ c ++ d → length a ≡ length c → (a ≡ c) × (b ≡ d)
same_cut [] b [] d e same = (refl, e)
same_cut [] b (y ∷ c) d e same = absurd (omega arith)
same_cut (x ∷ a) b [] d e same = absurd (omega arith)
same_cut (x ∷ a) b (y ∷ c) d e same =
    let rest = same_cut a b c d (ap (drop 1) e) (omega arith) in
    let heads : x ≡ y = cc in
    let tails : a ≡ c = rest.0 in
    (cc, rest.1)
