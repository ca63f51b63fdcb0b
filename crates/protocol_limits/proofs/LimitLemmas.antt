-- The limits, their counts at most the last number of 64 bits, and the counts of the top itself.
use Rattle.std.proofs.Common.{◌≡◌, ℕ, ◌+◌, ◌<◌, Bool, true, false, cond, List, [], ◌∷◌, length, Option, Some, None, refl, sym, ◌∙◌, ap, arith, All}
use Rattle.std.specs.Prelude.{count_by, is_some, map, nat_lt, slice_get}
use Rattle.std.specs.List.{find}
use Rattle.std.specs.Option.{option_map, option_map_or}
use Rattle.std.proofs.lemmas.Bool.Decides.{nat_tests}
use Rattle.std.proofs.lemmas.List.{length-map}
use Rattle.std.proofs.lemmas.List.Elements.{All-from_recursion, All-head, All-tail}
use Rattle.std.proofs.lemmas.List.Sums.{length-filter}
use Rattle.bspl_types.specs.declared.refusals.What.{What}
use Rattle.bspl_parser.specs.declared.document.Declaration.{Declaration}
use Rattle.bspl_parser.specs.declared.document.Formal.{Formal}
use Rattle.protocol_names.specs.Names.{key_words}
use Rattle.reference_graph.specs.PathCounts.{saturated}
use Rattle.protocol_limits.specs.declared.limit.Limit.{Limit}
use Rattle.protocol_limits.specs.declared.outcome.LimitError.{LimitError}
use Rattle.protocol_limits.specs.declared.outcome.LimitError.TheVariants.{NoMemory, TooMany}
use Rattle.protocol_limits.specs.Counts.{key_count, param_count, private_count, role_count}
use Rattle.protocol_limits.specs.Limits.{AreWithinLimits, is_over, limit, limits, saturated_limit}
use Rattle.protocol_limits.specs.Survey.{IsLimitError}
use Rattle.protocol_limits.specs.inner.PathTotals.{NamesFirstOver}

-- the limit is one that a number of 64 bits can exceed
abbrev IsSmall : Limit → Type 0
IsSmall l = l.most < 18446744073709551615

-- a count is over such a limit exactly if the number that it stops at is
over_same : (n most : ℕ) → most < 18446744073709551615 → nat_lt most (saturated n) ≡ nat_lt most n
over_same n most small = grind (arith, nat_tests)

-- a limit whose count stops where the other does
pub limit_is : (what : What) (n count most : ℕ) (l : Limit) → l ≡ limit what (saturated count) most → saturated count ≡ saturated n → l ≡ saturated_limit (limit what n most)
limit_is what n count most l is same = is ∙ ap (λ k. limit what k most) same

-- a number that was stopped stops where it was
pub stopped_again : (n count : ℕ) → count ≡ saturated n → saturated count ≡ saturated n
stopped_again n count is = omega (arith, is)

-- the first limit that is exceeded is the same
pub find_saturated : (ls : List Limit) → All IsSmall ls → find is_over (map saturated_limit ls) ≡ option_map saturated_limit (find is_over ls)
find_saturated [] small = refl
find_saturated (l ∷ ls) small =
    ap (λ b. cond b (Some (saturated_limit l)) (find is_over (map saturated_limit ls))) (over_same l.count l.most (All-head IsSmall l ls small))
    ∙ by (nat_lt l.most l.count) (find_saturated ls (All-tail IsSmall l ls small))
  where
    by : (b : Bool) → find is_over (map saturated_limit ls) ≡ option_map saturated_limit (find is_over ls) → cond b (Some (saturated_limit l)) (find is_over (map saturated_limit ls)) ≡ option_map saturated_limit (cond b (Some l) (find is_over ls))
    by true same = refl
    by false same = same

-- each limit can be exceeded
pub all_small : (protocols : List Declaration) (top : ℕ) → All IsSmall (limits protocols top)
all_small protocols top = All-from_recursion IsSmall (limits protocols top) (omega arith, (omega arith, (omega arith, (omega arith, (omega arith, (omega arith, (omega arith, tt)))))))

-- no limit is exceeded
pub none_over : (protocols : List Declaration) (top : ℕ) (ls : List Limit) → ls ≡ map saturated_limit (limits protocols top) → find is_over ls ≡ None → AreWithinLimits protocols top
none_over protocols top ls are none =
    by (find is_over (limits protocols top)) (sym (find_saturated (limits protocols top) (all_small protocols top)) ∙ ap (find is_over) (sym are) ∙ none)
  where
    by : (o : Option Limit) → option_map saturated_limit o ≡ None → o ≡ None
    by None same = refl
    by (Some l) same = absurd cc

-- the first limit that is exceeded is reported
pub first_over : (protocols : List Declaration) (top : ℕ) (ls : List Limit) (error : LimitError) → ls ≡ map saturated_limit (limits protocols top) → NamesFirstOver ls error → IsLimitError protocols top error
first_over protocols top ls (TooMany what count) are named =
    let found : option_map saturated_limit (find is_over (limits protocols top)) ≡ Some named.0 = sym (find_saturated (limits protocols top) (all_small protocols top)) ∙ ap (find is_over) (sym are) ∙ named.1 in
    let over = some_of (find is_over (limits protocols top)) named.0 found in
    record {
      over = over.0;
      first = over.1;
      counted = ap (λ (l : Limit). l.what) over.2 ∙ named.2;
      reported = sym named.3 ∙ sym (ap (λ (l : Limit). l.count) over.2);
    }
  where
    some_of : (o : Option Limit) (l : Limit) → option_map saturated_limit o ≡ Some l → (over : Limit) × (o ≡ Some over) × (saturated_limit over ≡ l)
    some_of None l same = absurd cc
    some_of (Some over) l same = (over, refl, cc)
first_over protocols top ls NoMemory are named = absurd named

-- what is counted of the top protocol itself
pub roles_at : (protocols : List Declaration) (top : ℕ) (p : Declaration) → slice_get protocols top ≡ Some p → role_count protocols top ≡ length p.roles
unfolding role_count
roles_at protocols top p at = ap (λ o. option_map_or (λ (q : Declaration). length q.roles) o 0) at

pub keys_at : (protocols : List Declaration) (top : ℕ) (p : Declaration) → slice_get protocols top ≡ Some p → key_count protocols top ≡ count_by (λ f. is_some f.key) p.public
unfolding key_count
keys_at protocols top p at =
    ap (λ o. option_map_or (λ (q : Declaration). length (key_words q)) o 0) at
    ∙ length-map _ _
    ∙ length-filter (λ (f : Formal). is_some f.key) p.public

pub params_at : (protocols : List Declaration) (top : ℕ) (p : Declaration) → slice_get protocols top ≡ Some p → param_count protocols top ≡ length p.public + private_count protocols top
unfolding param_count
params_at protocols top p at = ap (λ o. option_map_or (λ (q : Declaration). length q.public) o 0 + private_count protocols top) at

-- a sum with a number that was stopped stops as the sum does
pub params_stopped : (public private inner total : ℕ) → inner ≡ saturated private → total ≡ public + private → saturated (saturated (inner + public)) ≡ saturated total
params_stopped public private inner total is_inner is_total = omega (arith, is_inner, is_total)
