-- With which part arguments begin, as a function: with one at most.
use Rattle.std.proofs.Common.{◌≡◌, ℕ, false, cond, List, [], ◌∷◌, Option, Some, None, refl, sym, ap, ◌∙◌, codes}
use Rattle.std.specs.Option.{option_map, unwrap_or}
use Rattle.std.specs.Str.{bytes_eq}
use Rattle.std.proofs.lemmas.Option.{none-some}
use Rattle.command_line.specs.Argument.{Argument, Conflicts, Threads, begins_with_dash, BeginsWithArgument, alone, conflicts_next, threads_next}
use Rattle.command_line.proofs.Alone.{alone_of, alone_found, alone_wants_none}

-- the option with the next argument as its value
abbrev pub with_value : (List ℕ → Argument) → List (List ℕ) → Option (Argument × List (List ℕ))
with_value make [] = None
with_value make (value ∷ rest) = cond (begins_with_dash value) None (Some (make value, rest))

-- the part at the front, and what is left
abbrev pub front_of : List (List ℕ) → Option (Argument × List (List ℕ))
front_of [] = None
front_of (word ∷ rest) = cond (bytes_eq word (codes "--conflicts")) (with_value Conflicts rest)
    (cond (bytes_eq word (codes "--threads")) (with_value Threads rest)
    (option_map (λ part. (part, rest)) (alone_of word)))

-- the function finds the part
pub front_found : {args : List (List ℕ)} {part : Argument} {left : List (List ℕ)} → BeginsWithArgument args part left → front_of args ≡ Some (part, left)
front_found (alone word part rest is) =
    let others = alone_wants_none is in
    let first : bytes_eq word (codes "--conflicts") ≡ false = others.0 in
    let second : bytes_eq word (codes "--threads") ≡ false = others.1 in
    rw (first, second, alone_found is) refl
front_found (conflicts_next value rest plain) = rw plain refl
front_found (threads_next value rest plain) = rw plain refl

-- arguments begin with one part
pub same_front : {args : List (List ℕ)} {one other : Argument} {left rest : List (List ℕ)} → BeginsWithArgument args one left → BeginsWithArgument args other rest → (one ≡ other) × (left ≡ rest)
same_front {one = one} {other = other} {left = left} {rest = rest} first second =
    let e : Some (one, left) ≡ Some (other, rest) = sym (front_found first) ∙ front_found second in
    (let first : (o : Option (Argument × List (List ℕ))) → Argument × List (List ℕ) = λ o. unwrap_or o (one, left) in (ap (λ (o : Option (Argument × List (List ℕ))). (first o).0) e, ap (λ (o : Option (Argument × List (List ℕ))). (first o).1) e))

-- no arguments begin with none
pub no_words : {part : Argument} {left : List (List ℕ)} → BeginsWithArgument [] part left → ⊥
no_words {part = part} {left = left} begins = none-some (part, left) (front_found begins)

-- no part begins at `--`
pub no_end : (rest : List (List ℕ)) {part : Argument} {left : List (List ℕ)} → BeginsWithArgument (codes "--" ∷ rest) part left → ⊥
no_end rest {part = part} {left = left} begins = none-some (part, left) (front_found begins)
