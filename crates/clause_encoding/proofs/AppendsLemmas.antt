-- What is appended step by step.
use Rattle.std.proofs.Common.{◌≡◌, ℕ, ◌+◌, ◌-◌, ◌<◌, ◌≤◌, List, [], ◌∷◌, ◌++◌, length, get_or, take, map, sym, ap, ◌∙◌, subst, arith, append-nil, append_assoc}
use Rattle.std.specs.List.{enumerate_from, flat_map, range_with_len}
use Rattle.std.proofs.lemmas.List.{map_more, take_more}
use Rattle.std.proofs.lemmas.List.Concat.{flat_map-append}
use Rattle.std.proofs.lemmas.List.FromFn.{map-range_with_len_more}
use Rattle.clause_core.specs.declared.literal.Lit.{Lit}
use Rattle.clause_core.specs.Clause.{IsAscending, HasExactly}
use Rattle.clause_core.specs.Written.{AppendsClauses, Written, AreClausesOf}
use Rattle.clause_encoding.proofs.RangeLemmas.{flat_map_next, flat_map_numbered}

-- clauses of one list and then of another
pub joined : (written others : List Written) (clauses more : List (List Lit)) → AreClausesOf written clauses → AreClausesOf others more → AreClausesOf (written ++ others) (clauses ++ more)
joined [] others [] more are also = also
joined [] others (clause ∷ clauses) more are also = absurd are
joined (lits ∷ written) others [] more are also = absurd are
joined (lits ∷ written) others (clause ∷ clauses) more are also = (are.0, joined written others clauses more are.1 also)

-- nothing is appended
pub appends_nothing : (old : List (List Lit)) → AppendsClauses old old []
appends_nothing old = record { added = []; follows = sym (append-nil old); are = tt }

-- one clause is appended
pub appends_one : (old new : List (List Lit)) (lits clause : List Lit) → IsAscending clause → HasExactly clause lits → new ≡ old ++ clause ∷ [] → AppendsClauses old new (lits ∷ [])
appends_one old new lits clause ascending exactly is_new =
    record { added = clause ∷ []; follows = is_new; are = (record { ascending = ascending; exactly = exactly }, tt) }

-- two steps
pub appends_both : (old mid new : List (List Lit)) (written others : List Written) → AppendsClauses old mid written → AppendsClauses mid new others → AppendsClauses old new (written ++ others)
appends_both old mid new written others first second =
    record {
      added = first.added ++ second.added;
      follows = second.follows ∙ ap (λ clauses. clauses ++ second.added) first.follows ∙ append_assoc old first.added second.added;
      are = joined written others first.added second.added first.are second.are;
    }

-- a longer list of what is written
pub appends_more : (old mid new : List (List Lit)) (written more all : List Written) → all ≡ written ++ more → AppendsClauses old mid written → AppendsClauses mid new more → AppendsClauses old new all
appends_more old mid new written more all longer so_far step = subst (AppendsClauses old new) (sym longer) (appends_both old mid new written more so_far step)

-- one number more of a range that begins after another
pub appends_next : (f : ℕ → List Written) (old mid new : List (List Lit)) (a k : ℕ) → a ≤ k → AppendsClauses old mid (flat_map f (range_with_len a (k - a))) → AppendsClauses mid new (f k) → AppendsClauses old new (flat_map f (range_with_len a (k + 1 - a)))
appends_next f old mid new a k from =
    let longer : k + 1 - a ≡ k - a + 1 = omega arith in
    let next = ap (λ n. flat_map f (range_with_len a n)) longer ∙ flat_map_next f a (k - a) k (omega arith) in
    appends_more old mid new (flat_map f (range_with_len a (k - a))) (f k) (flat_map f (range_with_len a (k + 1 - a))) next

-- one message more
pub appends_message : (f : ℕ → List Written) (old mid new : List (List Lit)) (m : ℕ) → AppendsClauses old mid (flat_map f (range_with_len 0 m)) → AppendsClauses mid new (f m) → AppendsClauses old new (flat_map f (range_with_len 0 (m + 1)))
appends_message f old mid new m =
    appends_more old mid new (flat_map f (range_with_len 0 m)) (f m) (flat_map f (range_with_len 0 (m + 1))) (flat_map_next f 0 m m (omega arith))

-- one message more, with one clause
pub appends_message_clause : (f : ℕ → Written) (old mid new : List (List Lit)) (m : ℕ) → AppendsClauses old mid (map f (range_with_len 0 m)) → AppendsClauses mid new (f m ∷ []) → AppendsClauses old new (map f (range_with_len 0 (m + 1)))
appends_message_clause f old mid new m =
    appends_more old mid new (map f (range_with_len 0 m)) (f m ∷ []) (map f (range_with_len 0 (m + 1))) (map-range_with_len_more f 0 m m (omega arith))

-- one item more
pub appends_item : (f : ℕ → List Written) (old mid new : List (List Lit)) (xs : List ℕ) (i d : ℕ) → i < length xs → AppendsClauses old mid (flat_map f (take i xs)) → AppendsClauses mid new (f (get_or xs i d)) → AppendsClauses old new (flat_map f (take (i + 1) xs))
appends_item f old mid new xs i d within =
    let next = ap (flat_map f) (take_more xs i d within) ∙ flat_map-append f (take i xs) (get_or xs i d ∷ []) ∙ ap (λ ys. flat_map f (take i xs) ++ ys) (append-nil (f (get_or xs i d))) in
    appends_more old mid new (flat_map f (take i xs)) (f (get_or xs i d)) (flat_map f (take (i + 1) xs)) next

-- one item more, with one clause
pub appends_item_clause : (f : ℕ → Written) (old mid new : List (List Lit)) (xs : List ℕ) (i d : ℕ) → i < length xs → AppendsClauses old mid (map f (take i xs)) → AppendsClauses mid new (f (get_or xs i d) ∷ []) → AppendsClauses old new (map f (take (i + 1) xs))
appends_item_clause f old mid new xs i d within =
    appends_more old mid new (map f (take i xs)) (f (get_or xs i d) ∷ []) (map f (take (i + 1) xs)) (map_more f xs i d within)

-- one numbered item more
pub appends_numbered : {X : Type 0} (f : ℕ × X → List Written) (old mid new : List (List Lit)) (a : ℕ) (xs : List X) (n : ℕ) (d : X) → n < length xs → AppendsClauses old mid (flat_map f (enumerate_from a (take n xs))) → AppendsClauses mid new (f (a + n, get_or xs n d)) → AppendsClauses old new (flat_map f (enumerate_from a (take (n + 1) xs)))
appends_numbered f old mid new a xs n d within =
    appends_more old mid new (flat_map f (enumerate_from a (take n xs))) (f (a + n, get_or xs n d)) (flat_map f (enumerate_from a (take (n + 1) xs))) (flat_map_numbered f a xs n d within)
