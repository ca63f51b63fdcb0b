-- A join of two passes keeps the rule of a mailbox.
use Rattle.std.proofs.Common.{◌≡◌, ◌≢◌, ◌⊎◌, ℕ, ◌+◌, ◌==◌, ◌||◌, Bool, true, false, List, [], ◌∷◌, length, set, Some, slice_get, refl, sym, ap, ◌∙◌, subst, inl, inr, arith, rules, length-append, if◌then◌else◌}
use Rattle.std.proofs.lemmas.Bool.{cases_eq}
use Rattle.crossbeam_queue.specs.Fifo.{Merges}
use Rattle.bspl_types.specs.declared.envelope.Envelope.{Envelope}
use Rattle.agent_scripts.specs.Job.{Job}
use Rattle.reorder_net.specs.declared.hold.Hold.{Hold}
use Rattle.reorder_net.specs.Mail.{FitsPass, HasPuts, IsHolding, IsMail, MailLists, SomePass}
use Rattle.reorder_net.specs.inner.Moves.{joined, spent, Follows}
use Rattle.reorder_net.proofs.ItemLemmas.{append_cases, set_else, set_here, view_at}
use Rattle.reorder_net.proofs.ViewLemmas.{each_set, fits_spent, not_taking, some_still}

-- which pass has a list, once one pass takes in all lists of another
abbrev moved : ℕ → ℕ → ℕ → ℕ
moved other pass at = if at == other then pass else at

abbrev moved_lists : ℕ → ℕ → MailLists → MailLists
moved_lists other pass lists = record lists { seat = λ s. moved other pass (lists.seat s); reader = moved other pass lists.reader }

moved_here : (other pass at : ℕ) → at ≡ other → moved other pass at ≡ pass
moved_here other pass at same = rw same (grind (arith, rules))

moved_else : (other pass at : ℕ) → at ≢ other → moved other pass at ≡ at
moved_else other pass at apart = grind (arith, rules)

-- what either took
taken_of_both : (b c : Bool) (x y t : List Envelope) (reader pass other : ℕ) → (b ≡ true → (reader ≡ pass) × (x ≡ t)) → (c ≡ true → (reader ≡ other) × (y ≡ t)) → other ≢ pass → (b || c) ≡ true
    → (moved other pass reader ≡ pass) × ((if b then x else y) ≡ t)
taken_of_both true c x y t reader pass other mine theirs apart one = let m = mine refl in (moved_else other pass reader (λ same. apart (sym same ∙ m.0)) ∙ m.0, m.1)
taken_of_both false c x y t reader pass other mine theirs apart one = let r = theirs one in (moved_here other pass reader r.0, r.1)

-- either takes
either_takes : (b c : Bool) → (b ≡ true) ⊎ (c ≡ true) → (b || c) ≡ true
either_takes true c one = refl
either_takes false c (inl takes) = absurd (not_taking takes)
either_takes false c (inr takes) = takes

-- where the other's lists come
placed : (v u : Hold) (k i : ℕ) (l : List Envelope) → Follows v u → slice_get u.puts k ≡ Some l → i ≡ length v.puts + k → u.low + k ≡ v.low + i
placed v u k i l next found is = elim next [
  | inl none ↦ absurd (nothing_there u.puts k l none found)
  | inr after ↦ omega (arith, after, is)
]
  where
    nothing_there : (lists : List (List Envelope)) (k : ℕ) (l : List Envelope) → lists ≡ [] → slice_get lists k ≡ Some l → ⊥
    nothing_there [] k l e found = cc found
    nothing_there (x ∷ xs) k l e found = cc e

-- each list that stood in one of the two stands in the pass that is left
mine_joined : (v u : Hold) (s : ℕ) → HasPuts s v → HasPuts s (joined v u)
mine_joined v u s has = (has.0, omega (arith, has.1, length-append v.puts u.puts))

theirs_joined : (v u : Hold) (s : ℕ) → Follows v u → HasPuts s u → HasPuts s (joined v u)
theirs_joined v u s next has = elim next [
  | inl none ↦ let empty : length u.puts ≡ 0 = ap length none in absurd (omega (arith, has.0, has.1, empty))
  | inr after ↦ (omega (arith, after, has.0), omega (arith, after, has.1, length-append v.puts u.puts))
]

-- a pass with the property is the one that is left, or stays
some_joined : (P : Hold → Type 0) (views : List Hold) (i pass other : ℕ) (v u both : Hold) → slice_get views pass ≡ Some v → slice_get views other ≡ Some u → other ≢ pass → (P v → P both) → (P u → P both) → SomePass views i P
    → SomePass (set (set views pass both) other spent) (moved other pass i) P
some_joined P views i pass other v u both at there apart mine theirs is = elim (cases_eq i other) [
  | inl same ↦
      let one : is.0 ≡ u = cc (is.1, there, same) in
      let found = set_else (set views pass both) other pass spent (λ e. apart (sym e)) ∙ set_here views pass both v at in
      rw (moved_here other pass i same) (both, found, theirs (subst P one is.2))
  | inr away ↦
      let one = some_still P views i pass v both at mine is in
      rw (moved_else other pass i away) (one.0, set_else (set views pass both) other i spent away ∙ one.1, one.2)
]

-- the lists of the other pass come to this one
joined_fits : (lists : MailLists) (pass other : ℕ) (v u : Hold) → IsHolding v → Follows v u → other ≢ pass → FitsPass lists pass v → FitsPass lists other u → FitsPass (moved_lists other pass lists) pass (joined v u)
joined_fits lists pass other v u holds next apart mine theirs = record {
  at_home = λ _. mine.at_home holds;
  has_puts = λ i l found. elim (append_cases v.puts u.puts i l found) [
    | inl here ↦
        let has = mine.has_puts i l here in
        (moved_else other pass (lists.seat (v.low + i)) (λ e. apart (sym e ∙ has.0)) ∙ has.0, has.1)
    | inr (k, is, there) ↦
        let place : u.low + k ≡ v.low + i = placed v u k i l next there is in
        let has = subst (λ n. (lists.seat n ≡ other) × (slice_get lists.puts n ≡ Some l)) place (theirs.has_puts k l there) in
        (moved_here other pass (lists.seat (v.low + i)) has.0, has.1)
  ];
  has_taken = λ one. taken_of_both v.takes u.takes v.taken u.taken lists.taken lists.reader pass other mine.has_taken theirs.has_taken apart one;
}

-- and no other pass changes
others_fit : (lists : MailLists) (pass other j : ℕ) (y : Hold) → j ≢ other → FitsPass lists j y → FitsPass (moved_lists other pass lists) j y
others_fit lists pass other j y away f = record {
  at_home = f.at_home;
  has_puts = λ i l found. let has = f.has_puts i l found in (moved_else other pass (lists.seat (y.low + i)) (λ e. away (sym has.0 ∙ e)) ∙ has.0, has.1);
  has_taken = λ takes. let has = f.has_taken takes in (moved_else other pass lists.reader (λ e. away (sym has.0 ∙ e)) ∙ has.0, has.1);
}

-- a pass takes in the lists of one that follows it
pub merges : (job : Job) (pass : ℕ) (v : Hold) (other : ℕ) (u : Hold) → IsHolding v → Follows v u → Merges (IsMail job) pass v other u (joined v u) spent
merges job pass v other u holds next items views rule found apart found' =
    let both = joined v u in
    let at = view_at views pass v found in
    let there : slice_get views other ≡ Some u = sym (set_else views pass other both apart) ∙ view_at (set views pass both) other u found' in
    let lists = moved_lists other pass rule.lists in
    let fits = joined_fits rule.lists pass other v u holds next apart (rule.passes pass v at) (rule.passes other u there) in
    record {
      lists = lists;
      count = rule.count;
      posted = rule.posted;
      explained = rule.explained;
      passes = each_set (FitsPass lists) (set views pass both) other spent (fits_spent lists other)
          (λ j y away e. each_set (λ k z. k ≢ other → FitsPass lists k z) views pass both (λ _. fits) (λ k z _ e' away'. others_fit rule.lists pass other k z away' (rule.passes k z e')) j y e away);
      seated = λ s within. some_joined (HasPuts s) views (rule.lists.seat s) pass other v u both at there apart (mine_joined v u s) (theirs_joined v u s next) (rule.seated s within);
      read = some_joined (λ w. w.takes ≡ true) views rule.lists.reader pass other v u both at there apart (λ takes. either_takes v.takes u.takes (inl takes)) (λ takes. either_takes v.takes u.takes (inr takes)) rule.read;
    }
