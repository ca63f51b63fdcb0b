-- A new mailbox meets the rule, and each split of a pass keeps it.
use Rattle.std.proofs.Common.{◌≡◌, ◌≢◌, ℕ, zero, suc, ◌+◌, ◌<◌, ◌==◌, true, List, [], ◌∷◌, ◌++◌, length, set, replicate, take, drop, get_or, Some, slice_get, refl, sym, ap, ◌∙◌, subst, inl, inr, arith, rules, length-take, length-drop, All, if◌then◌else◌}
use Rattle.std.proofs.lemmas.Bool.{cases_eq}
use Rattle.std.proofs.lemmas.Option.{slice_get_within, slice_get-get_or}
use Rattle.std.proofs.lemmas.List.Elements.{All-nil}
use Rattle.std.proofs.Math.Nat.{zero-add, add-zero}
use Rattle.crossbeam_queue.specs.Fifo.{Forks}
use Rattle.bspl_types.specs.declared.envelope.Envelope.{Envelope}
use Rattle.agent_scripts.specs.Job.{Job}
use Rattle.reorder_net.specs.declared.hold.Hold.{Hold}
use Rattle.reorder_net.specs.Hold.{taker}
use Rattle.reorder_net.specs.Mail.{FitsPass, HasPuts, IsMail, IsPosted, IsPut, MailLists, SomePass}
use Rattle.reorder_net.specs.inner.Moves.{deal, dealt, first_hold, named, spent, untaken}
use Rattle.reorder_net.proofs.ItemLemmas.{replicate_at, replicate_here, view_at}
use Rattle.reorder_net.proofs.ViewLemmas.{each_more, each_set, fits_spent, not_taking, some_last, some_more, some_still}

-- eight empty lists, which one pass has
abbrev no_lists : List (List Envelope)
no_lists = replicate 8 []

abbrev new_lists : ℕ → ℕ → MailLists
new_lists home pass = record { home = home; puts = no_lists; taken = []; seat = λ _. pass; reader = pass }

empty_list : (i : ℕ) (l : List Envelope) → slice_get no_lists i ≡ Some l → l ≡ []
empty_list i l found = sym (replicate_at 8 i [] l found)

-- the pass with all of them fits
all_fit : (home pass : ℕ) → FitsPass (new_lists home pass) pass (named home first_hold)
all_fit home pass = record { at_home = λ _. refl; has_puts = λ i l found. (refl, rw (zero-add i) found); has_taken = λ _. (refl, refl) }

-- a new queue, with its first pass
pub begins : (job : Job) → IsMail job [] (first_hold ∷ [])
begins job = record {
  lists = new_lists 0 0;
  count = refl;
  posted = λ s l found. subst (All (IsPosted job s 0)) (sym (empty_list s l found)) (All-nil (IsPosted job s 0));
  explained = All-nil (IsPut no_lists);
  passes = one;
  seated = λ s within. (first_hold, refl, (omega arith, omega arith));
  read = (first_hold, refl, refl);
}
  where
    one : (pass : ℕ) (v : Hold) → slice_get (first_hold ∷ []) pass ≡ Some v → FitsPass (new_lists 0 0) pass v
    one zero v found = let same : first_hold ≡ v = cc found in subst (FitsPass (new_lists 0 0) 0) same (all_fit 0 0)
    one (suc pass) v found = absurd (cc found)

-- the first pass has all lists, all empty
first_has : (lists : MailLists) (pass s : ℕ) → FitsPass lists pass first_hold → s < 8 → (lists.seat s ≡ pass) × (slice_get lists.puts s ≡ Some [])
first_has lists pass s mine within = subst (λ k. (lists.seat k ≡ pass) × (slice_get lists.puts k ≡ Some [])) (zero-add s) (mine.has_puts s [] (replicate_here 8 s [] within))

-- no other pass has any, and so it fits other lists too
others_empty : (lists new : MailLists) (pass j : ℕ) (u : Hold) → length lists.puts ≡ 8 → FitsPass lists pass first_hold → j ≢ pass → FitsPass lists j u → FitsPass new j u
others_empty lists new pass j u count mine apart f = record {
  at_home = λ holding. elim holding [
    | inl some ↦ absurd (none 0 (get_or u.puts 0 []) (slice_get-get_or u.puts 0 [] some))
    | inr takes ↦ absurd (not_reader takes)
  ];
  has_puts = λ i l found. absurd (none i l found);
  has_taken = λ takes. absurd (not_reader takes);
}
  where
    none : (i : ℕ) (l : List Envelope) → slice_get u.puts i ≡ Some l → ⊥
    none i l found =
        let has = f.has_puts i l found in
        let within : u.low + i < 8 = omega (arith, slice_get_within lists.puts (u.low + i) l has.1, count) in
        apart (sym has.0 ∙ (first_has lists pass (u.low + i) mine within).0)

    not_reader : u.takes ≡ true → ⊥
    not_reader takes = apart (sym (f.has_taken takes).0 ∙ (mine.has_taken refl).0)

-- a list of the mailbox is empty, and each empty list is one of the mailbox's
first_empty : (lists : MailLists) (pass s : ℕ) (l : List Envelope) → length lists.puts ≡ 8 → FitsPass lists pass first_hold → slice_get lists.puts s ≡ Some l → l ≡ []
first_empty lists pass s l count mine found =
    let has = first_has lists pass s mine (omega (arith, slice_get_within lists.puts s l found, count)) in
    cc (has.1, found)

empty_first : (lists : MailLists) (pass i : ℕ) (l : List Envelope) → FitsPass lists pass first_hold → slice_get no_lists i ≡ Some l → slice_get lists.puts i ≡ Some l
empty_first lists pass i l mine found =
    let has = first_has lists pass i mine (omega (arith, slice_get_within no_lists i l found)) in
    has.1 ∙ ap Some (sym (empty_list i l found))

-- all lists go to a new pass, which has the home that is named
pub names : (job : Job) (pass home : ℕ) → Forks (IsMail job) pass first_hold spent (named home first_hold)
names job pass home items views rule found =
    let mine = rule.passes pass first_hold (view_at views pass first_hold found) in
    let vs = set views pass spent in
    let new = named home first_hold in
    let lists : MailLists = record { home = home; puts = rule.lists.puts; taken = rule.lists.taken; seat = λ _. length vs; reader = length vs } in
    record {
      lists = lists;
      count = rule.count;
      posted = λ s l e. subst (All (IsPosted job s home)) (sym (first_empty rule.lists pass s l rule.count mine e)) (All-nil (IsPosted job s home));
      explained = rule.explained;
      passes = each_more (FitsPass lists) vs new
          (record { at_home = λ _. refl; has_puts = λ i l e. (refl, rw (zero-add i) (empty_first rule.lists pass i l mine e)); has_taken = λ _. (refl, (mine.has_taken refl).1) })
          (each_set (FitsPass lists) views pass spent (fits_spent lists pass) (λ j u apart e. others_empty rule.lists lists pass j u rule.count mine apart (rule.passes j u e)));
      seated = λ s within. some_last (HasPuts s) vs new (omega arith, omega arith);
      read = some_last (λ v. v.takes ≡ true) vs new refl;
    }

-- which pass has a list, once one list is in a new pass
abbrev placed : ℕ → ℕ → (ℕ → ℕ) → ℕ → ℕ
placed low new seat s = if s == low then new else seat s

abbrev placed_lists : ℕ → ℕ → MailLists → MailLists
placed_lists low new lists = record lists { seat = placed low new lists.seat }

placed_else : (low new : ℕ) (seat : ℕ → ℕ) (s : ℕ) → s ≢ low → placed low new seat s ≡ seat s
placed_else low new seat s apart = grind (arith, rules)

placed_here : (low new : ℕ) (seat : ℕ → ℕ) (s : ℕ) → s ≡ low → placed low new seat s ≡ new
placed_here low new seat s same = grind (arith, rules)

-- the first of some lists, and the others
first_list : (xs : List (List Envelope)) (i : ℕ) (l : List Envelope) → slice_get (take 1 xs) i ≡ Some l → (i ≡ 0) × (slice_get xs 0 ≡ Some l)
first_list [] i l found = absurd (cc found)
first_list (x ∷ xs) zero l found = (refl, found)
first_list (x ∷ xs) (suc i) l found = absurd (cc found)

other_lists : (xs : List (List Envelope)) (i : ℕ) (l : List Envelope) → slice_get (drop 1 xs) i ≡ Some l → slice_get xs (suc i) ≡ Some l
other_lists [] i l found = found
other_lists (x ∷ xs) i l found = found

-- the pass with the first list, the one without it, and each other pass
deal_fits : (lists : MailLists) (pass new : ℕ) (v : Hold) → 0 < length v.puts → FitsPass lists pass v → FitsPass (placed_lists v.low new lists) new (deal v)
deal_fits lists pass new v some mine = record {
  at_home = λ _. mine.at_home (inl some);
  has_puts = λ i l found.
      let first = first_list v.puts i l found in
      let low : v.low + i ≡ v.low + 0 = ap (λ k. v.low + k) first.0 in
      (placed_here v.low new lists.seat (v.low + i) (low ∙ add-zero v.low), subst (λ k. slice_get lists.puts k ≡ Some l) (sym low) (mine.has_puts 0 l first.1).1);
  has_taken = λ takes. absurd (not_taking takes);
}

dealt_fits : (lists : MailLists) (pass new : ℕ) (v : Hold) → 0 < length v.puts → FitsPass lists pass v → FitsPass (placed_lists v.low new lists) pass (dealt v)
dealt_fits lists pass new v some mine = record {
  at_home = λ _. mine.at_home (inl some);
  has_puts = λ i l found.
      let place : v.low + suc i ≡ (v.low + 1) + i = omega arith in
      let has = subst (λ k. (lists.seat k ≡ pass) × (slice_get lists.puts k ≡ Some l)) place (mine.has_puts (suc i) l (other_lists v.puts i l found)) in
      (placed_else v.low new lists.seat ((v.low + 1) + i) (λ e. omega (arith, e)) ∙ has.0, has.1);
  has_taken = mine.has_taken;
}

others_dealt : (lists : MailLists) (pass new low j : ℕ) (u : Hold) → lists.seat low ≡ pass → j ≢ pass → FitsPass lists j u → FitsPass (placed_lists low new lists) j u
others_dealt lists pass new low j u owner apart f = record {
  at_home = f.at_home;
  has_puts = λ i l found. let has = f.has_puts i l found in (placed_else low new lists.seat (u.low + i) (λ same. apart (sym has.0 ∙ ap lists.seat same ∙ owner)) ∙ has.0, has.1);
  has_taken = f.has_taken;
}

-- a list is in the new pass, or where it was
seated_dealt : (views : List Hold) (seat : ℕ → ℕ) (pass : ℕ) (v : Hold) (s : ℕ) → slice_get views pass ≡ Some v → 0 < length v.puts → SomePass views (seat s) (HasPuts s)
    → SomePass (set views pass (dealt v) ++ deal v ∷ []) (placed v.low (length (set views pass (dealt v))) seat s) (HasPuts s)
seated_dealt views seat pass v s at some is =
    let vs = set views pass (dealt v) in
    elim (cases_eq s v.low) [
      | inl same ↦ rw (placed_here v.low (length vs) seat s same) (some_last (HasPuts s) vs (deal v) (omega (arith, same), omega (arith, same, some, length-take 1 v.puts)))
      | inr apart ↦ rw (placed_else v.low (length vs) seat s apart)
          (some_more (HasPuts s) vs (seat s) (deal v) (some_still (HasPuts s) views (seat s) pass v (dealt v) at (λ has. (omega (arith, apart, has.0), omega (arith, has.1, length-drop 1 v.puts))) is))
    ]

-- the first of the senders' lists goes to a new pass
pub deals : (job : Job) (pass : ℕ) (v : Hold) → 0 < length v.puts → Forks (IsMail job) pass v (dealt v) (deal v)
deals job pass v some items views rule found =
    let at = view_at views pass v found in
    let vs = set views pass (dealt v) in
    let mine = rule.passes pass v at in
    let lists = placed_lists v.low (length vs) rule.lists in
    let own = mine.has_puts 0 (get_or v.puts 0 []) (slice_get-get_or v.puts 0 [] some) in
    let owner : rule.lists.seat v.low ≡ pass = subst (λ k. rule.lists.seat k ≡ pass) (add-zero v.low) own.0 in
    record {
      lists = lists;
      count = rule.count;
      posted = rule.posted;
      explained = rule.explained;
      passes = each_more (FitsPass lists) vs (deal v) (deal_fits rule.lists pass (length vs) v some mine)
          (each_set (FitsPass lists) views pass (dealt v) (dealt_fits rule.lists pass (length vs) v some mine) (λ j y away e. others_dealt rule.lists pass (length vs) v.low j y owner away (rule.passes j y e)));
      seated = λ s within. seated_dealt views rule.lists.seat pass v s at some (rule.seated s within);
      read = some_more (λ w. w.takes ≡ true) vs rule.lists.reader (deal v) (some_still (λ w. w.takes ≡ true) views rule.lists.reader pass v (dealt v) at (λ takes. takes) rule.read);
    }

-- no other pass has what was taken
others_left : (lists : MailLists) (pass new j : ℕ) (u : Hold) → lists.reader ≡ pass → j ≢ pass → FitsPass lists j u → FitsPass (record lists { reader = new }) j u
others_left lists pass new j u owner apart f = record { at_home = f.at_home; has_puts = f.has_puts; has_taken = λ takes. absurd (apart (sym (f.has_taken takes).0 ∙ owner)) }

-- what was taken goes to a new pass
pub leaves : (job : Job) (pass : ℕ) (v : Hold) → v.takes ≡ true → Forks (IsMail job) pass v (untaken v) (taker v.home v.taken)
leaves job pass v may items views rule found =
    let at = view_at views pass v found in
    let new = taker v.home v.taken in
    let vs = set views pass (untaken v) in
    let mine = rule.passes pass v at in
    let home = mine.at_home (inr may) in
    let has = mine.has_taken may in
    let lists = record rule.lists { reader = length vs } in
    record {
      lists = lists;
      count = rule.count;
      posted = rule.posted;
      explained = rule.explained;
      passes = each_more (FitsPass lists) vs new
          (record { at_home = λ _. home; has_puts = λ i l e. absurd (cc e); has_taken = λ _. (refl, has.1) })
          (each_set (FitsPass lists) views pass (untaken v)
          (record { at_home = λ _. home; has_puts = mine.has_puts; has_taken = λ takes. absurd (not_taking takes) })
          (λ j y away e. others_left rule.lists pass (length vs) j y has.0 away (rule.passes j y e)));
      seated = λ s within. some_more (HasPuts s) vs (rule.lists.seat s) new (some_still (HasPuts s) views (rule.lists.seat s) pass v (untaken v) at (λ here. here) (rule.seated s within));
      read = some_last (λ w. w.takes ≡ true) vs new refl;
    }
