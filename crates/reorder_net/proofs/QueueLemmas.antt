-- A put and a take keep the rule of a mailbox, and what the rule tells.
use Rattle.std.proofs.Common.{◌≡◌, ◌≢◌, ℕ, zero, suc, ◌+◌, ◌<◌, true, List, [], ◌∷◌, ◌++◌, length, set, get_or, Some, slice_get, refl, sym, ap, ◌∙◌, subst, inl, inr, arith, length-append, length-set, append_assoc, All, Contains}
use Rattle.std.proofs.lemmas.Bool.{cases_eq}
use Rattle.std.proofs.lemmas.Option.{slice_get-get_or}
use Rattle.std.proofs.lemmas.List.Elements.{All-weaker, All-push, All-contains, Contains-append_left, Contains-push}
use Rattle.std.proofs.Math.Nat.{zero-add, add-zero}
use Rattle.std.proofs.Math.ListN.{get_or-append}
use Rattle.crossbeam_queue.specs.Fifo.{Pushes, Pops, Learns}
use Rattle.bspl_types.specs.declared.envelope.Envelope.{Envelope}
use Rattle.agent_scripts.specs.Job.{Job}
use Rattle.reorder_net.specs.declared.hold.Hold.{Hold}
use Rattle.reorder_net.specs.Hold.{sender, taking}
use Rattle.reorder_net.specs.Mail.{FitsPass, HasPuts, IsMail, IsPosted, IsPut, MailLists}
use Rattle.reorder_net.specs.inner.Moves.{HasPut, HasTaken, IsGathered, IsToldTo}
use Rattle.reorder_net.proofs.ItemLemmas.{set_cases, set_else, set_here, view_at}
use Rattle.reorder_net.proofs.ViewLemmas.{each_set, not_taking, some_still}

-- an item between two lists is one of theirs
middle : (xs : List Envelope) (x : Envelope) (ys : List Envelope) → Contains (xs ++ x ∷ ys) x
middle xs x ys = subst (λ l. Contains l x) (append_assoc xs (x ∷ []) ys) (Contains-append_left (xs ++ x ∷ []) ys x (Contains-push xs x))

-- what stands in its sender's list was posted by it
put_is_posted : (job : Job) (items : List Envelope) (views : List Hold) (rule : IsMail job items views) (e : Envelope) → IsPut rule.lists.puts e → IsPosted job e.from rule.lists.home e
put_is_posted job items views rule e put = All-contains (IsPosted job e.from rule.lists.home) put.list e (rule.posted e.from put.list put.at) put.among

-- the pass that takes has one envelope more, and no other pass has what was taken
taker_fits : (lists : MailLists) (pass : ℕ) (v : Hold) (x : Envelope) → v.takes ≡ true → FitsPass lists pass v → FitsPass (record lists { taken = lists.taken ++ x ∷ [] }) pass (taking v x)
taker_fits lists pass v x may mine = record {
  at_home = mine.at_home;
  has_puts = mine.has_puts;
  has_taken = λ takes. let taken = mine.has_taken may in (taken.0, ap (λ l. l ++ x ∷ []) taken.1);
}

others_take_not : (lists : MailLists) (taken : List Envelope) (pass j : ℕ) (u : Hold) → lists.reader ≡ pass → j ≢ pass → FitsPass lists j u → FitsPass (record lists { taken = taken }) j u
others_take_not lists taken pass j u reader apart f = record { at_home = f.at_home; has_puts = f.has_puts; has_taken = λ takes. absurd (apart (sym (f.has_taken takes).0 ∙ reader)) }

-- the role takes from the front
pub pops : (job : Job) (pass : ℕ) (v : Hold) → v.takes ≡ true → Pops (IsMail job) pass v (HasTaken job v)
pops job pass v may x items views rule found =
    let at = view_at views pass v found in
    let mine = rule.passes pass v at in
    let w = taking v x in
    let lists = record rule.lists { taken = rule.lists.taken ++ x ∷ [] } in
    let put : IsPut rule.lists.puts x = All-contains (IsPut rule.lists.puts) (rule.lists.taken ++ x ∷ items) x rule.explained (middle rule.lists.taken x items) in (
      w,
      record {
        lists = lists;
        count = rule.count;
        posted = rule.posted;
        explained = subst (All (IsPut rule.lists.puts)) (sym (append_assoc rule.lists.taken (x ∷ []) items)) rule.explained;
        passes = each_set (FitsPass lists) views pass w (taker_fits rule.lists pass v x may mine)
            (λ j u apart there. others_take_not rule.lists lists.taken pass j u (mine.has_taken may).0 apart (rule.passes j u there));
        seated = λ s within. some_still (HasPuts s) views (lists.seat s) pass v w at (λ has. has) (rule.seated s within);
        read = some_still (λ u. u.takes ≡ true) views lists.reader pass v w at (λ takes. takes) rule.read;
      },
      (refl, subst (λ k. IsPosted job x.from k x) (sym (mine.at_home (inr may))) (put_is_posted job (x ∷ items) views rule x put)),
    )

-- a longer list of one sender still has all that was put
still_put : (puts : List (List Envelope)) (s : ℕ) (l : List Envelope) (e x : Envelope) → slice_get puts s ≡ Some l → IsPut puts x → IsPut (set puts s (l ++ e ∷ [])) x
still_put puts s l e x at put = elim (cases_eq x.from s) [
  | inl same ↦
      let one : l ≡ put.list = cc (at, put.at, same) in
      record {
        list = l ++ e ∷ [];
        at = subst (λ k. slice_get (set puts s (l ++ e ∷ [])) k ≡ Some (l ++ e ∷ [])) (sym same) (set_here puts s (l ++ e ∷ []) l at);
        among = Contains-append_left l (e ∷ []) x (subst (λ k. Contains k x) (sym one) put.among);
      }
  | inr apart ↦ record { list = put.list; at = set_else puts s x.from (l ++ e ∷ []) apart ∙ put.at; among = put.among }
]

-- and has the envelope that is put
now_put : (puts : List (List Envelope)) (s : ℕ) (l : List Envelope) (e : Envelope) → slice_get puts s ≡ Some l → e.from ≡ s → IsPut (set puts s (l ++ e ∷ [])) e
now_put puts s l e at own = record {
  list = l ++ e ∷ [];
  at = subst (λ k. slice_get (set puts s (l ++ e ∷ [])) k ≡ Some (l ++ e ∷ [])) (sym own) (set_here puts s (l ++ e ∷ []) l at);
  among = Contains-push l e;
}

-- all lists have what may be posted, once an envelope that may be is put
all_posted : (job : Job) (home : ℕ) (puts : List (List Envelope)) (s : ℕ) (l : List Envelope) (e : Envelope) → slice_get puts s ≡ Some l → IsPosted job s home e → ((t : ℕ) (m : List Envelope) → slice_get puts t ≡ Some m → All (IsPosted job t home) m)
    → (t : ℕ) (m : List Envelope) → slice_get (set puts s (l ++ e ∷ [])) t ≡ Some m → All (IsPosted job t home) m
all_posted job home puts s l e at is all t m found = elim (set_cases puts s t (l ++ e ∷ []) m found) [
  | inl (same, longer) ↦ subst (λ (y : ℕ × List Envelope). All (IsPosted job y.0 home) y.1) (λ i. (sym same i, longer i)) (All-push (IsPosted job s home) l e (all s l at) is)
  | inr (apart, there) ↦ all t m there
]

-- where a sender's pass has its list
sender_has : (lists : MailLists) (pass home s : ℕ) (l : List Envelope) → FitsPass lists pass (sender home s l) → (lists.seat s ≡ pass) × (slice_get lists.puts s ≡ Some l)
sender_has lists pass home s l mine = subst (λ k. (lists.seat k ≡ pass) × (slice_get lists.puts k ≡ Some l)) (add-zero s) (mine.has_puts 0 l refl)

-- the sender's pass has the longer list, and no other pass has that sender's
sender_fits : (lists : MailLists) (pass home s : ℕ) (l longer : List Envelope) → FitsPass lists pass (sender home s l) → FitsPass (record lists { puts = set lists.puts s longer }) pass (sender home s longer)
sender_fits lists pass home s l longer mine = record {
  at_home = λ _. mine.at_home (inl (omega arith));
  has_puts = own;
  has_taken = λ takes. absurd (not_taking takes);
}
  where
    own : (i : ℕ) (m : List Envelope) → slice_get (longer ∷ []) i ≡ Some m → (lists.seat (s + i) ≡ pass) × (slice_get (set lists.puts s longer) (s + i) ≡ Some m)
    own zero m found = let has = sender_has lists pass home s l mine in rw (add-zero s) (has.0, set_here lists.puts s longer l has.1 ∙ found)
    own (suc i) m found = absurd (cc found)

others_put_not : (lists : MailLists) (pass j s : ℕ) (u : Hold) (longer : List Envelope) → lists.seat s ≡ pass → j ≢ pass → FitsPass lists j u → FitsPass (record lists { puts = set lists.puts s longer }) j u
others_put_not lists pass j s u longer seat apart f = record {
  at_home = f.at_home;
  has_puts = λ i m at. let has = f.has_puts i m at in (has.0, set_else lists.puts s (u.low + i) longer (λ same. apart (sym has.0 ∙ ap lists.seat same ∙ seat)) ∙ has.1);
  has_taken = f.has_taken;
}

-- a sender puts at the back
pub pushes : (job : Job) (n pass home s : ℕ) (l : List Envelope) (e : Envelope) → IsPosted job s home e → Pushes (IsMail job) n pass (sender home s l) e (HasPut (sender home s l) e)
pushes job n pass home s l e is items views room rule found =
    let longer = l ++ e ∷ [] in
    let v = sender home s l in
    let w = sender home s longer in
    let at = view_at views pass v found in
    let mine = rule.passes pass v at in
    let has = sender_has rule.lists pass home s l mine in
    let lists = record rule.lists { puts = set rule.lists.puts s longer } in
    let posted : IsPosted job s rule.lists.home e = subst (λ k. IsPosted job s k e) (mine.at_home (inl (omega arith))) is in
    let still : All (IsPut lists.puts) (rule.lists.taken ++ items) = All-weaker (IsPut rule.lists.puts) (IsPut lists.puts) (λ x put. still_put rule.lists.puts s l e x has.1 put) (rule.lists.taken ++ items) rule.explained in (
      w,
      record {
        lists = lists;
        count = length-set rule.lists.puts s longer ∙ rule.count;
        posted = all_posted job rule.lists.home rule.lists.puts s l e has.1 posted rule.posted;
        explained = subst (All (IsPut lists.puts)) (append_assoc rule.lists.taken items (e ∷ [])) (All-push (IsPut lists.puts) (rule.lists.taken ++ items) e still (now_put rule.lists.puts s l e has.1 is.from_is));
        passes = each_set (FitsPass lists) views pass w (sender_fits rule.lists pass home s l longer mine) (λ j u apart there. others_put_not rule.lists pass j s u longer has.0 apart (rule.passes j u there));
        seated = λ t within. some_still (HasPuts t) views (lists.seat t) pass v w at (λ here. here) (rule.seated t within);
        read = some_still (λ u. u.takes ≡ true) views lists.reader pass v w at (λ takes. absurd (not_taking takes)) rule.read;
      },
      refl,
    )

-- a list of a gathered pass is the mailbox's of that sender
gathered_list : (lists : MailLists) (pass : ℕ) (v : Hold) (s : ℕ) (l : List Envelope) → IsGathered v → FitsPass lists pass v → slice_get v.puts s ≡ Some l → slice_get lists.puts s ≡ Some l
gathered_list lists pass v s l gathered mine at = subst (λ k. slice_get lists.puts k ≡ Some l) (rw gathered.low (zero-add s)) (mine.has_puts s l at).1

-- what stands in its sender's list stands there in a gathered pass
gathered_put : (lists : MailLists) (pass : ℕ) (v : Hold) (e : Envelope) → IsGathered v → FitsPass lists pass v → IsPut lists.puts e → e.from < length v.puts → IsPut v.puts e
gathered_put lists pass v e gathered mine put within =
    let own = slice_get-get_or v.puts e.from [] within in
    let same : get_or v.puts e.from [] ≡ put.list = cc (gathered_list lists pass v e.from (get_or v.puts e.from []) gathered mine own, put.at) in
    record { list = put.list; at = own ∙ ap Some same; among = put.among }

-- what the rule tells a pass with the lists of the first senders and with what was taken
pub tells : (job : Job) (pass : ℕ) (v : Hold) → IsGathered v → Learns (IsMail job) pass v (λ items. IsToldTo job v)
tells job pass v gathered items views rule found =
    let mine = rule.passes pass v (view_at views pass v found) in
    let puts = rule.lists.puts in
    let taken = rule.lists.taken in
    let before : All (IsPut puts) taken = λ k d within. subst (IsPut puts) (get_or-append taken items d k within) (rule.explained k d (omega (arith, length-append taken items, within))) in
    let Posted : Envelope → Type 0 = λ e. IsPosted job e.from v.home e in
    let Explained : Envelope → Type 0 = λ e. e.from < length v.puts → IsPut v.puts e in
    let posted : (e : Envelope) → IsPut puts e → Posted e = λ e put. subst (λ k. IsPosted job e.from k e) (sym (mine.at_home (inr gathered.takes))) (put_is_posted job items views rule e put) in
    let own : v.taken ≡ taken = (mine.has_taken gathered.takes).1 in
    record {
      posted = subst (All Posted) (sym own) (All-weaker (IsPut puts) Posted posted taken before);
      explained = subst (All Explained) (sym own) (All-weaker (IsPut puts) Explained (λ e put within. gathered_put rule.lists pass v e gathered mine put within) taken before);
    }

-- the same at a pop of what is at the front
pub tells_at_pop : (job : Job) (pass : ℕ) (v : Hold) → IsGathered v → Pops (IsMail job) pass v (λ x w. IsToldTo job v)
tells_at_pop job pass v gathered x items views rule at =
    let popped = pops job pass v gathered.takes x items views rule at in
    (popped.0, popped.1, tells job pass v gathered (x ∷ items) views rule at)
