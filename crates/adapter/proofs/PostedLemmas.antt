-- What a history posts, and what an envelope of it says.
use Rattle.std.proofs.Common.{◌≡◌, ◌≢◌, ℕ, zero, suc, ◌+◌, ◌<◌, true, false, List, [], ◌∷◌, ◌++◌, length, Some, slice_get, sym, ◌∙◌, ap, arith, ⊎_elim}
use Rattle.std.specs.List.{AllPairs}
use Rattle.std.proofs.lemmas.Bool.{cases_Bool, cond-true, cond-false}
use Rattle.std.proofs.lemmas.Grind.{flat_map-append}
use Rattle.std.proofs.lemmas.List.{append-nil}
use Rattle.std.proofs.lemmas.Option.{get_or_from_slice_get, none-some, same_Some, slice_get_within}
use Rattle.bspl_types.specs.declared.envelope.Envelope.{Envelope}
use Rattle.bspl_types.specs.declared.event.Event.TheVariants.{Emit, Receive}
use Rattle.bspl_types.specs.declared.event.Instance.{Instance}
use Rattle.bspl_types.specs.declared.value.Value.{Value}
use Rattle.bspl_types.specs.Expansion.{message_of}
use Rattle.bspl_types.specs.Value.{equal_values, EqualValuesAreOne}
use Rattle.stamped_history.specs.declared.entry.Entry.{Entry}
use Rattle.agent_scripts.specs.Job.{Job}
use Rattle.reorder_net.specs.Losses.{copies_of, is_lost}
use Rattle.reorder_net.specs.Mail.{IsPosted}
use Rattle.adapter.specs.Kept.{IsFor}
use Rattle.adapter.specs.Posted.{arriving, envelope_of, key_number, posted_by, posted_by_event}

-- one entry more posts what its event posts
pub posted_more : (job : Job) (role q : ℕ) (entries : List Entry) (e : Entry) → posted_by job role q (entries ++ e ∷ []) ≡ posted_by job role q entries ++ posted_by_event job role q e.event e.stamp e.number
posted_more job role q entries e =
    flat_map-append (λ (x : Entry). posted_by_event job role q x.event x.stamp x.number) entries (e ∷ [])
    ∙ ap (λ l. posted_by job role q entries ++ l) (append-nil (posted_by_event job role q e.event e.stamp e.number))

-- a receipt posts nothing
pub posted_receipt : (job : Job) (role q : ℕ) (entries : List Entry) (i : Instance) (stamp number : ℕ) → posted_by job role q (entries ++ record { event = Receive i; stamp = stamp; number = number } ∷ []) ≡ posted_by job role q entries
posted_receipt job role q entries i stamp number =
    posted_more job role q entries (record { event = Receive i; stamp = stamp; number = number }) ∙ append-nil (posted_by job role q entries)

-- a key's number is one more than its index, if no key stands twice
pub number_is : EqualValuesAreOne → (keys : List (List Value)) (index : ℕ) (key : List Value) → AllPairs ◌≢◌ keys → slice_get keys index ≡ Some key → key_number keys key ≡ index + 1
number_is equal [] index key distinct at = absurd (none-some key at)
number_is equal (k ∷ keys) zero key distinct at = cond-true (equal_values k key) 1 (key_number keys key + 1) ((equal k key).1 (same_Some k key at))
number_is equal (k ∷ keys) (suc index) key distinct at =
    let within : index < length keys = slice_get_within keys index key at in
    let differs : k ≢ key = λ same. distinct 0 (suc index) key (omega arith) (omega (arith, within)) (same ∙ sym (get_or_from_slice_get keys index key key at)) in
    let none : equal_values k key ≡ false = ⊎_elim (λ is. absurd (differs ((equal k key).0 is))) (λ not'. not') (cases_Bool (equal_values k key)) in
    let rest = number_is equal keys index key (λ i j d less inside. distinct (suc i) (suc j) d (omega (arith, less)) (omega (arith, inside))) at in
    cond-false (equal_values k key) 1 (key_number keys key + 1) none ∙ omega (arith, rest)

-- an emission posts its envelope, if that arrives
pub posted_emission : (job : Job) (role q n : ℕ) (e : Envelope) → e.from ≡ role → e.to ≡ (message_of job.protocol e.message.instance.message).receiver → e.copies ≡ copies_of job.plan e.message.instance.message n → key_number job.script.keys e.message.instance.key ≡ n
    → posted_by_event job role q (Emit e.message.instance) e.message.stamp e.message.number ≡ arriving q e
posted_emission job role q n e from to copies number =
    let same : envelope_of job role n e.message ≡ e = λ i. record { to = sym to i; from = sym from i; message = e.message; copies = sym copies i } in
    ap (λ k. arriving q (envelope_of job role k e.message)) number ∙ ap (arriving q) same

-- a message with copies is not lost
not_lost : (job : Job) (m n copies : ℕ) → 0 < copies → copies ≡ copies_of job.plan m n → is_lost job.plan m n ≡ false
not_lost job m n copies some is = ⊎_elim
    (λ (lost : is_lost job.plan m n ≡ true). let zero : copies_of job.plan m n ≡ 0 = cond-true (is_lost job.plan m n) 0 (1 + job.plan.repeat) lost in absurd (omega (arith, some, is, zero)))
    (λ (kept : is_lost job.plan m n ≡ false). kept)
    (cases_Bool (is_lost job.plan m n))

-- what was posted to a role is for the role
pub is_for : (job : Job) (sender role : ℕ) (e : Envelope) → IsPosted job sender role e → IsFor job role e
is_for job sender role e posted = record {
  fits = posted.fits;
  to_role = posted.to_is;
  own = posted.sent_to;
  workload = posted.workload;
  arrives = λ n number. not_lost job e.message.instance.message n e.copies posted.some (posted.copies n (record { some = number.some; at = number.at }));
  some = posted.some;
}
