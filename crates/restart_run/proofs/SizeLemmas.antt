-- How many messages a role has, and how large its disk is.
use Rattle.std.proofs.Common.{◌≡◌, ℕ, suc, ◌+◌, ◌*◌, ◌≤◌, Bool, true, false, cond, List, [], ◌∷◌, length, refl, ap, ◌∙◌, arith}
use Rattle.std.specs.Prelude.{◌==◌, ◌||◌}
use Rattle.std.specs.List.{enumerate_from, filter}
use Rattle.std.proofs.lemmas.Bool.{cond_both}
use Rattle.std.proofs.lemmas.List.{length-map}
use Rattle.std.proofs.lemmas.Nat.{mul-le}
use Rattle.bspl_types.specs.declared.expanded.Expanded.{Expanded}
use Rattle.bspl_types.specs.declared.protocol.Message.{Message}
use Rattle.adapter.specs.Pending.{messages_of}

-- a filtered list is not longer
filter_short : {X : Type 0} (test : X → Bool) (xs : List X) → length (filter test xs) ≤ length xs
filter_short test [] = omega arith
filter_short test (x ∷ xs) = cond_both (test x) (x ∷ filter test xs) (filter test xs) (λ ys. length ys ≤ suc (length xs))
    (λ yes. omega (arith, filter_short test xs)) (λ no. omega (arith, filter_short test xs))

-- as many numbers as messages pass
numbered_pass : (test : Message → Bool) (k : ℕ) (messages : List Message) → length (filter (λ (q : ℕ × Message). test q.1) (enumerate_from k messages)) ≡ length (filter test messages)
numbered_pass test k [] = refl
numbered_pass test k (m ∷ messages) = (elim (test m) as (λ b. length (cond b ((k, m) ∷ filter (λ (q : ℕ × Message). test q.1) (enumerate_from (k + 1) messages)) (filter (λ (q : ℕ × Message). test q.1) (enumerate_from (k + 1) messages))) ≡ length (cond b (m ∷ filter test messages) (filter test messages))) [
  | true ↦ ap suc (numbered_pass test (k + 1) messages)
  | false ↦ numbered_pass test (k + 1) messages
])

-- the numbers of a role's messages are as many as these messages
pub messages_count : (x : Expanded) (role : ℕ) → length (messages_of x role) ≡ length (filter (λ (m : Message). m.sender == role || m.receiver == role) x.messages)
messages_count x role =
    length-map (filter (λ (q : ℕ × Message). q.1.sender == role || q.1.receiver == role) (enumerate_from 0 x.messages)) (λ (q : ℕ × Message). q.0)
    ∙ numbered_pass (λ m. m.sender == role || m.receiver == role) 0 x.messages

-- and few
pub messages_few : (x : Expanded) (role : ℕ) → length (filter (λ (m : Message). m.sender == role || m.receiver == role) x.messages) ≤ 64
messages_few x role = omega (arith, filter_short (λ m. m.sender == role || m.receiver == role) x.messages, x.shape.counts.few_messages)

-- so a disk for them is small
pub product_small : (keys messages : ℕ) → keys ≤ 10000 → messages ≤ 64 → keys * messages ≤ 640000
product_small keys messages few_keys few_messages = mul-le keys messages 10000 64 few_keys few_messages
