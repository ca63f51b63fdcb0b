-- The lines of the messages of a world.
use Rattle.std.proofs.Common.{◌≡◌, ℕ, ◌+◌, ◌<◌, ◌≤◌, List, [], ◌∷◌, ◌++◌, codes, length, map, take, get_or, refl, sym, ap, ◌∙◌, arith, zero-add}
use Rattle.std.specs.List.{concat, count_by, enumerate_from}
use Rattle.std.proofs.lemmas.List.{append_assoc, append-nil, get_or-replicate, length-replicate, length-take, map-append, take_all, take_more}
use Rattle.bspl_types.specs.declared.event.Event.{Event}
use Rattle.bspl_types.specs.declared.expanded.Expanded.{Expanded}
use Rattle.bspl_types.specs.declared.protocol.Message.{Message}
use Rattle.bspl_types.specs.Expansion.{no_message}
use Rattle.bspl_types.specs.Limits.{message_limit}
use Rattle.adapter.specs.Desk.{DeskState}
use Rattle.refutation_log.specs.LogText.{line_of}
use Rattle.run_text.specs.inner.LineFields.{spaced_fields}
use Rattle.world_run.specs.World.{HasHistories}
use Rattle.report.specs.declared.count.Count.{Count}
use Rattle.report.specs.WorldText.{message_line, message_lines, receives, sends}
use Rattle.report.specs.WorldCounts.{AreMessageCounts, count_of_message, no_count}
use Rattle.report.specs.inner.Counts.{GrowBy, acts_of_all, counted_line, counted_lines, no_counts}
use Rattle.report.proofs.LineLemmas.{line_spaced, lines_push}
use Rattle.report.proofs.RoleCounts.{run_counts}
use Rattle.report.proofs.RowLemmas.{enumerate_push}

-- five parts, one after another
five_parts : (before one two three four five : List ℕ) → ((((before ++ one) ++ two) ++ three) ++ four) ++ five ≡ before ++ (one ++ (two ++ (three ++ (four ++ (five ++ [])))))
five_parts before one two three four five = simp (append_assoc, append-nil)

-- five fields, each after a space
five_fields : (before one two three four five : List ℕ) → ((((before ++ 32 ∷ one) ++ 32 ∷ two) ++ 32 ∷ three) ++ 32 ∷ four) ++ 32 ∷ five ≡ before ++ spaced_fields (one ∷ two ∷ three ∷ four ∷ five ∷ [])
five_fields before one two three four five = five_parts before (32 ∷ one) (32 ∷ two) (32 ∷ three) (32 ∷ four) (32 ∷ five)

-- the line of a message is written field by field
pub message_written : (before name sent received : List ℕ) → ((((((before ++ codes "message") ++ 32 ∷ name) ++ 32 ∷ codes "sent") ++ 32 ∷ sent) ++ 32 ∷ codes "received") ++ 32 ∷ received) ++ 10 ∷ [] ≡ before ++ line_of (codes "message" ∷ name ∷ codes "sent" ∷ sent ∷ codes "received" ∷ received ∷ [])
message_written before name sent received =
    ap (λ (ys : List ℕ). ys ++ 10 ∷ []) (five_fields (before ++ codes "message") name (codes "sent") sent (codes "received") received)
    ∙ line_spaced before (codes "message") (name ∷ codes "sent" ∷ sent ∷ codes "received" ∷ received ∷ [])

-- the line of one message more
pub message_more : (x : Expanded) (counts : List Count) (m : ℕ) (before : List ℕ) → m < length x.messages → (before ++ counted_lines x counts m) ++ counted_line x m (count_of_message counts m) ≡ before ++ counted_lines x counts (m + 1)
message_more x counts m before within =
    let line : ℕ → List ℕ = λ k. counted_line x k (count_of_message counts k) in
    let front = enumerate_from 0 (take m x.messages) in
    let last : Message = get_or x.messages m no_message in
    let count : 0 + length (take m x.messages) ≡ m = omega (arith, length-take m x.messages, within) in
    let more : map (λ (k, _). line k) (enumerate_from 0 (take (m + 1) x.messages)) ≡ map (λ (k, _). line k) front ++ line m ∷ [] =
    ap (λ (ms : List Message). map (λ (k, _). line k) (enumerate_from 0 ms)) (take_more x.messages m no_message within)
    ∙ ap (map (λ (k, _). line k)) (enumerate_push 0 (take m x.messages) last)
    ∙ map-append (λ (k, _). line k) front ((0 + length (take m x.messages), last) ∷ [])
    ∙ ap (λ (k : ℕ). map (λ (k, _). line k) front ++ line k ∷ []) count in
    lines_push before (map (λ (k, _). line k) front) (line m) ∙ ap (λ (ls : List (List ℕ)). before ++ concat ls) (sym more)

-- lines that are the same below the end
same_lines : (f g : ℕ → List ℕ) (n : ℕ) (ms : List Message) → ((m : ℕ) → m < n + length ms → f m ≡ g m) → map (λ (m, _). f m) (enumerate_from n ms) ≡ map (λ (m, _). g m) (enumerate_from n ms)
same_lines f g n [] same = refl
same_lines f g n (_ ∷ ms) same =
    let first : f n ≡ g n = same n (omega arith) in
    let rest = same_lines f g (n + 1) ms (λ m within. same m (omega (arith, within))) in
    ap (λ (line : List ℕ). line ∷ map (λ (m, _). f m) (enumerate_from (n + 1) ms)) first
    ∙ ap (λ (ls : List (List ℕ)). g n ∷ ls) rest

-- what was counted from nothing over all desks is what the run has
pub counts_of_run : (x : Expanded) (desks : List DeskState) (run : List Event) (counts : List Count) → GrowBy (acts_of_all desks) no_counts counts → HasHistories x desks run → AreMessageCounts run counts
counts_of_run x desks run counts grown has =
    let all : length no_counts ≡ message_limit = length-replicate message_limit no_count in
    record {
      as_many = grown.as_many ∙ all;
      each = λ m inside.
          let inside_none : m < length no_counts = omega (arith, inside, all) in
          let none : count_of_message no_counts m ≡ no_count = get_or-replicate message_limit m no_count no_count inside in
          let sent : (count_of_message counts m).sent ≡ count_by (sends m) run = grown.sent m inside_none ∙ ap (λ (c : Count). c.sent + count_by (sends m) (acts_of_all desks)) none ∙ zero-add _ ∙ run_counts (sends m) x desks run has in
          let received : (count_of_message counts m).received ≡ count_by (receives m) run = grown.received m inside_none ∙ ap (λ (c : Count). c.received + count_by (receives m) (acts_of_all desks)) none ∙ zero-add _ ∙ run_counts (receives m) x desks run has in
          λ i. record { sent = sent i; received = received i };
    }

-- counts of the run give its lines
pub lines_of_run : (x : Expanded) (run : List Event) (counts : List Count) → length x.messages ≤ message_limit → AreMessageCounts run counts → counted_lines x counts (length x.messages) ≡ message_lines x run
lines_of_run x run counts few are =
    let line : ℕ → List ℕ = λ m. counted_line x m (count_of_message counts m) in
    let all = take_all (length x.messages) x.messages (omega arith) in
    let each = same_lines line (message_line x run) 0 x.messages (λ m within. ap (counted_line x m) (are.each m (omega (arith, within, few)))) in
    ap (λ (ms : List Message). concat (map (λ (m, _). line m) (enumerate_from 0 ms))) all
    ∙ ap concat each
