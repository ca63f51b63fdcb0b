-- A line spells one event: a word, and an instance.
use Rattle.std.proofs.Common.{◌≡◌, ◌≢◌, ℕ, List, ◌∷◌, ◌≤◌, drop, Option, Some, None, codes, refl, sym, ap, ◌∙◌, inr, arith}
use Rattle.std.proofs.lemmas.List.Elements.{All-from_recursion}
use Rattle.bspl_types.specs.declared.event.Event.{Event}
use Rattle.bspl_types.specs.declared.event.Event.TheVariants.{Emit, Receive}
use Rattle.bspl_types.specs.declared.expanded.Expanded.{Expanded}
use Rattle.bspl_types.specs.Admission.{IsAdmitted}
use Rattle.bspl_types.specs.History.{instance_of}
use Rattle.bspl_types.specs.ValueSpelling.{ValuesAreSpelledOnce}
use Rattle.run_text.specs.RunText.{IsFitting, act_word}
use Rattle.run_text.specs.inner.LineFields.{event_body, instance_body, tail_of}
use Rattle.run_text.proofs.BreakLemmas.{lacks_both, lacks_more}
use Rattle.run_text.proofs.FieldLemmas.{IsSplit}
use Rattle.list_base.proofs.Separators.{Lacks}
use Rattle.run_text.proofs.Separators.{same_field, tail_is}
use Rattle.run_text.proofs.InstanceLemmas.{body_lacks, same_instance}

-- the word of an event has neither a space nor an LF
word_lacks : (b : ℕ) (event : Event) → b ≤ 32 → Lacks b (act_word event)
word_lacks b (Emit i) low = All-from_recursion (λ byte. byte ≢ b) (codes "send") ((λ e. omega arith), ((λ e. omega arith), ((λ e. omega arith), ((λ e. omega arith), tt))))
word_lacks b (Receive i) low = All-from_recursion (λ byte. byte ≢ b) (codes "receive") ((λ e. omega arith), ((λ e. omega arith), ((λ e. omega arith), ((λ e. omega arith), ((λ e. omega arith), ((λ e. omega arith), ((λ e. omega arith), tt)))))))

-- the word and the instance of a line that is the body of an event
word_then_body : (x : Expanded) (event : Event) (line word : List ℕ) (rest : Option (List ℕ)) → IsSplit line word rest → line ≡ event_body x event → (word ≡ act_word event) × (tail_of rest ≡ 32 ∷ instance_body x (instance_of event))
word_then_body x event line word rest split is =
    same_field word (act_word event) (tail_of rest) (32 ∷ instance_body x (instance_of event)) split.first
    (word_lacks 32 event (omega arith)) (tail_is rest) (inr (instance_body x (instance_of event), refl)) (sym split.whole ∙ is)

-- a line of one word is the body of no event
pub no_instance : (x : Expanded) (line word : List ℕ) → IsSplit line word None → (event : Event) → line ≢ event_body x event
no_instance x line word split event is = let empty = (word_then_body x event line word None split is).1 in cc

-- the body of an event has no LF
pub event_lacks : (x : Expanded) (event : Event) → IsFitting x (instance_of event) → Lacks 10 (event_body x event)
event_lacks x event fitting =
    lacks_both 10 (act_word event) (32 ∷ instance_body x (instance_of event)) (word_lacks 10 event (omega arith))
    (lacks_more 10 32 (instance_body x (instance_of event)) (λ e. absurd (omega (arith, e))) (body_lacks x (instance_of event) fitting))

-- two events of one word and one instance are one
same_act : (event other : Event) → act_word event ≡ act_word other → instance_of event ≡ instance_of other → event ≡ other
same_act (Emit i) (Emit j) words instances = ap Emit instances
same_act (Emit i) (Receive j) words instances = absurd (cc)
same_act (Receive i) (Emit j) words instances = absurd (cc)
same_act (Receive i) (Receive j) words instances = ap Receive instances

-- two events of one body are one
pub same_event : (x : Expanded) (event other : Event) → ValuesAreSpelledOnce → IsAdmitted x → IsFitting x (instance_of event) → IsFitting x (instance_of other) → event_body x event ≡ event_body x other → event ≡ other
same_event x event other once admitted fitting also same =
    let split : IsSplit (event_body x event) (act_word event) (Some (instance_body x (instance_of event))) = record { whole = refl; first = word_lacks 32 event (omega arith) } in
    let parts = word_then_body x other (event_body x event) (act_word event) (Some (instance_body x (instance_of event))) split same in
    let bodies : instance_body x (instance_of event) ≡ instance_body x (instance_of other) = ap (drop 1) parts.1 in
    same_act event other parts.0 (same_instance x (instance_of event) (instance_of other) once admitted fitting also bodies)

-- the body of no event is `end`
pub body_no_end : (x : Expanded) (event : Event) → event_body x event ≢ codes "end"
body_no_end x event is =
    let split : IsSplit (codes "end") (codes "end") None = record { whole = refl; first = All-from_recursion (λ byte. byte ≢ 32) (codes "end") ((λ e. omega arith), ((λ e. omega arith), ((λ e. omega arith), tt))) } in
    no_instance x (codes "end") (codes "end") split event (sym is)
