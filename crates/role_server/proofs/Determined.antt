-- The lines determine what is written for them.
use Rattle.std.proofs.Common.{◌≡◌, ℕ, ◌<◌, List, [], ◌∷◌, ◌++◌, length, sym, ap, subst, ◌∙◌, arith}
use Rattle.std.specs.List.{Contains}
use Rattle.std.proofs.lemmas.List.Elements.{All-nil}
use Rattle.list_base.proofs.Members.{nowhere}
use Rattle.bspl_types.specs.declared.event.Event.{Event}
use Rattle.bspl_types.specs.declared.expanded.Expanded.{Expanded}
use Rattle.bspl_types.specs.declared.value.Value.{Value}
use Rattle.bspl_types.specs.Admission.{IsAdmitted}
use Rattle.bspl_types.specs.History.{instance_of, role_of}
use Rattle.bspl_types.specs.Instance.{Fits}
use Rattle.kept_lines.specs.Answers.{AnswersLines}
use Rattle.kept_lines.specs.Replay.{LinesHaveOneOutcome}
use Rattle.list_base.specs.Lines.{Line, lines_of}
use Rattle.local_store.specs.Consistent.{IsConsistent}
use Rattle.local_store.specs.State.{StoreState}
use Rattle.stamped_history.specs.declared.entry.Entry.{Entry}
use Rattle.stamped_history.specs.Local.{IsLocal, MayFollowAs}
use Rattle.wire_form.specs.Reply.{reply_text}
use Rattle.role_server.specs.Laws.{LinesHaveOneReply, RepliesAreDetermined}
use Rattle.role_server.specs.Replies.{held_limit}
use Rattle.role_server.specs.Served.{ServesLine, first_store, tells_event}
use Rattle.role_server.proofs.OneReply.{LowerLaws, replies_once}
use Rattle.role_server.proofs.StaysConsistent.{asked_consistent, replies_consistent}

-- after lines the store is consistent again
lines_consistent : LowerLaws → (lines : List Line) (s : StoreState) (out acts : List ℕ) (now : StoreState) → IsConsistent s → AnswersLines ServesLine s lines out acts now → IsConsistent now
lines_consistent laws [] s out acts now kept answers = subst IsConsistent (sym answers.2) kept
lines_consistent laws (line ∷ lines) s out acts now kept answers =
    let first = answers.3.answer in
    lines_consistent laws lines answers.0 answers.1 answers.2 now (replies_consistent held_limit laws s line first.reply answers.0 kept first.replies) answers.4

-- so each line has one outcome then
pub serves_once : LowerLaws → LinesHaveOneReply
serves_once laws s consistent lines out acts now answers line reply other is_kept also_kept next also one two =
    let kept = lines_consistent laws lines s out acts now consistent answers in
    let same = replies_once held_limit laws now line one.reply two.reply next also kept (asked_consistent laws now line kept) one.replies two.replies in (
      one.text_is ∙ ap (reply_text now.protocol) same.0 ∙ sym two.text_is,
      one.kept_is ∙ ap tells_event same.0 ∙ sym two.kept_is,
      same.1,
    )

-- and so have all lines
pub served_once : LinesHaveOneOutcome ServesLine → LowerLaws → RepliesAreDetermined
served_once lines laws s bytes out other end also consistent one two =
    let same = lines s (lines_of bytes) out other one.0 two.0 end also (serves_once laws s consistent) one.1 two.1 in
    (same.0, same.2)

-- no entry comes before another in none
none_follows : (x : Expanded) (before after : List Entry) (e : Entry) → [] ≡ before ++ e ∷ after → MayFollowAs x before e.event e.stamp e.number
none_follows x [] after e split = absurd (cc)
none_follows x (first ∷ before) after e split = absurd (cc)

-- a history without events is local
nothing_local : (x : Expanded) (role : ℕ) → IsLocal x role []
nothing_local x role = record {
  fits = All-nil (λ (e : Event). Fits x (instance_of e));
  own = All-nil (λ (e : Event). role_of x e ≡ role);
  follows = none_follows x;
  one_value = λ key p v w one other. absurd (nowhere one.event one.among);
}

-- so the first store of a role is consistent
pub first_consistent : (x : Expanded) (role : ℕ) → IsAdmitted x → role < length x.roles → IsConsistent (first_store x role)
first_consistent x role admitted known = record {
  admitted = admitted;
  known_role = known;
  keys = record { distinct = λ i j d before within. absurd (omega (arith, within)); whole = All-nil (λ (key : List Value). length key ≡ length x.keys) };
  held = All-nil (λ (e : Entry). Contains (first_store x role).keys (instance_of e.event).key);
  local = nothing_local x role;
  few = omega arith;
}
