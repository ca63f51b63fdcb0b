-- How far a role came with a stream.
use Rattle.std.proofs.Common.{◌≡◌, ℕ, Bool, List, [], ◌++◌, Option, Result, Ok, Err, IfOk, refl, sym, ap, subst, ◌∙◌, arith, inl}
use Rattle.std.proofs.KnownBytes.{Appends-nil, Consumes-nil}
use Rattle.std.specs.Prelude.{IfErr, OnOk}
use Rattle.std.specs.Result.{IsErrAnd}
use Rattle.bspl_io.specs.Traffic.{Traffic}
use Rattle.bspl_types.specs.declared.expanded.Expanded.{Expanded}
use Rattle.kept_lines.specs.Answers.{RepliesTo}
use Rattle.list_base.specs.Lines.{Line}
use Rattle.local_store.specs.State.{StoreState}
use Rattle.wire_form.specs.declared.reply.Reply.{Reply}
use Rattle.wire_form.specs.Reply.{reply_text}
use Rattle.role_server.specs.declared.refusal.ServeRefusal.{ServeRefusal}
use Rattle.role_server.specs.declared.refusal.ServeRefusal.TheVariants.{NoMemory}
use Rattle.role_server.specs.Replies.{KeepsRole, Replies, held_limit}
use Rattle.role_server.specs.Served.{ServesLine, tells_event}
use Rattle.role_server.specs.Stream.{Stops}

-- nothing was served
pub nothing_served : (s : StoreState) (r c : Option (List ℕ)) → Stops s [] (record { remaining = r; remaining_after = r; contents = c; contents_after = c }) NoMemory
nothing_served s r c = record {
  flowed = record {
    bytes = [];
    taken = Consumes-nil r;
    lines = [];
    out = [];
    acts = [];
    now = s;
    answered = (refl, refl, refl);
    acts_kept = tt;
  };
  short = omega arith;
  first = inl ([], λ more. refl);
  written = (0, Appends-nil c);
}

-- the refusal is this one
pub stops_for : {X : Type 0} (s : StoreState) (t : Traffic) (ended : ServeRefusal) (result : Result X ServeRefusal) → IsErrAnd result (λ refusal. refusal ≡ ended) → Stops s [] t ended → IfErr result (Stops s [] t)
stops_for s t ended (Ok x) is stops = tt
stops_for s t ended (Err refusal) is stops = subst (Stops s [] t) (sym is) stops

-- a line gets the text of its reply
pub replies_to : {E : Type 0} (s next : StoreState) (line : Line) (reply : Reply) (before after : List ℕ) (result : Result Bool E) → Replies held_limit s line reply next → KeepsRole s next → OnOk result (after ≡ before ++ reply_text next.protocol reply) → IfOk result (λ is_event. is_event ≡ tells_event reply) → IfOk result (λ is_kept. RepliesTo ServesLine s line before after is_kept next)
replies_to s next line reply before after (Ok is_event) replies role text event = record {
  reply = reply_text s.protocol reply;
  answer = record { reply = reply; replies = replies; text_is = refl; kept_is = event };
  appended = text ∙ ap (λ (x : Expanded). before ++ reply_text x reply) role.protocol;
}
replies_to s next line reply before after (Err error) replies role text event = tt
