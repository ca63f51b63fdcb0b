-- What a live role answers to a line.
use Rattle.std.proofs.Common.{◌≡◌, ℕ, Bool, if◌then◌else◌, List, ◌++◌, Result, Ok, Err, IfOk, OnOk, refl, sym, ap, ◌∙◌}
use Rattle.bspl_types.specs.declared.expanded.Expanded.{Expanded}
use Rattle.kept_lines.specs.Answers.{RepliesTo}
use Rattle.list_base.specs.Lines.{Line}
use Rattle.local_store.specs.State.{StoreState}
use Rattle.wire_form.specs.declared.act.Act.{Act}
use Rattle.wire_form.specs.declared.reply.Reply.{Reply}
use Rattle.wire_form.specs.declared.reply.Refusal.TheVariants.{F1, F2, F3, F4}
use Rattle.wire_form.specs.declared.reply.Reply.TheVariants.{Refused}
use Rattle.wire_form.specs.Meaning.{AsksFor, AsksInVain, AsksNothing}
use Rattle.wire_form.specs.Reply.{reply_text}
use Rattle.role_server.specs.Live.{LiveReplies, RepliesLive, live_limit}
use Rattle.role_server.specs.Replies.{HasNoRoom, IsLast, act_key, answered, done, in_vain, last, no_room, nothing}
use Rattle.role_server.specs.Served.{tells_event}
use Rattle.role_server.specs.inner.LiveActs.{AnswersLive, DoesLive}

-- what is done is answered
pub answers_done : {E : Type 0} (s : StoreState) (act : Act) (result : Result Reply E) (next : StoreState) → (¬ HasNoRoom live_limit s (act_key act)) → (¬ IsLast s act) → IfOk result (λ reply. DoesLive s act reply next) → IfOk result (λ reply. AnswersLive s act reply next)
answers_done s act (Ok reply) next room before is = record { after = is.after; answers = done room before is.done; next_is = is.next_is }
answers_done s act (Err error) next room before is = is

-- a line gets the answer to what it asks for
pub replies_answered : {E : Type 0} (s : StoreState) (line : Line) (act : Act) (result : Result Reply E) (next : StoreState) → AsksFor s.protocol s.role line act → IfOk result (λ reply. AnswersLive s act reply next) → IfOk result (λ reply. RepliesLive s line reply next)
replies_answered s line act (Ok reply) next asks is = record { after = is.after; replies = answered act asks is.answers; next_is = is.next_is }
replies_answered s line act (Err error) next asks is = is

-- a line that gets no further leaves the store
pub replies_nothing : (s : StoreState) (line : Line) → AsksNothing line → RepliesLive s line (Refused F1) s
replies_nothing s line none = record { after = s; replies = nothing none refl refl; next_is = refl }

pub replies_in_vain : (s : StoreState) (line : Line) → AsksInVain s.protocol s.role line → RepliesLive s line (Refused F2) s
replies_in_vain s line vain = record { after = s; replies = in_vain vain refl refl; next_is = refl }

-- and so does an act without room or without a stamp
pub answers_no_room : (s : StoreState) (act : Act) → HasNoRoom live_limit s (act_key act) → AnswersLive s act (Refused F3) s
answers_no_room s act none = record { after = s; answers = no_room none refl refl; next_is = refl }

pub answers_last : (s : StoreState) (act : Act) → (¬ HasNoRoom live_limit s (act_key act)) → IsLast s act → AnswersLive s act (Refused F4) s
answers_last s act room at_last = record { after = s; answers = last room at_last refl refl; next_is = refl }

-- the text of the reply is appended, and the line is kept if it made an event
pub live_told : {E : Type 0} (s next : StoreState) (line : Line) (reply : Reply) (x : Expanded) (text text_after : List ℕ) (result : Result Bool E) → RepliesLive s line reply next → x ≡ s.protocol → OnOk result (text_after ≡ text ++ reply_text x reply) → IfOk result (λ is_event. is_event ≡ tells_event reply) → IfOk result (λ is_kept. RepliesTo LiveReplies s line text text_after is_kept next)
live_told s next line reply x text text_after (Ok is_event) is same appended told = record {
  reply = reply_text s.protocol reply;
  answer = record {
    reply = reply;
    after = is.after;
    replies = is.replies;
    text_is = refl;
    kept_is = told;
    next_is = is.next_is ∙ ap (λ (b : Bool). if b then is.after else s) (sym told);
  };
  appended = appended ∙ ap (λ (y : Expanded). text ++ reply_text y reply) same;
}
live_told s next line reply x text text_after (Err error) is same appended told = tt
