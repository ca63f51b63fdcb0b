-- What the loop over the parameters keeps.
use Rattle.std.proofs.Common.{◌≡◌}
use Rattle.local_store.specs.State.{acts_of}
use Rattle.role_questions.specs.Forms.{is_adorned_in}
use Rattle.role_questions.proofs.InsLemmas.{params_of}
use Rattle.role_questions.proofs.KnownLemmas.{HasIn, ShowsThese}
use Rattle.role_questions.proofs.ListedLemmas.{listed}
use Rattle.role_questions.proofs.form_list.known_ins.Given as goal

-- the known values of those before this one that are adorned `in`, one for each in their order
abbrev pub invariant-loop-c : goal.invariant-loop-c
invariant-loop-c l = record {
  known : ShowsThese l.fn.store.protocol (acts_of l.fn.store) l.fn.key (HasIn l.carried l.c-index) l.ins;
  in_order : params_of l.ins ≡ listed is_adorned_in (λ c. c.param) l.carried l.c-index;
}
