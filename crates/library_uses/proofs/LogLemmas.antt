-- Where reading or checking fails there is no refutation.
use Rattle.std.proofs.Common.{◌≡◌, ◌≢◌, ℕ, List, Result, Ok, Err, IsOkUnless, inl, inr, sym, subst, ◌∙◌}
use Rattle.clause_core.specs.declared.formula.Formula.{Formula}
use Rattle.log_checker.specs.declared.refusal.Reject.{Reject}
use Rattle.log_checker.specs.declared.refusal.Reject.TheVariants as rejects
use Rattle.refutation_log.specs.LogText.{IsTextOf}
use Rattle.refutation_log.specs.Refusal.{Answers}
use Rattle.refutation_log.specs.Resolution.{Accepts}
use Rattle.refutation_log.specs.declared.refutation.Kind.{Kind}
use Rattle.refutation_log.specs.declared.refutation.Log.{Log}
use Rattle.refutation_log.specs.declared.refusal.LogRefusal.{LogRefusal}
use Rattle.refutation_log.specs.declared.refusal.LogRefusal.TheVariants as refusals
use Rattle.library_uses.specs.Uses.{RefutesByText}

-- whatever has a text is read, memory aside
abbrev pub Reads : List ℕ → Result (Kind × Log) LogRefusal → Type 0
Reads text result = (kind : Kind) (log : Log) → IsTextOf text kind log → Answers result (Ok (kind, log))

-- what is answered is no other error
not_read : (result : Result (Kind × Log) LogRefusal) (refusal : LogRefusal) (read : Kind × Log) → Answers result (Ok read) → result ≡ Err refusal → refusal ≢ refusals.NoMemory → ⊥
not_read _ refusal read (inl same) failed known = let both = sym same ∙ failed in cc
not_read _ refusal read (inr short) failed known = let both = sym failed ∙ short in known cc

-- a text that is not read is no refutation
pub unread : (f : Formula) (text : List ℕ) (result : Result (Kind × Log) LogRefusal) (refusal : LogRefusal) → Reads text result → result ≡ Err refusal → refusal ≢ refusals.NoMemory → ¬ RefutesByText f text
unread f text result refusal reads failed known refutation =
    not_read result refusal (refutation.kind, refutation.log) (reads refutation.kind refutation.log refutation.written) failed known

-- the log that was read is the one of the text
same_log : (result : Result (Kind × Log) LogRefusal) (kind : Kind) (log : Log) (read : Kind × Log) → Answers result (Ok (kind, log)) → result ≡ Ok read → log ≡ read.1
same_log _ kind log read (inl same) done = let both = sym same ∙ done in cc
same_log _ kind log read (inr short) done = let both = sym done ∙ short in cc

-- what is accepted is no other error
not_checked : (checked : Result (Unit {0}) Reject) (reject : Reject) → IsOkUnless checked rejects.NoMemory → checked ≡ Err reject → reject ≢ rejects.NoMemory → ⊥
not_checked (Ok done) reject unless failed known = cc
not_checked (Err e) reject unless failed known = let same : reject ≡ e = cc in known (same ∙ unless)

-- a text whose log is not accepted is no refutation
pub rejected : (f : Formula) (text : List ℕ) (result : Result (Kind × Log) LogRefusal) (read : Kind × Log) (checked : Result (Unit {0}) Reject) (reject : Reject) → Reads text result → result ≡ Ok read → (Accepts f read.1 → IsOkUnless checked rejects.NoMemory) → checked ≡ Err reject → reject ≢ rejects.NoMemory → ¬ RefutesByText f text
rejected f text result read checked reject reads done accepts failed known refutation =
    let same = same_log result refutation.kind refutation.log read (reads refutation.kind refutation.log refutation.written) done in
    not_checked checked reject (accepts (subst (Accepts f) same refutation.accepted)) failed known
