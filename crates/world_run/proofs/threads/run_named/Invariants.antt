-- The call names the mailboxes.
use Rattle.world_run.proofs.threads.run_named.Given as goal

abbrev pub ghosts-run_mailed : goal.ghosts-run_mailed
ghosts-run_mailed g a = record { boxes = a.post.now }
