-- The call names the job.
use Rattle.tool_tests.proofs.mailbox_tests.second_receipts.Given as goal

abbrev pub ghosts-receipts_named : goal.ghosts-receipts_named
ghosts-receipts_named g a = record { job = a.job.now }
