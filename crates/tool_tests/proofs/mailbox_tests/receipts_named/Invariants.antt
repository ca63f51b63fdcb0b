-- The call names the mailboxes.
use Rattle.tool_tests.proofs.mailbox_tests.receipts_named.Given as goal

abbrev pub ghosts-receipts_mailed : goal.ghosts-receipts_mailed
ghosts-receipts_mailed g a = record { boxes = a.post.now }
