-- Lemmas on desks and states.
mod EventLemmas
mod ExplainedLemmas
mod FewLemmas
mod InboxLemmas
mod IntakeLemmas
mod MailedLemmas
mod NextLemmas
mod OrderLemmas
mod PendingLemmas
mod PlanLemmas
mod PostedLemmas
mod StateLemmas
mod StepLemmas
mod TakingLemmas
mod ValueLemmas
mod WorkerLemmas
