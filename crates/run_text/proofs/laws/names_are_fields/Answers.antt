-- The law, from its lemma for each of the two bytes.
use Rattle.run_text.proofs.BreakLemmas.{lf_breaks, name_lacks, space_breaks}
use Rattle.run_text.proofs.laws.names_are_fields.Goals as goal

pub returns : goal.returns
returns c = λ name named. record { no_space = name_lacks 32 space_breaks name named; no_end = name_lacks 10 lf_breaks name named }
