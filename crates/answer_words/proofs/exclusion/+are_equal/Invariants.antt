-- How deep the recursion is.
use Rattle.answer_words.proofs.exclusion.+are_equal.Given as goal

-- as many fields as are compared
abbrev pub decreases-are_equal : goal.decreases-are_equal
decreases-are_equal l = l.count
