-- The first line of a text on a question, up to the question.
use Rattle.std.specs.Prelude.{ℕ, List, ◌++◌, codes}
use Rattle.refutation_log.specs.declared.refutation.Version.{Version}
use Rattle.refutation_log.specs.LogText.{version_name}

-- what comes before the question
abbrev pub title_front : Version → List ℕ
title_front version = codes "log " ++ version_name version ++ codes " ask "
