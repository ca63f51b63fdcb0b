-- Words of lines and lines of texts; numbers and names as words; the legend; the text as it is
-- read; how variables are numbered; and the same of a question's formula.
pub mod Words
pub mod Numbers
pub mod Names
pub mod LegendWords
pub mod Reading
pub mod Numbering
pub mod Written
pub mod AskedLemmas
pub mod SameLemmas
