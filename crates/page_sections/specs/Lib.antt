-- What a page says of dead messages, of a run and of a world that are given, of the verdicts, and
-- of the rules; then the whole page, and the laws.
pub mod Fates
pub mod RunVerdict
pub mod RunWords
pub mod RunSection
pub mod WorldSection
pub mod VerdictSections
pub mod RulesSection
pub mod Page
pub mod Laws
pub mod inner
