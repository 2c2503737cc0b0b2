mod Examples
pub mod FormatLemmas
pub mod LineLaws
pub mod ReadingLaws
pub mod RoundingLaw
