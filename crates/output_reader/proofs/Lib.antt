pub mod Cuts
pub mod Fields
pub mod FirstWords
pub mod Giving
pub mod HandleTexts
pub mod Lacking
mod LineExamples
pub mod LineTexts
pub mod Outputs
pub mod Quotes
