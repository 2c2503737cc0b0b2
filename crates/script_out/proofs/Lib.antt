mod ReplyExamples
mod RefusalExamples
pub mod PlainTexts
pub mod NumberTexts
pub mod TextBlocks
pub mod ReplyParts
