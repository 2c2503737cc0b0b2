pub mod JsonReads
pub mod Answers
pub mod ItemCategories
pub mod Printed
