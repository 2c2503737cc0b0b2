pub mod Words
pub mod Answer
pub mod Status
pub mod Run
pub mod Request
pub mod Made
pub mod StatusCode
pub mod Limits
