pub mod Library
pub mod Told
pub mod Files
pub mod Lacking
pub mod Parts
