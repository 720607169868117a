pub mod ByteRuns
pub mod PreparedByteRuns
pub mod BothRuns
pub mod ByteLists
pub mod KeptBytes
pub mod Words
