pub mod Digits
pub mod Machine
pub mod Twos
pub mod Copies
pub mod Blocks
pub mod RoundTrip
pub mod Codes
pub mod Bytes
