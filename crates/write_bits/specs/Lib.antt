-- What it is to put bits into lent octets.
pub mod Puts
