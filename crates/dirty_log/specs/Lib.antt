pub mod Codes
pub mod Spaces
pub mod Rounds
pub mod Sending
pub mod Lending
pub mod Answers
pub mod Laws
