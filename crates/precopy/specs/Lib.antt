pub mod Back
pub mod Codes
pub mod Handing
pub mod Lending
pub mod Order
pub mod Sending
