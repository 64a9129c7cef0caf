pub mod Arrivals
pub mod Asking
pub mod Codes
pub mod Kept
pub mod Memory
pub mod Order
pub mod Requests
pub mod Taking
