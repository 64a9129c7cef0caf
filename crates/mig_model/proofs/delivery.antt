-- What is in flight, what the other node takes of it, and what an unbroken link leaves.
pub mod WirePromises
pub mod FlightPromises
pub mod Taken
pub mod FramesTaken
pub mod FrameFaults
pub mod EndRefused
pub mod PushOrder
pub mod Unbroken
