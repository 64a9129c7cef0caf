pub mod Nodes
pub mod Faults
pub mod Heads
pub mod SourceCalls
pub mod DestinationCalls
pub mod Traces
pub mod Lines
