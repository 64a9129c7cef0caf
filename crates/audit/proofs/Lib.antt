pub mod Certificates
pub mod TraceEvents
pub mod Verdicts
