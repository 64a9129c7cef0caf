pub mod Certificates
pub mod Severities
pub mod TraceEvents
pub mod Verdicts
