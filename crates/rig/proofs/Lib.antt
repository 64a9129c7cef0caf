pub mod ClaimLemmas
pub mod RemainingLemmas
pub mod SeatLemmas
pub mod SectionLemmas
pub mod TurnLemmas
