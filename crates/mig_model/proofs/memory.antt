-- Lemmas of one host: numbers, the memory, the commands and the calls on its userfault object.
pub mod Facts
pub mod NumberLemmas
pub mod HostLemmas
pub mod CommandLemmas
pub mod SpaceLemmas
pub mod IoctlLemmas
pub mod FlatLimits
pub mod MappingLemmas
pub mod PageCalls
pub mod PageLists
pub mod Registering
pub mod HandlerCalls
pub mod EntryLemmas
pub mod ReplyOfLemmas
