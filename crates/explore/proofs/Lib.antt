pub mod Comments
pub mod Going
