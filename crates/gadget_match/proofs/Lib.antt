pub mod BuildLemmas
pub mod DoubleLemmas
pub mod CopyLemmas
pub mod DoubleBack
pub mod CopyBack
pub mod CountLemmas
