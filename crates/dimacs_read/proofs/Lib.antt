pub mod FieldsLemmas
pub mod ValueLemmas
pub mod StepLemmas
pub mod EndLemmas
pub mod ReadingLemmas
pub mod ReadyLemmas
pub mod PlainLemmas
pub mod ReadSteps
