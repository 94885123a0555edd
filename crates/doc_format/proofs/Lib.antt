pub mod Ascents
mod Spelled
pub mod Fields
pub mod Tests
pub mod SoFar
pub mod PartLaws
pub mod OnePartMore
pub mod Following
pub mod Lines
pub mod RowsBack
pub mod NumbersBack
pub mod ItemsBack
pub mod PartsBack
pub mod InOrder
pub mod Stretches
pub mod WholeBack
