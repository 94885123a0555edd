pub mod Firsts
pub mod OddValues
pub mod Instances
pub mod CountLines
pub mod CountsBack
pub mod Layouts
pub mod ListsBack
pub mod OneSheet
pub mod Alike
pub mod Founds
pub mod Briefs
pub mod BriefSizes
mod SetItems
pub mod Sheets
