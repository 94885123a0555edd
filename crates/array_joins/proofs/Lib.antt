mod Firsts
mod Starts
mod Marks
mod Leasts
mod Layouts
pub mod Sizes
mod Answered
pub mod PairedUp
