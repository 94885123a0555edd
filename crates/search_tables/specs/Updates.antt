-- Tables as functions, with one entry changed. Passes on what crates above cite.
pub use Rattle.circular_lists.specs.Updates.{put}
