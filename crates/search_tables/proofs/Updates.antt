-- Tables as functions, with one entry changed. Passes on what crates above cite.
pub use Rattle.circular_lists.proofs.Updates.{put_both, put_entry, put_here, put_other, put_twice}
