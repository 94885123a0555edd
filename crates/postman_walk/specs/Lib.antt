pub mod Tours
