pub mod KindNumbers
pub mod Handing
pub mod Rooms
pub mod JoinRooms
