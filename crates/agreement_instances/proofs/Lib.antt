pub mod Concrete
pub mod TwoOrders
pub mod NeverRests
pub mod Crosswise
pub mod Parted
