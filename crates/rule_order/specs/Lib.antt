pub mod Cut
pub mod Order
