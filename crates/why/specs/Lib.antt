pub mod Shows
pub mod Cut
