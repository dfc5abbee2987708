pub mod Rule
pub mod Base
