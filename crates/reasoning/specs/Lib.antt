-- How the winner is found from the states alone.
pub mod Best
