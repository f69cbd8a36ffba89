pub mod Chosen
pub mod Requests
