pub mod Accessing
pub mod Fulfilment
pub mod Growing
pub mod Latests
pub mod Ranging
pub mod Running
pub mod Seeing
pub mod Standing
