pub mod Grammar
pub mod Items
pub mod Readers
pub mod Texts
pub mod Words
