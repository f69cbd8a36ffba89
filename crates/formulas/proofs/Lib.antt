pub mod Grammars
pub mod Lexing
pub mod NamedTexts
pub mod Readings
