pub mod Spell
pub mod Plain
pub mod Put
