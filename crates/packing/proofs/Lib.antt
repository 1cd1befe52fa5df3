pub mod Laws
pub mod WordFits
pub mod LabelFits
pub mod BookFits
pub mod OutputFits
pub mod Unpacked
pub mod Previewed
