pub mod Words
pub mod Line
pub mod Meaning
pub mod Word
pub mod Place
pub mod Program
pub mod Rows
pub mod View
