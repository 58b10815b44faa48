pub mod FileLaws
pub mod PartsLaws
pub mod ReaderLaws
pub mod RoundLaws
