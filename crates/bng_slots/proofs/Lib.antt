pub mod BitLaws
pub mod ShelfLaws
pub mod Numbered
pub mod Agreeing
pub mod SlotLaws
