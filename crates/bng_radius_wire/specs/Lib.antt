pub mod Codes
pub mod AttributeTypes
pub mod Attributes
pub mod Grammar
pub mod Digests
pub mod Places
pub mod Signing
