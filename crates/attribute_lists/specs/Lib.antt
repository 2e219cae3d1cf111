pub mod AttributesIn
pub mod CheckedModel
