pub mod Choice
pub mod Files
pub mod Options
pub mod laws
