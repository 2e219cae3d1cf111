pub mod LinesLemmas
pub mod LineRunLemmas
pub mod HexText
