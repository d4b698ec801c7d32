-- Worked examples of arrays that are their own parse.
pub mod LinesReparse
