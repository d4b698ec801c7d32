pub mod RealLaws
pub mod OffsetLaws
pub mod OffsetsAtEnds
pub mod EscapeLaws
pub mod DecimalLaws
pub mod DatetimeLaws
pub mod DefaultLaws
