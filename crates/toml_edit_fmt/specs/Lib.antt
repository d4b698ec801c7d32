-- Cited by the contracts of this crate.
pub mod RulesView
pub mod PageView
pub mod LinesView
pub mod StateView
pub mod ValueBits
pub mod PathView
pub mod MeasureView
pub mod ValueView
pub mod MemberView
pub mod StatementView
pub mod TextView
pub mod LayoutView
pub mod Newlines
pub mod Documents
