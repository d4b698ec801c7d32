pub mod Roots
pub mod DocumentView
pub mod Documents
pub mod Edited
pub mod HeadersView
pub mod DocumentLending
pub mod Faults
pub mod LastLines
pub mod Ordered
pub mod LaidView
pub mod Tails
pub mod Holding
pub mod LinesReparse
pub mod Headline
-- Worked examples: nothing cites them.
pub mod examples
-- What contracts of the crates below cite, for a program that lists `toml_edit` alone.
pub use Rattle.toml_edit_model.specs as model
pub use Rattle.toml_edit_laws.specs as laws
pub use Rattle.toml_edit_error.specs as error
pub use Rattle.toml_edit_datetime.specs as datetime
pub use Rattle.toml_edit_repr.specs as repr
pub use Rattle.toml_edit_key.specs as key
pub use Rattle.toml_edit_slots.specs as slots
pub use Rattle.toml_edit_io.specs as stream
pub use Rattle.toml_edit_tree.specs as tree
pub use Rattle.toml_edit_table_like.specs as table_like
pub use Rattle.toml_edit_parser.specs as parser
pub use Rattle.toml_edit_paths.specs as change
pub use Rattle.toml_edit_fits.specs as fits
pub use Rattle.toml_edit_edit_laws.specs as edits
